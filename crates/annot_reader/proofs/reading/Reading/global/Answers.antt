use Rattle.std.proofs.Common.{ℤ, List, [], ◌∷◌, ◌++◌, Option, sym, subst}
use Rattle.annot_reader.specs.Reading.{AreMutexes}
use Rattle.annot_reader.proofs.Noting.{global_tells, mutex_after}
use Rattle.annot_reader.proofs.reading.Reading.global.Goals as goal

pub returns-clause-agrees : goal.returns-clause-agrees
returns-clause-agrees c = λ d cut a h r.
    global_tells cut _ d a c.in_ok-guard.guard (c.in_ok-guard.ensures d h)
    (λ m k. record {
      functions = r.functions;
      guards = subst (λ (gs : List (Option ℤ)). AreMutexes (a.guards ++ m ∷ []) gs) (sym c.in_ok-append.ensures.ok) (mutex_after a.guards _ m c.in_ok-guard.guard r.guards k);
    })
