use Rattle.std.proofs.Common.{false, refl, subst, arith}
use Rattle.race_watch.specs.Stands.{AnswersBy}
use Rattle.steps_above_memory.specs.Refusals.{refusal_by}
use Rattle.steps_above_memory.proofs.Accesses.{load_made, load_refused}
use Rattle.steps_above_memory.proofs.Ranges.{found_at, raced_alone}
use Rattle.steps_above_memory.proofs.above.MemoryAbove.load.Goals as goal

pub returns-in-Ok-access-clause-loaded : goal.returns-in-Ok-access-clause-loaded
returns-in-Ok-access-clause-loaded c = λ origin.
    load_made c.args.self.now _ c.args.thread c.args.addr c.args.width c.in-Ok.value origin c.requires.in_range (omega arith) (c.in-Ok.ensures.allowed.0 refl) c.in-Ok.ensures.number refl
    (subst (AnswersBy c.args.self.now.watch c.args.thread (record { addr = c.args.addr; len = c.args.width }) false) c.in-Ok-access.is c.access.ensures.answers)
    c.in-Ok-access.ensures.told

pub returns-in-Err-access-clause-refused : goal.returns-in-Err-access-clause-refused
returns-in-Err-access-clause-refused c =
    load_refused c.args.self.now c.args.thread c.args.addr c.args.width (refusal_by c.in-Err-access.error) c.by.result
    (raced_alone c.args.self.now c.args.thread false (record { addr = c.args.addr; len = c.args.width }) (omega arith) c.in-Err-access.error (c.in-Ok.ensures.allowed.0 refl)
    (subst (AnswersBy c.args.self.now.watch c.args.thread (record { addr = c.args.addr; len = c.args.width }) false) c.in-Err-access.is c.access.ensures.answers))
    c.by.ensures

pub returns-in-Err-clause-refused : goal.returns-in-Err-clause-refused
returns-in-Err-clause-refused c =
    load_refused c.args.self.now c.args.thread c.args.addr c.args.width c.found.result c.found.result
    (found_at c.args.self.now c.args.thread false (record { addr = c.args.addr; len = c.args.width }) c.in-Err.refusal c.found.result c.found.ensures ((c.load.ensures.refused c.in-Err.refusal).0 c.in-Err.is))
    refl
