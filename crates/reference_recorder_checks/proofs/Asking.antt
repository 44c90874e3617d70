-- What is known where the tests of a step are asked for.
use Rattle.std.proofs.Common.{◌≡◌, ℕ, List, subst}
use Rattle.marks.specs.declared.side.Side.{Side}
use Rattle.marks.specs.Marks.{Mark}
use Rattle.marks.specs.Wants.{Want}
use Rattle.whole_runs.specs.World.{World}
use Rattle.recorder_threads.specs.declared.wants.Want.{Want as Told}
use Rattle.recorder_threads.specs.Wants.{IsTold}
use Rattle.reference_recorder_given.specs.declared.gives.Given.{Given as ToldGiven}
use Rattle.reference_recorder_checks.specs.Asked.{IsAsked}

-- what is told of the want, where it is this
pub told_so : {w : World} {p : List Mark} {t : ℕ} {side : Side} {args : List ℕ} {said : Told} {gave : ToldGiven} {wanted : Want} (q : Told) →
    IsAsked w p t side args said gave wanted → said ≡ q → IsTold w.laid args q wanted
told_so {w = w} {args = args} {wanted = wanted} q h e = subst (λ x. IsTold w.laid args x wanted) e h.told
