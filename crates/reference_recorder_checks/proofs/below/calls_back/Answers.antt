use Rattle.std.proofs.Common.{ℕ, Bool, true, None, IfOk, sym, ◌∙◌, subst}
use Rattle.marks.specs.declared.side.Side.TheVariants.{System}
use Rattle.replay_runs.specs.Checks.{indirect_check}
use Rattle.whole_runs.specs.World.{interface}
use Rattle.whole_runs.specs.Tests.{back_checks, full_check}
use Rattle.reference_recorder_findings.specs.Findings.{IsFound}
use Rattle.reference_recorder_checks.proofs.below.calls_back.Goals as goal

pub returns-then-is_back : goal.returns-then-is_back
returns-then-is_back c = λ w p bytes h a is.
    subst (λ (b : Bool). IsFound (back_checks w p c.args.thread c.args.func bytes b) None) (sym c.if-is_back.true ∙ c.is_back.ensures w p h a) tt

pub returns : goal.returns
returns c = λ w p bytes h a is.
    subst (λ (b : Bool). IfOk c.enters.result (IsFound (back_checks w p c.args.thread c.args.func bytes b))) (sym c.if-is_back.false ∙ c.is_back.ensures w p h a)
    (subst (λ (n : ℕ). IfOk c.enters.result (IsFound (indirect_check (interface w) true System c.args.func (full_check w p c.args.thread n)))) (sym is) (c.enters.ensures w p h))
