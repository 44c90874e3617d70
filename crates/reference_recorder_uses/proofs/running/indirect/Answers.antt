use Rattle.std.proofs.Common.{Bool, None, sym, subst}
use Rattle.replay_runs.specs.Checks.{Done, indirect_check}
use Rattle.whole_runs.specs.World.{interface}
use Rattle.reference_recorder_findings.specs.Findings.{IsFound}
use Rattle.reference_recorder_uses.proofs.running.indirect.Goals as goal

pub returns-then-indirect : goal.returns-then-indirect
returns-then-indirect c = λ w e.
    subst (λ (b : Bool). IsFound (indirect_check (interface w) b c.args.side c.args.func Done) c.mode.result) (sym c.if-indirect.true) (c.mode.ensures w e)

pub returns-else-indirect : goal.returns-else-indirect
returns-else-indirect c = λ w e.
    subst (λ (b : Bool). IsFound (indirect_check (interface w) b c.args.side c.args.func Done) None) (sym c.if-indirect.false) tt
