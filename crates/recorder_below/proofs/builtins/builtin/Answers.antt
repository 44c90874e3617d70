use Rattle.std.proofs.Common.{sym, ◌∙◌, subst}
use Rattle.marks.specs.declared.side.Side.TheVariants.{System}
use Rattle.recorder_state.specs.Inputs.{world_of}
use Rattle.whole_runs.specs.World.{may_run}
use Rattle.recorder_plain.proofs.Breaches.{broken}
use Rattle.recorder_below.proofs.Made.{EndsBy}
use Rattle.recorder_below.proofs.Stepped.{step_breaks}
use Rattle.recorder_below.proofs.builtins.builtin.Goals as goal

pub returns-then-not-keeps_mode-clause-stopped : goal.returns-then-not-keeps_mode-clause-stopped
returns-then-not-keeps_mode-clause-stopped c =
    let off = broken c.args.indirect (may_run c.args.inputs.placed.now System c.args.func) (sym c.keeps_mode.ensures ∙ c.if-not-keeps_mode.true) in
    step_breaks (world_of c.args.inputs) c.args.state.now c.args.thread c.args.indirect c.args.func c.requires.at c.of.result
    (subst (λ r. EndsBy c.args.thread r c.of.result) c.mode_breach.ensures c.of.ensures) off.0 off.1
