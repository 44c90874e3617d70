use Rattle.std.proofs.Common.{◌∙◌, not, sym, ap}
use Rattle.std.specs.Prelude.{is_some}
use Rattle.recorder_state.specs.Inputs.{world_of}
use Rattle.reference_recorder_picks.specs.Picks.{free_by}
use Rattle.reference_recorder_picks.proofs.Picking.{held}
use Rattle.reference_recorder_picks.proofs.free.is_builtin_free.Goals as goal

pub returns-in-Join : goal.returns-in-Join
returns-in-Join c = λ p. c.may_join.ensures p ∙ ap (free_by (world_of c.args.inputs) p.run c.args.thread c.args.argument) (sym c.in-Join.is)

pub returns-in-Lock : goal.returns-in-Lock
returns-in-Lock c = λ p.
    let w = world_of c.args.inputs in
    ap not (c.is_held.ensures ∙ ap is_some (held w c.args.marks.now p c.args.argument))
    ∙ ap (free_by w p.run c.args.thread c.args.argument) (sym c.in-Lock.is)
