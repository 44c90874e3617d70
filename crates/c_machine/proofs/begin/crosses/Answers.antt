use Rattle.std.proofs.Common.{ap, sym, ◌∙◌, ◌&&◌}
use Rattle.marks.specs.declared.side.Side.TheVariants.{Replay}
use Rattle.c_code.specs.Machine.{is_face}
use Rattle.c_code.specs.MarkLists.{same_side}
use Rattle.c_machine.specs.Positions.{laid}
use Rattle.c_machine.proofs.begin.crosses.Goals as goal

pub returns-in-Replay : goal.returns-in-Replay
returns-in-Replay c = c.is_face.ensures c.args.code.now ∙ sym (ap (λ s. same_side s Replay && is_face (laid c.args.code.now c.args.placed.now) c.args.call.func) c.in-Replay.is)
