use Rattle.reference_recorder_acts.proofs.Marked.{few_marks}
use Rattle.reference_recorder_acts.proofs.Plain.{turned}
use Rattle.reference_recorder_acts.proofs.turns.turn.Goals as goal

pub next_mark-requires : goal.next_mark-requires
next_mark-requires c = let at = c.requires.1.1.at in few_marks c.requires.0 c.args.marks.now at.past at.step

pub returns : goal.returns
returns c = λ w args to. turned w c.args.marks.now c.args.thread c.args.side args to c.next_mark.result c.next_mark.ensures
