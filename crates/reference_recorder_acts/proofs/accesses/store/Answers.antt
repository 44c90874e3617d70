use Rattle.std.proofs.Common.{ap, ◌∙◌, None}
use Rattle.reference_recorder_marks.specs.declared.mark.Act.TheVariants as act
use Rattle.reference_recorder_acts.specs.Acts.{next_after}
use Rattle.reference_recorder_acts.proofs.Marked.{few_marks}
use Rattle.reference_recorder_acts.proofs.Read.{stored}
use Rattle.reference_recorder_acts.proofs.accesses.store.Goals as goal

pub next_mark-requires : goal.next_mark-requires
next_mark-requires c = let at = c.requires.1.1.at in few_marks c.requires.0 c.args.marks.now at.past at.step

pub returns : goal.returns
returns c = λ w args to. stored w c.args.marks.now c.args.thread c.args.side args c.args.addr c.args.width c.args.value to c.next_mark.result
    (c.next_mark.ensures ∙ ap (λ bytes. next_after c.args.marks.now c.args.thread c.args.side (act.Store None c.args.addr bytes)) c.in_ok-bytes.ensures)
