use Rattle.std.proofs.Common.{ℕ, refl, sym, subst}
use Rattle.marks.specs.Ranges.{range}
use Rattle.recorder_state.specs.Inputs.{world_of}
use Rattle.reference_recorder_acts.specs.Bytes.{AreThere, IsRead}
use Rattle.reference_recorder_acts.proofs.Marked.{few_marks}
use Rattle.reference_recorder_acts.proofs.Read.{load_there, loaded}
use Rattle.reference_recorder_acts.proofs.accesses.load.Goals as goal

pub bytes_in-requires : goal.bytes_in-requires
bytes_in-requires c = subst (λ (n : ℕ). AreThere c.args.inputs.placed.now c.args.marks.now (range c.args.addr n)) (sym c.from.ensures)
    (load_there (world_of c.args.inputs) c.args.marks.now c.args.thread c.args.side c.requires.0 c.args.addr c.args.width c.requires.1 c.args.inputs.placed.now refl)

pub next_mark-requires : goal.next_mark-requires
next_mark-requires c = let at = c.requires.1.at in few_marks (world_of c.args.inputs) c.args.marks.now at.past at.step

pub returns : goal.returns
returns c = λ args to.
    let w = world_of c.args.inputs in
    let read : IsRead w c.args.marks.now (range c.args.addr c.args.width) c.in_ok-bytes.bytes =
    subst (λ (n : ℕ). IsRead w c.args.marks.now (range c.args.addr n) c.in_ok-bytes.bytes) c.from.ensures (c.in_ok-bytes.ensures w refl) in
    loaded w c.args.marks.now c.args.thread c.args.side args c.args.addr c.args.width to c.in_ok-bytes.bytes read c.next_mark.result c.next_mark.ensures
