use Rattle.std.proofs.Common.{true, false, sym, ◌∙◌}
use Rattle.marks.specs.Wants.{same_numbers}
use Rattle.steps_above_interface.proofs.Same.{differ_at, lengths_differ, read_at, same_more}
use Rattle.reference_recorder_calls.proofs.returns.same_pieces.Goals as goal

pub returns-then-a-b : goal.returns-then-a-b
returns-then-a-b c = sym (lengths_differ c.args.a.now c.args.b.now c.if-a-b.true)

pub returns-then-not-same_bytes : goal.returns-then-not-same_bytes
returns-then-not-same_bytes c =
    let x = c.index-a-at.result in
    let y = c.index-b-at.result in
    let differ = sym (c.if-not-same_bytes.ensures ∙ (λ i. same_numbers (c.as_slice.ensures i) (c.as_slice-in-loop-at.ensures i))) in
    sym (differ_at c.args.a.now c.args.b.now c.loop-at.at x y c.if-a-b.false c.loop-at-test.true
    (read_at c.args.a.now c.args.b.now c.loop-at.at x y false c.index-a-at.is c.index-b-at.is differ))

pub loop-at-preserved : goal.loop-at-preserved
loop-at-preserved c =
    let x = c.index-a-at.result in
    let y = c.index-b-at.result in
    let agree = sym (sym c.if-not-same_bytes.false ∙ c.same_bytes.ensures ∙ (λ i. same_numbers (c.as_slice.ensures i) (c.as_slice-in-loop-at.ensures i))) in
    same_more c.args.a.now c.args.b.now c.loop-at.at x y c.if-a-b.false c.loop-at-test.true c.loop-at.invariant
    (read_at c.args.a.now c.args.b.now c.loop-at.at x y true c.index-a-at.is c.index-b-at.is agree)
