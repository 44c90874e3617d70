use Rattle.std.proofs.Common.{sym, ◌∙◌, arith}
use Rattle.std.proofs.lemmas.Bool.{true≢false}
use Rattle.marks.specs.declared.range.Range.{Range}
use Rattle.recorder_memory.specs.Answers.{regions_of}
use Rattle.recorder_memory.proofs.Filled.{all_filled, count_of, first_unfilled}
use Rattle.recorder_memory.proofs.answers.first_spoiled.Goals as goal

pub returns-then-not-is_filled : goal.returns-then-not-is_filled
returns-then-not-is_filled c =
    let none : Range = record { addr = 0; len = 0 } in
    let n = count_of (regions_of c.args.spaces.now c.args.thread) c.args.outs.now c.requires.regions in
    first_unfilled c.args.spaces.now.bytes
    (regions_of c.args.spaces.now c.args.thread) c.args.outs.now c.args.used.now c.args.count c.loop-i.i none c.requires.regions
    (omega arith) (omega (arith, n)) (omega arith) c.loop-i.invariant
    (λ f. true≢false (sym (c.is_filled.ensures.1 f) ∙ c.if-not-is_filled.true))

pub returns : goal.returns
returns c =
    let n = count_of (regions_of c.args.spaces.now c.args.thread) c.args.outs.now c.requires.regions in
    all_filled c.args.spaces.now.bytes (regions_of c.args.spaces.now c.args.thread) c.args.used.now c.args.count (omega (arith, n)) (omega arith) (λ k lt. c.loop-i.invariant k (omega arith))
