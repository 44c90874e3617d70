use Rattle.std.proofs.Common.{◌≡◌, ◌+◌, ◌∷◌, [], length, get_or, Some, sym, ap, ◌∙◌, subst, arith, length-append}
use Rattle.marks.specs.Ranges.{are_bytes}
use Rattle.whole_runs.specs.Memory.{real}
use Rattle.reference_recorder_marks.specs.Marks.{past}
use Rattle.reference_recorder_acts.specs.Bytes.{IsRead}
use Rattle.reference_recorder_acts.proofs.Read.{inside_range, read_has, read_more}
use Rattle.reference_recorder_acts.proofs.bytes.bytes_in.Goals as goal

pub overflow_add-range : goal.overflow_add-range
overflow_add-range c =
    let low = (c.requires.each (c.args.range.addr + c.loop-offset.offset) (inside_range c.args.range c.loop-offset.offset c.loop-offset-test.true)).low in
    omega (arith, low)

pub unreachable-requires : goal.unreachable-requires
unreachable-requires c =
    (c.requires.each (c.args.range.addr + c.loop-offset.offset) (inside_range c.args.range c.loop-offset.offset c.loop-offset-test.true)).live
    (sym (c.real.ensures c.requires.world c.requires.objects) ∙ c.in_default.is)

pub loop-offset-preserved : goal.loop-offset-preserved
loop-offset-preserved c = record {
  count =
      let one = ap length c.in_ok-push.ensures.items in
      let many = length-append c.loop-offset.bytes.items (c.in-Some.byte ∷ []) in
      let before = c.loop-offset.invariant.count in
      omega (arith, one, many, before);
  each = λ w same k lt.
      let memory = real w (past c.args.marks.now) in
      subst (λ bytes. memory (c.args.range.addr + k) ≡ Some (get_or bytes k 0)) (sym c.in_ok-push.ensures.items)
      (read_more memory c.args.range.addr c.loop-offset.bytes.items c.in-Some.byte c.loop-offset.offset c.loop-offset.invariant.count
      (c.loop-offset.invariant.each w same) (sym (c.real.ensures w same) ∙ c.in-Some.is) k lt);
}

pub returns : goal.returns
returns c = λ w same.
    let count = c.loop-offset.invariant.count in
    subst (IsRead w c.args.marks.now c.args.range) (sym c.from.ensures) (record {
      count = omega (arith, count);
      small = ap are_bytes (sym c.deref.ensures.value) ∙ c.check.ensures;
      has = read_has (real w (past c.args.marks.now)) c.args.range.addr c.loop-offset.bytes.items
          (λ k lt. c.loop-offset.invariant.each w same k (omega (arith, lt, count)));
    })
