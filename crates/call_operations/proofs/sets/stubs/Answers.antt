use Rattle.std.proofs.Common.{◌≡◌, ◌+◌, ℕ, cond, ltb, length, None, ap, ◌∙◌, arith}
use Rattle.c_builtins.specs.Table.{first_source_function}
use Rattle.call_operations.specs.Sets.{below_of, stubs_of}
use Rattle.call_operations.proofs.Adding.{all_below, one_more}
use Rattle.call_operations.proofs.sets.stubs.Goals as goal

pub loop-number-preserved : goal.loop-number-preserved
loop-number-preserved c =
    let fs = c.args.functions.now in
    let i = c.args.iface.now in
    let n = c.loop-number.number in
    record {
      added = one_more (stubs_of c.args.purpose i) _ _ n c.loop-number.invariant.added
          c.in_ok-add_function.ensures.added;
      below = one_more (below_of fs i) _ _ n c.loop-number.invariant.below c.in_ok-add_function.ensures.below;
    }

pub returns : goal.returns
returns c =
    let fs = c.args.functions.now in
    let i = c.args.iface.now in
    let all : c.loop-number.number ≡ first_source_function + length fs = omega arith in
    record {
      added = λ f. c.loop-number.invariant.added f ∙
          ap (λ (n : ℕ). cond (ltb f n) (stubs_of c.args.purpose i f) None) all;
      below = λ f. c.loop-number.invariant.below f ∙ all_below fs i f c.loop-number.number all;
    }
