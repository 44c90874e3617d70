use Rattle.std.proofs.Common.{sym, ◌∙◌, arith, below_more}
use Rattle.std.proofs.lemmas.Bool.{true≢false}
use Rattle.reference_recorder_faults.proofs.ranges.first_constant.Goals as goal

pub returns-then-has_constant : goal.returns-then-has_constant
returns-then-has_constant c = record {
  inside = c.loop-place-test.true;
  bad = c.has_constant.ensures.0 c.if-has_constant.true;
  before = c.loop-place.invariant;
}

pub loop-place-preserved : goal.loop-place-preserved
loop-place-preserved c = below_more _ _ c.loop-place.invariant (λ s. true≢false (sym (c.has_constant.ensures.1 s) ∙ c.if-has_constant.false))

pub returns : goal.returns
returns c = λ k lt. let past = c.loop-place-test.false in c.loop-place.invariant k (omega (arith, lt, past))
