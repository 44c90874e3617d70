use Rattle.std.proofs.Common.{sym, ◌∙◌, arith, below_more}
use Rattle.std.proofs.lemmas.Bool.{true≢false}
use Rattle.reference_recorder_faults.proofs.ranges.first_dead_range.Goals as goal

pub returns-then-has_dead : goal.returns-then-has_dead
returns-then-has_dead c = λ w e low. record {
  inside = c.loop-place-test.true;
  bad = (c.has_dead.ensures w e low).0 c.if-has_dead.true;
  before = c.loop-place.invariant w e low;
}

pub loop-place-preserved : goal.loop-place-preserved
loop-place-preserved c = λ w e low. below_more _ _ (c.loop-place.invariant w e low) (λ d. true≢false (sym ((c.has_dead.ensures w e low).1 d) ∙ c.if-has_dead.false))

pub returns : goal.returns
returns c = λ w e low k lt. let past = c.loop-place-test.false in c.loop-place.invariant w e low k (omega (arith, lt, past))
