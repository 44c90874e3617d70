use Rattle.std.proofs.Common.{◌≡◌, ℕ, Some, ap, subst}
use Rattle.log_codec.specs.Kept.{IsFirstWrong}
use Rattle.log_reference.proofs.Prefixes.{none_begin, whole_begins, first_one, begins_none}
use Rattle.log_reference.proofs.bytes.first_wrong_byte.Goals as goal

wrong_here : (c : goal.Then-not-branch) → IsFirstWrong c.args.bytes.now c.loop-at.at
wrong_here c = record {
  within = c.loop-at-test.true;
  before = c.loop-at.invariant;
  here = λ h. let yes = c.in_ok-begins_log.ensures.1 h in let free = c.if-not-branch.true in absurd cc;
}

pub loop-at-init : goal.loop-at-init
loop-at-init c = none_begin

pub returns-then-not-branch-clause-begins : goal.returns-then-not-branch-clause-begins
returns-then-not-branch-clause-begins c = (λ e. absurd cc, λ h. absurd (begins_none c.args.bytes.now c.loop-at.at h (wrong_here c)))

pub returns-then-not-branch-clause-wrong : goal.returns-then-not-branch-clause-wrong
returns-then-not-branch-clause-wrong c = λ n. (
  λ e. let same : c.loop-at.at ≡ n = cc in subst (IsFirstWrong c.args.bytes.now) same (wrong_here c),
  λ w. ap (λ (m : ℕ). Some m) (first_one c.args.bytes.now c.loop-at.at n (wrong_here c) w),
)

pub loop-at-preserved : goal.loop-at-preserved
loop-at-preserved c = c.in_ok-begins_log.ensures.0 c.if-not-branch.false

pub returns-clause-begins : goal.returns-clause-begins
returns-clause-begins c = (λ _. whole_begins c.args.bytes.now c.loop-at.at c.loop-at-test.false c.loop-at.invariant, λ _. cc)

pub returns-clause-wrong : goal.returns-clause-wrong
returns-clause-wrong c = λ n. (λ e. absurd cc, λ w. absurd (begins_none c.args.bytes.now n (whole_begins c.args.bytes.now c.loop-at.at c.loop-at-test.false c.loop-at.invariant) w))
