use Rattle.std.proofs.Common.{◌≡◌, Some, take, drop, ◌++◌, ◌∷◌, [], ◌+◌, ap, subst}
use Rattle.log_closure.specs.declared.error.OrderError.{OrderError}
use Rattle.log_closure.specs.Events.{event_of, events_of, events_after}
use Rattle.log_closure.specs.Wrong.{AreRight, IsRight, IsFirstWrong}
use Rattle.log_reference.proofs.Splits.{each_none}
use Rattle.log_reference.proofs.Files.{events_split, each_event, each_of_all}
use Rattle.log_reference.proofs.Right.{right_none, first_one}
use Rattle.log_reference.proofs.order.first_wrong_event.Goals as goal

found : (c : goal.In-Some) → IsFirstWrong c.args.whole (events_of c.args.records.now) c.in-Some.error
found c =
    let rs = c.args.records.now in
    let i = c.loop-at.at in
    let r = c.index-records-at.result in
    (events_of (take i rs), event_of (take i rs) r, events_after (take i rs ++ r ∷ []) (drop (i + 1) rs), events_split rs i r c.loop-at-test.true c.index-records-at.is, c.loop-at.invariant, c.in-Some.ensures.wrong)

passed : (c : goal.After-loop-at) → AreRight c.args.whole (events_of c.args.records.now) (events_of c.args.records.now)
passed c = each_of_all (IsRight c.args.whole (events_of c.args.records.now)) c.args.records.now c.loop-at.at c.loop-at-test.false c.loop-at.invariant

pub loop-at-init : goal.loop-at-init
loop-at-init c = each_none (IsRight c.args.whole (events_of c.args.records.now))

pub returns-in-Some-clause-right : goal.returns-in-Some-clause-right
returns-in-Some-clause-right c = (λ e. absurd cc, λ right. absurd (right_none c.args.whole (events_of c.args.records.now) c.in-Some.error right (found c)))

pub returns-in-Some-clause-wrong : goal.returns-in-Some-clause-wrong
returns-in-Some-clause-wrong c = λ error. (
  λ e. let same : c.in-Some.error ≡ error = cc in subst (IsFirstWrong c.args.whole (events_of c.args.records.now)) same (found c),
  λ w. ap (λ (x : OrderError). Some x) (first_one c.args.whole (events_of c.args.records.now) c.in-Some.error error (found c) w),
)

pub loop-at-preserved : goal.loop-at-preserved
loop-at-preserved c = each_event (IsRight c.args.whole (events_of c.args.records.now)) c.args.records.now c.loop-at.at c.index-records-at.result c.loop-at-test.true c.index-records-at.is c.loop-at.invariant c.in_default.ensures.right

pub returns-clause-right : goal.returns-clause-right
returns-clause-right c = (λ _. passed c, λ _. cc)

pub returns-clause-wrong : goal.returns-clause-wrong
returns-clause-wrong c = λ error. (λ e. absurd cc, λ w. absurd (right_none c.args.whole (events_of c.args.records.now) error (passed c) w))
