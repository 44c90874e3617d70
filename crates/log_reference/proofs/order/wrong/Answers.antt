use Rattle.std.proofs.Common.{sym, subst, ◌∙◌}
use Rattle.log_closure.specs.Events.{In, event_of, events_of}
use Rattle.log_closure.specs.Predecessors.{next}
use Rattle.log_closure.specs.Wrong.{IsMissing}
use Rattle.log_reference.proofs.Right.{twice_named, missing_named, clock_named}
use Rattle.log_reference.proofs.order.wrong.Goals as goal
use Rattle.log_reference.proofs.order.wrong.Goals.{else-whole-via-then-whole+else-lacks, else-whole-via-else-whole}

pub returns-then-is_twice-clause-wrong : goal.returns-then-is_twice-clause-wrong
returns-then-is_twice-clause-wrong c =
    twice_named c.args.whole (events_of c.args.records.now) (events_of c.args.before.now) (event_of c.args.before.now c.args.entry.now) c.name_of-name.result c.name_of-name.ensures c.if-is_twice.ensures.there

pub returns-then-lacks-clause-wrong : goal.returns-then-lacks-clause-wrong
returns-then-lacks-clause-wrong c =
    let (m, i, free) = c.if-lacks.ensures.there in
    missing_named c.args.whole (events_of c.args.records.now) (events_of c.args.before.now) (event_of c.args.before.now c.args.entry.now) c.name_of-name.result c.name_of-name.ensures c.if-is_twice.ensures.none
    (c.if-whole.true, (m, subst (In (next m)) (c.as_slice.ensures ∙ c.unpacked-keys.ensures) i, free))

pub returns-then-is_clock_wrong-clause-wrong : goal.returns-then-is_clock_wrong-clause-wrong
returns-then-is_clock_wrong-clause-wrong c =
    let there : IsMissing c.args.whole (events_of c.args.records.now) (event_of c.args.before.now c.args.entry.now) → ⊥ =
    elim c.else-whole.branch [
      | else-whole-via-then-whole+else-lacks w ↦ λ (_, (m, i, free)). free (w.if-lacks.ensures.none m (subst (In (next m)) (sym (w.as_slice.ensures ∙ c.unpacked-keys.ensures)) i))
      | else-whole-via-else-whole w ↦ λ (on, (m, i, free)). let off = w.if-whole.false in absurd cc
    ] in
    clock_named c.args.whole (events_of c.args.records.now) (events_of c.args.before.now) (event_of c.args.before.now c.args.entry.now) c.name_of-name.result c.name_of-name.ensures c.if-is_twice.ensures.none there c.if-is_clock_wrong.ensures.there
