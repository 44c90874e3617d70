use Rattle.std.proofs.Common.{◌-◌, ◌≤◌, ◌<◌, ap, arith, sym, ◌∙◌, drop, ◌+◌}
use Rattle.system_side.specs.Schedule.{entry}
use Rattle.reference_recorder_picks.proofs.Rounds.{entry_here, entry_on}
use Rattle.reference_recorder_picks.proofs.schedule.thread_at.Goals as goal

pub returns-then-left-steps : goal.returns-then-left-steps
returns-then-left-steps c =
    let lt : c.loop-turn.left < c.get-item.result.1 = omega arith in
    sym (c.loop-turn.invariant ∙ entry_here c.args.schedule.now c.loop-turn.turn c.get-item.result c.loop-turn.left c.get-item.ensures lt)

pub loop-turn-preserved : goal.loop-turn-preserved
loop-turn-preserved c =
    let le : c.get-item.result.1 ≤ c.loop-turn.left = omega arith in
    c.loop-turn.invariant
    ∙ entry_on c.args.schedule.now c.loop-turn.turn c.get-item.result c.loop-turn.left c.get-item.ensures le
    ∙ ap (λ n. entry (drop (c.loop-turn.turn + 1) c.args.schedule.now) (c.loop-turn.left - n)) (sym c.from-steps.ensures)
