use Rattle.std.proofs.Common.{arith}
use Rattle.reference_recorder_picks.proofs.Rounds.{round_more}
use Rattle.reference_recorder_picks.proofs.schedule.round_of.Goals as goal

pub loop-turn-preserved : goal.loop-turn-preserved
loop-turn-preserved c =
    let more = round_more c.args.schedule.now c.loop-turn.turn c.get-item.result c.get-item.ensures in
    record { is = omega (arith, more); few = omega arith }
