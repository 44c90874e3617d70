use Rattle.reference_recorder_races.proofs.Firsts.{less_more, same_more}
use Rattle.reference_recorder_races.proofs.race.lesser.Goals as goal

pub returns-then-address-best : goal.returns-then-address-best
returns-then-address-best c = λ at h k. less_more at c.args.other c.args.address c.args.race h k c.if-address-best.true

pub returns : goal.returns
returns c = λ at h k. same_more at c.args.other c.args.address c.args.race h k c.if-address-best.false
