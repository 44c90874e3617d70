use Rattle.marks.specs.Ranges.{covers, range}
use Rattle.reference_recorder_races.proofs.OneMark.{none_met, read_met, refused_met}
use Rattle.reference_recorder_races.proofs.acts.met_access.Goals as goal

pub returns-in-Nowhere : goal.returns-in-Nowhere
returns-in-Nowhere c = rw c.in-Nowhere.is (none_met c.args.tested)

pub returns-in-Reading : goal.returns-in-Reading
returns-in-Reading c = rw c.in-Reading.is (read_met c.args.tested (covers c.in-Reading.range) c.read.result c.read.ensures)

pub returns-in-Writing : goal.returns-in-Writing
returns-in-Writing c = rw c.in-Writing.is (refused_met c.args.tested (covers c.in-Writing.range) c.refused.result c.refused.ensures)

pub returns-in-Freeing : goal.returns-in-Freeing
returns-in-Freeing c = rw c.in-Freeing.is (refused_met c.args.tested (covers (range c.in-Freeing.at 1)) c.refused-in-Freeing.result c.refused-in-Freeing.ensures)
