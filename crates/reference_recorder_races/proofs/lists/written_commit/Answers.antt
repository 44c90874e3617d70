use Rattle.reference_recorder_races.proofs.Anys.{none_written, one_written}
use Rattle.reference_recorder_races.proofs.lists.written_commit.Goals as goal

pub returns-in-NoRegion : goal.returns-in-NoRegion
returns-in-NoRegion c = rw c.in-NoRegion.is (none_written c.args.tested)

pub returns-in-Withheld : goal.returns-in-Withheld
returns-in-Withheld c = rw c.in-Withheld.is (none_written c.args.tested)

pub returns-in-Released : goal.returns-in-Released
returns-in-Released c = rw c.in-Released.is (one_written c.args.tested c.in-Released.region c.written_piece.result c.written_piece.ensures)
