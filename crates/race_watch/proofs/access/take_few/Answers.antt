use Rattle.race_watch.specs.Tables.{at, seen_at}
use Rattle.race_watch.proofs.Epochs.{put_access}
use Rattle.race_watch.proofs.access.take_few.Goals as goal

pub returns-then-is_quiet_of_few-clause-put : goal.returns-then-is_quiet_of_few-clause-put
returns-then-is_quiet_of_few-clause-put c = λ yes. put_access c.in-Some.part (seen_at c.args.tested.now c.args.place) (at c.args.tables.now) (at c.put_few.new.self) c.in-Some.ensures.part.1 c.in-Some.ensures.part.2 (c.put_few.ensures.put yes)
