use Rattle.std.proofs.Common.{inr, refl}
use Rattle.std.proofs.lemmas.Result.{on_ok_weaker}
use Rattle.race_watch.specs.Tables.{at}
use Rattle.race_watch.proofs.Epochs.{put_access}
use Rattle.race_watch.proofs.access.note.Goals as goal

pub returns-in-Some-clause-noted : goal.returns-in-Some-clause-noted
returns-in-Some-clause-noted c = on_ok_weaker c.put.result (λ put. inr (refl, put_access c.in-Some.part c.args.one (at c.args.tables.now) (at c.put.new.self) c.in-Some.ensures.1 c.in-Some.ensures.2 put)) c.put.ensures.put
