use Rattle.race_watch_laws.proofs.Races.{knows_the_run}
use Rattle.race_watch_laws.proofs.laws.watch_knows_what_runs_tell.Goals as goal

pub returns : goal.returns
returns c program memory past h = knows_the_run program memory past h
