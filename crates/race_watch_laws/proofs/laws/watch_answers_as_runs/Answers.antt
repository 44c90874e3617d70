use Rattle.race_watch_laws.proofs.Races.{answers}
use Rattle.race_watch_laws.proofs.laws.watch_answers_as_runs.Goals as goal

pub returns : goal.returns
returns c program memory past h t r write fits = answers program memory past h t r write fits
