use Rattle.whole_runs_seen.proofs.laws.suited_runs_are_of_the_program.Goals as goal
use Rattle.whole_runs_seen.proofs.OfProgram.{of_program}

pub returns : goal.returns
returns c = of_program
