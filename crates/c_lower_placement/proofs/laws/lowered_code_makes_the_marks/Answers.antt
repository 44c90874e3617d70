use Rattle.c_lower_placement.proofs.Calling.{aboves, calls, threads}
use Rattle.c_lower_placement.proofs.laws.lowered_code_makes_the_marks.Goals as goal

pub returns : goal.returns
returns c s code low = record { calls = calls s code low; threads = threads s code low; above = aboves s code low }
