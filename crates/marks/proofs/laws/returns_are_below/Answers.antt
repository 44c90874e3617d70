use Rattle.marks.proofs.laws.returns_are_below.Goals as goal
use Rattle.marks.proofs.Returned.{given, free}

pub returns-clause-given : goal.returns-clause-given
returns-clause-given c = given

pub returns-clause-free : goal.returns-clause-free
returns-clause-free c = free
