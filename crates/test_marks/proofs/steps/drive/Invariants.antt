use Rattle.c_machine.specs.Positions.{laid}
use Rattle.c_machine.specs.Moves.{IsInside}
use Rattle.test_marks.proofs.steps.drive.Given as goal

abbrev pub invariant-loop : goal.invariant-loop
invariant-loop l = IsInside (laid l.image.code l.image.placed) l.thread.config
