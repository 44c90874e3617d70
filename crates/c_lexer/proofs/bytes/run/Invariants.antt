use Rattle.std.proofs.Common.{◌≡◌, ◌+◌, drop}
use Rattle.c_lexer.specs.Bytes.{run, test_of}
use Rattle.c_lexer.proofs.bytes.run.Given as goal

abbrev pub invariant-loop-at : goal.invariant-loop-at
invariant-loop-at l = l.at + run (test_of l.class) (drop l.at l.bytes) ≡ run (test_of l.class) l.bytes
