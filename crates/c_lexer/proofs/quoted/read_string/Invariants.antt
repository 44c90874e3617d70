use Rattle.std.proofs.Common.{◌≡◌, ◌+◌, length}
use Rattle.c_lexer.specs.Texts.{string_after}
use Rattle.c_lexer.proofs.Strings.{joined}
use Rattle.c_lexer.proofs.quoted.read_string.Given as goal

abbrev pub invariant-loop-byte : goal.invariant-loop-byte
invariant-loop-byte l = record { goes_on : joined l.values.items l.len (string_after l.rest 0) ≡ string_after l.bytes 0; place : l.len + length l.rest ≡ length l.bytes }

abbrev pub decreases-loop-byte : goal.decreases-loop-byte
decreases-loop-byte l = length l.rest
