use Rattle.std.proofs.Common.{arith}
use Rattle.c_lexer.proofs.Digits.{over}
use Rattle.c_lexer.proofs.number.value_of.Goals as goal

pub returns-then-value-clause-too_big : goal.returns-then-value-clause-too_big
returns-then-value-clause-too_big c none = over c.args.base c.loop-digit.value c.digit_of.result c.loop-digit.digit-index c.args.digits.now _ c.requires.low c.loop-digit.invariant.so_far c.loop-digit-test.true c.digit_of.ensures (omega arith)
