use Rattle.std.proofs.Common.{arith}
use Rattle.r2_base.proofs.Decimals.{no_digits}
use Rattle.r2_base.proofs.numbers.positive.Goals as goal

pub returns-else-n-clause-none : goal.returns-else-n-clause-none
returns-else-n-clause-none c = λ n lt. no_digits c.args.digits.now c.in-Some.n n c.in-Some.ensures.some (omega (arith, c.in-Some.ensures.range)) (omega arith) (λ e. omega arith)
