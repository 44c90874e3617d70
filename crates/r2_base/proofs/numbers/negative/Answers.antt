use Rattle.std.proofs.Common.{suc, arith}
use Rattle.r2_base.proofs.Decimals.{no_digits}
use Rattle.r2_base.proofs.numbers.negative.Goals as goal

pub returns-then-n-eq0-clause-none : goal.returns-then-n-eq0-clause-none
returns-then-n-eq0-clause-none c = λ n lt. no_digits c.args.digits.now c.in-Some.n (suc n) c.in-Some.ensures.some (omega (arith, c.in-Some.ensures.range)) (omega arith) (λ e. omega arith)

pub returns-then-n-clause-none : goal.returns-then-n-clause-none
returns-then-n-clause-none c = λ n lt. no_digits c.args.digits.now c.in-Some.n (suc n) c.in-Some.ensures.some (omega (arith, c.in-Some.ensures.range)) (omega arith) (λ e. omega arith)
