use Rattle.std.proofs.Common.{◌<◌, ◌^◌, pos, ◌*ℤ◌, Some, ap, ◌∙◌, arith}
use Rattle.std.specs.Prelude.{unsigned_abs}
use Rattle.r2_num.specs.declared.kinds.IntKind.TheVariants.{I64}
use Rattle.r2_num.specs.Operations.{shift_fault}
use Rattle.c_code.specs.Values.{read, written}
use Rattle.c_machine.specs.Operators.{number}
use Rattle.c_machine.proofs.Signs.{shifted, counted}
use Rattle.c_machine.proofs.operators.shifted_left.Goals as goal

pub returns : goal.returns
returns c =
    let k = c.args.kind in
    let b = read I64 c.args.right in
    let small : c.args.a < 2 ^ 64 = omega arith in
    ap Some (shifted k c.args.a c.in_ok-count.count small)
    ∙ counted (shift_fault k b) c.in_ok-count.count (unsigned_abs b) (λ n. written (number k c.args.a *ℤ pos (2 ^ n))) c.in_ok-count.ensures
