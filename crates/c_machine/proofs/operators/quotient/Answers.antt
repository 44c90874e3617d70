use Rattle.std.proofs.Common.{◌≡◌, false, FitsSigned, Some, sym, ap, ◌∙◌, rules}
use Rattle.std.specs.Prelude.{int_div}
use Rattle.std.specs.Int.{w64}
use Rattle.r2_num.specs.Operations.{divide_fault}
use Rattle.c_machine.specs.Operators.{number, written_unless}
use Rattle.c_machine.proofs.Signs.{signed_quotient}
use Rattle.c_machine.proofs.operators.quotient.Goals as goal

pub returns-then-is_signed : goal.returns-then-is_signed
returns-then-is_signed c =
    let k = c.args.kind in
    let u = c.cast_signed.result in
    let v = c.cast_signed-then-is_signed.result in
    let f : FitsSigned w64 u = search rules in
    let g : FitsSigned w64 v = search rules in
    let fine : divide_fault k (number k c.args.a) (number k c.args.b) ≡ false = sym c.divides_wrong.ensures ∙ c.if-divides_wrong.false in
    let signs = sym c.is_signed.ensures ∙ c.if-is_signed.true in
    ap Some (c.cast_unsigned.ensures ∙ signed_quotient k c.args.a c.args.b u v f g c.cast_signed.ensures c.cast_signed-then-is_signed.ensures signs)
    ∙ sym (ap (λ t. written_unless t (int_div (number k c.args.a) (number k c.args.b))) fine)
