use Rattle.std.proofs.Common.{◌^◌, ◌≤◌, ◌+ℤ◌, ◌-ℤ◌, ◌*ℤ◌, pos, bit_and, bit_or, Some, sym, ap, ◌∙◌, arith}
use Rattle.std.specs.Prelude.{bit_xor, int_div, int_rem, unsigned_abs, option_map}
use Rattle.std.specs.Result.{result_ok}
use Rattle.std.proofs.lemmas.Nat.{and_mod, or_mod, xor_mod}
use Rattle.r2_num.specs.declared.kinds.IntKind.TheVariants.{I64}
use Rattle.r2_num.specs.declared.operations.Arith.TheVariants.{Divide, Shift}
use Rattle.r2_num.specs.Operations.{divide_fault, shift_fault}
use Rattle.c_code.specs.Values.{read, converted, arith_of}
use Rattle.c_machine.specs.Operators.{number, written_unless}
use Rattle.c_machine.proofs.Words.{converts, in_word, sum, difference, product, unread, bits}
use Rattle.c_machine.proofs.Signs.{number_is, faulting}
use Rattle.c_machine.proofs.operators.unconverted.Goals as goal

pub returns-in-Add : goal.returns-in-Add
returns-in-Add c =
    let k = c.args.kind in
    ap Some (converts k _ (read k c.args.left +ℤ read k c.args.right) (in_word k _ _ (sum k _ _ _ _ (unread k c.args.left) (unread k c.args.right))))
    ∙ sym (ap (λ op. result_ok (arith_of op k c.args.left c.args.right)) c.in-Add.is)

pub returns-in-Sub : goal.returns-in-Sub
returns-in-Sub c =
    let k = c.args.kind in
    let small : c.args.right ≤ 2 ^ 64 = omega arith in
    ap Some (converts k _ (read k c.args.left -ℤ read k c.args.right) (in_word k _ _ (difference k _ _ _ _ small (unread k c.args.left) (unread k c.args.right))))
    ∙ sym (ap (λ op. result_ok (arith_of op k c.args.left c.args.right)) c.in-Sub.is)

pub returns-in-Mul : goal.returns-in-Mul
returns-in-Mul c =
    let k = c.args.kind in
    ap Some (converts k _ (read k c.args.left *ℤ read k c.args.right) (in_word k _ _ (product k _ _ _ _ (unread k c.args.left) (unread k c.args.right))))
    ∙ sym (ap (λ op. result_ok (arith_of op k c.args.left c.args.right)) c.in-Mul.is)

pub returns-in-And : goal.returns-in-And
returns-in-And c =
    let k = c.args.kind in
    ap Some (converts k _ _ (bits bit_and k _ _ _ _ and_mod (unread k c.args.left) (unread k c.args.right)))
    ∙ sym (ap (λ op. result_ok (arith_of op k c.args.left c.args.right)) c.in-And.is)

pub returns-in-Or : goal.returns-in-Or
returns-in-Or c =
    let k = c.args.kind in
    ap Some (converts k _ _ (bits bit_or k _ _ _ _ or_mod (unread k c.args.left) (unread k c.args.right)))
    ∙ sym (ap (λ op. result_ok (arith_of op k c.args.left c.args.right)) c.in-Or.is)

pub returns-in-Xor : goal.returns-in-Xor
returns-in-Xor c =
    let k = c.args.kind in
    ap Some (converts k _ _ (bits bit_xor k _ _ _ _ xor_mod (unread k c.args.left) (unread k c.args.right)))
    ∙ sym (ap (λ op. result_ok (arith_of op k c.args.left c.args.right)) c.in-Xor.is)

pub returns-in-Div : goal.returns-in-Div
returns-in-Div c =
    let k = c.args.kind in
    let b = c.convert-in-Div.result in
    let x = number_is k c.args.left c.convert.result c.convert.ensures in
    let y = number_is k c.args.right b c.convert-in-Div.ensures in
    ap (option_map (converted k)) (c.quotient.ensures ∙ (ap (λ u. written_unless (divide_fault k u (number k b)) (int_div u (number k b))) x ∙ ap (λ v. written_unless (divide_fault k (read k c.args.left) v) (int_div (read k c.args.left) v)) y))
    ∙ (faulting k (divide_fault k (read k c.args.left) (read k c.args.right)) Divide (int_div (read k c.args.left) (read k c.args.right))
    ∙ sym (ap (λ op. result_ok (arith_of op k c.args.left c.args.right)) c.in-Div.is))

pub returns-in-Rem : goal.returns-in-Rem
returns-in-Rem c =
    let k = c.args.kind in
    let b = c.convert-in-Rem-2.result in
    let x = number_is k c.args.left c.convert-in-Rem.result c.convert-in-Rem.ensures in
    let y = number_is k c.args.right b c.convert-in-Rem-2.ensures in
    ap (option_map (converted k)) (c.remainder.ensures ∙ (ap (λ u. written_unless (divide_fault k u (number k b)) (int_rem u (number k b))) x ∙ ap (λ v. written_unless (divide_fault k (read k c.args.left) v) (int_rem (read k c.args.left) v)) y))
    ∙ (faulting k (divide_fault k (read k c.args.left) (read k c.args.right)) Divide (int_rem (read k c.args.left) (read k c.args.right))
    ∙ sym (ap (λ op. result_ok (arith_of op k c.args.left c.args.right)) c.in-Rem.is))

pub returns-in-Shl : goal.returns-in-Shl
returns-in-Shl c =
    let k = c.args.kind in
    let x = number_is k c.args.left c.convert-in-Shl.result c.convert-in-Shl.ensures in
    let b = read I64 c.args.right in
    ap (option_map (converted k)) (c.shifted_left.ensures ∙ ap (λ u. written_unless (shift_fault k b) (u *ℤ pos (2 ^ unsigned_abs b))) x)
    ∙ (faulting k (shift_fault k b) Shift (read k c.args.left *ℤ pos (2 ^ unsigned_abs b))
    ∙ sym (ap (λ op. result_ok (arith_of op k c.args.left c.args.right)) c.in-Shl.is))
