use Rattle.std.proofs.Common.{◌≡◌, ◌^◌, ◌<◌, bit_and, bit_or, pos, ◌+ℤ◌, ◌-ℤ◌, ◌*ℤ◌, to_z, of_z, sym, ap, ◌∙◌, arith}
use Rattle.std.specs.Prelude.{bit_xor, unsigned_abs}
use Rattle.std.specs.Int.{w128, int_wrapping_mul}
use Rattle.std.proofs.lemmas.Int.{ints, to_z-of_z, to_z_pos, wrapping_mul_is, quot_is, rem_is}
use Rattle.std.proofs.lemmas.Nat.{or_lt, xor_lt, and_le_l}
use Rattle.r2_num.specs.Conversions.{wrapped, pattern_of}
use Rattle.r2_num.specs.Operations.{exact as exact_of, IsAnyValue, fault_of}
use Rattle.r2_num.proofs.Ranges.{any_value, any_right, quotient_fits}
use Rattle.r2_num.proofs.Faults.{power_fits}
use Rattle.r2_num.proofs.Same.{wrapped-int_wrap}
use Rattle.r2_num.proofs.operations.exact.Goals as goal

pub overflow_cast-result-in-Or : goal.overflow_cast-result-in-Or
overflow_cast-result-in-Or c =
    let less : bit_or c.pattern-in-Or.result c.pattern-in-Or-2.result < 2 ^ 64 = or_lt 64 c.pattern-in-Or.result c.pattern-in-Or-2.result (omega arith) (omega arith) in
    record { sfits = omega arith }

pub returns-in-Add : goal.returns-in-Add
returns-in-Add c =
    let a : IsAnyValue c.args.a = any_value c.args.kind c.args.a c.requires.left in
    let b : IsAnyValue c.args.b = any_right c.args.op c.args.kind c.args.b c.requires.right in
    let e = ap (λ o. wrapped c.args.kind (exact_of o c.args.kind c.args.a c.args.b)) c.in-Add.is in
    let sum : to_z w128 (of_z w128 (to_z w128 (of_z w128 c.args.a) +ℤ to_z w128 (of_z w128 c.args.b))) ≡ c.args.a +ℤ c.args.b = omega (arith, ints) in
    ap (wrapped c.args.kind) sum ∙ sym e

pub returns-in-Sub : goal.returns-in-Sub
returns-in-Sub c =
    let a : IsAnyValue c.args.a = any_value c.args.kind c.args.a c.requires.left in
    let b : IsAnyValue c.args.b = any_right c.args.op c.args.kind c.args.b c.requires.right in
    let e = ap (λ o. wrapped c.args.kind (exact_of o c.args.kind c.args.a c.args.b)) c.in-Sub.is in
    let difference : to_z w128 (of_z w128 (to_z w128 (of_z w128 c.args.a) -ℤ to_z w128 (of_z w128 c.args.b))) ≡ c.args.a -ℤ c.args.b = omega (arith, ints) in
    ap (wrapped c.args.kind) difference ∙ sym e

pub returns-in-Mul : goal.returns-in-Mul
returns-in-Mul c =
    let e = ap (λ o. wrapped c.args.kind (exact_of o c.args.kind c.args.a c.args.b)) c.in-Mul.is in
    ap (wrapped c.args.kind) (wrapping_mul_is w128 c.args.a c.args.b c.ranges.a c.ranges.b) ∙ (wrapped-int_wrap c.args.kind (c.args.a *ℤ c.args.b) ∙ sym e)

pub returns-in-Div : goal.returns-in-Div
returns-in-Div c =
    let a : IsAnyValue c.args.a = any_value c.args.kind c.args.a c.requires.left in
    let e = ap (λ o. wrapped c.args.kind (exact_of o c.args.kind c.args.a c.args.b)) c.in-Div.is in
    ap (wrapped c.args.kind) (quot_is w128 c.args.a c.args.b c.ranges.a c.ranges.b (quotient_fits c.args.a c.args.b a)) ∙ sym e

pub returns-in-Rem : goal.returns-in-Rem
returns-in-Rem c =
    let e = ap (λ o. wrapped c.args.kind (exact_of o c.args.kind c.args.a c.args.b)) c.in-Rem.is in
    ap (wrapped c.args.kind) (rem_is w128 c.args.a c.args.b c.ranges.a c.ranges.b) ∙ sym e

pub returns-in-Shl : goal.returns-in-Shl
returns-in-Shl c =
    let e = ap (λ o. wrapped c.args.kind (exact_of o c.args.kind c.args.a c.args.b)) c.in-Shl.is in
    let count = to_z-of_z w128 c.args.b c.ranges.b in
    ap (λ x. wrapped c.args.kind (int_wrapping_mul w128 c.args.a (pos (2 ^ unsigned_abs x)))) count ∙ (ap (wrapped c.args.kind) (wrapping_mul_is w128 c.args.a (pos (2 ^ unsigned_abs c.args.b)) c.ranges.a (power_fits c.args.kind c.args.b (sym (ap (λ o. fault_of o c.args.kind c.args.a c.args.b) c.in-Shl.is) ∙ c.requires.defined))) ∙ (wrapped-int_wrap c.args.kind (c.args.a *ℤ pos (2 ^ unsigned_abs c.args.b)) ∙ sym e))

pub returns-in-And : goal.returns-in-And
returns-in-And c =
    let e = ap (λ o. wrapped c.args.kind (exact_of o c.args.kind c.args.a c.args.b)) c.in-And.is in
    let less : bit_and c.pattern.result c.pattern-in-And.result < 2 ^ 64 = omega (arith, and_le_l c.pattern.result c.pattern-in-And.result) in
    let same : bit_and c.pattern.result c.pattern-in-And.result ≡ bit_and (pattern_of c.args.kind c.args.a) (pattern_of c.args.kind c.args.b) = ap (λ x. bit_and x c.pattern-in-And.result) (c.pattern.ensures.value ∙ ap (pattern_of c.args.kind) (to_z-of_z w128 c.args.a c.ranges.a)) ∙ ap (bit_and (pattern_of c.args.kind c.args.a)) (c.pattern-in-And.ensures.value ∙ ap (pattern_of c.args.kind) (to_z-of_z w128 c.args.b c.ranges.b)) in
    ap (wrapped c.args.kind) (to_z_pos w128 _ (omega arith) ∙ ap pos same) ∙ sym e

pub returns-in-Or : goal.returns-in-Or
returns-in-Or c =
    let e = ap (λ o. wrapped c.args.kind (exact_of o c.args.kind c.args.a c.args.b)) c.in-Or.is in
    let less : bit_or c.pattern-in-Or.result c.pattern-in-Or-2.result < 2 ^ 64 = or_lt 64 c.pattern-in-Or.result c.pattern-in-Or-2.result (omega arith) (omega arith) in
    let same : bit_or c.pattern-in-Or.result c.pattern-in-Or-2.result ≡ bit_or (pattern_of c.args.kind c.args.a) (pattern_of c.args.kind c.args.b) = ap (λ x. bit_or x c.pattern-in-Or-2.result) (c.pattern-in-Or.ensures.value ∙ ap (pattern_of c.args.kind) (to_z-of_z w128 c.args.a c.ranges.a)) ∙ ap (bit_or (pattern_of c.args.kind c.args.a)) (c.pattern-in-Or-2.ensures.value ∙ ap (pattern_of c.args.kind) (to_z-of_z w128 c.args.b c.ranges.b)) in
    ap (wrapped c.args.kind) (to_z_pos w128 _ (omega arith) ∙ ap pos same) ∙ sym e

pub returns-in-Xor : goal.returns-in-Xor
returns-in-Xor c =
    let e = ap (λ o. wrapped c.args.kind (exact_of o c.args.kind c.args.a c.args.b)) c.in-Xor.is in
    let less : bit_xor c.pattern-in-Xor.result c.pattern-in-Xor-2.result < 2 ^ 64 = xor_lt 64 c.pattern-in-Xor.result c.pattern-in-Xor-2.result (omega arith) (omega arith) in
    let same : bit_xor c.pattern-in-Xor.result c.pattern-in-Xor-2.result ≡ bit_xor (pattern_of c.args.kind c.args.a) (pattern_of c.args.kind c.args.b) = ap (λ x. bit_xor x c.pattern-in-Xor-2.result) (c.pattern-in-Xor.ensures.value ∙ ap (pattern_of c.args.kind) (to_z-of_z w128 c.args.a c.ranges.a)) ∙ ap (bit_xor (pattern_of c.args.kind c.args.a)) (c.pattern-in-Xor-2.ensures.value ∙ ap (pattern_of c.args.kind) (to_z-of_z w128 c.args.b c.ranges.b)) in
    ap (wrapped c.args.kind) (to_z_pos w128 _ (omega arith) ∙ ap pos same) ∙ sym e
