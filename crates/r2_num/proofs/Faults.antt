-- When a count is out of range, there is a fault.
use Rattle.std.proofs.Common.{◌≡◌, Bool, true, false, ◌||◌, ◌⊎◌, ℤ, pos, ◌≤ℤ◌, ◌<ℤ◌, Some, None, refl, ap, ◌∙◌, arith, lit<}
use Rattle.std.proofs.Math.Nat.{pow-le-pow_right}
use Rattle.std.specs.Prelude.{int_lt, int_le, cond, unsigned_abs, ◌^◌, ◌≤◌, negsuc, FitsSigned}
use Rattle.std.specs.Int.{w128}
use Rattle.r2_num.proofs.Ranges.{width_within}
use Rattle.std.proofs.lemmas.Int.{ints}
use mathlib.Core.Logic.{⊎_elim}
use Rattle.r2_num.specs.declared.kinds.IntKind.{IntKind}
use Rattle.r2_num.specs.declared.operations.Op.{Op}
use Rattle.r2_num.specs.declared.operations.Op.TheVariants.{Shl, Shr}
use Rattle.r2_num.specs.declared.operations.Arith.TheVariants.{Shift}
use Rattle.r2_num.specs.Kinds.{width_of}
use Rattle.r2_num.specs.Operations.{fault_of, shift_fault, ShiftsWrong}

shift_test : (k : IntKind) (b : ℤ) → (b <ℤ pos 0) ⊎ (pos (width_of k) ≤ℤ b) → shift_fault k b ≡ true
shift_test k b h = by (int_lt b (pos 0)) refl (int_le (pos (width_of k)) b) refl
  where
    by : (t : Bool) → int_lt b (pos 0) ≡ t → (u : Bool) → int_le (pos (width_of k)) b ≡ u → (t || u) ≡ true
    by true e u f = refl
    by false e true f = refl
    by false e false f = ⊎_elim (λ (l : b <ℤ pos 0). absurd (omega (arith, ints))) (λ (r : pos (width_of k) ≤ℤ b). absurd (omega (arith, ints))) h

pub shift_faults : (op : Op) (k : IntKind) (a b : ℤ) → ShiftsWrong op k b → fault_of op k a b ≡ Some Shift
shift_faults op k a b h =
    let t : shift_fault k b ≡ true = shift_test k b h.1 in
    let c : cond (shift_fault k b) (Some Shift) None ≡ Some Shift = ap (λ x. cond x (Some Shift) None) t in
    ⊎_elim (λ (e : op ≡ Shl). ap (λ o. fault_of o k a b) e ∙ c) (λ (e : op ≡ Shr). ap (λ o. fault_of o k a b) e ∙ c) h.0

-- a count that gives no fault lies below the width
pub shift_defined : (k : IntKind) (b : ℤ) → cond (shift_fault k b) (Some Shift) None ≡ None → (pos 0 ≤ℤ b) × (b <ℤ pos (width_of k))
shift_defined k b h = by (int_lt b (pos 0)) refl (int_le (pos (width_of k)) b) refl h
  where
    by : (t : Bool) → int_lt b (pos 0) ≡ t → (u : Bool) → int_le (pos (width_of k)) b ≡ u → cond (t || u) (Some Shift) None ≡ None → (pos 0 ≤ℤ b) × (b <ℤ pos (width_of k))
    by true e u f n = absurd cc
    by false e true f n = absurd cc
    by false e false f n = (omega (arith, ints), omega (arith, ints))

-- so 2 to the count fits
pub power_fits : (k : IntKind) (b : ℤ) → cond (shift_fault k b) (Some Shift) None ≡ None → FitsSigned w128 (pos (2 ^ unsigned_abs b))
power_fits k b h =
    let within = shift_defined k b h in
    let below : pos 0 ≤ℤ b = within.0 in
    let above : b <ℤ pos (width_of k) = within.1 in
    let width : width_of k ≤ 64 = width_within k in
    let count : unsigned_abs b ≤ 64 = small b below (omega (arith, ints)) in
    let power : 2 ^ unsigned_abs b ≤ 2 ^ 64 = pow-le-pow_right (lit< tt) count in
    record { sfits = omega arith }
  where
    small : (z : ℤ) → pos 0 ≤ℤ z → z ≤ℤ pos 64 → unsigned_abs z ≤ 64
    small (pos n) l h = omega (arith, ints)
    small (negsuc n) l h = omega (arith, ints)
