-- Numbers that are read digit by digit.
use Rattle.std.proofs.Common.{◌≡◌, ℕ, ◌+◌, ◌*◌, ◌-◌, ◌<◌, ◌≤◌, Bool, true, false, cond, leb, ◌&&◌, List, [], ◌∷◌, length, get_or, drop, Some, None, refl, ◌∙◌, arith}
use Rattle.std.proofs.lemmas.List.{at_drop_more}
use Rattle.std.specs.Option.{option_and_then}
use Rattle.std.proofs.lemmas.Bool.Decides.{nat_tests}
use Rattle.sys_script_lines.specs.Numbers.{digits_from, is_digit, within}

pub within_above : (least most n : ℕ) → most < n → within least most n ≡ None
within_above least most n lt = grind (arith, nat_tests)

pub within_below : (least most n : ℕ) → n < least → within least most n ≡ None
within_below least most n lt = grind (arith, nat_tests)

pub within_is : (least most n : ℕ) → least ≤ n → n ≤ most → within least most n ≡ Some n
within_is least most n low high = grind (arith, nat_tests)

-- more digits make no number smaller
pub digits_above : (most n : ℕ) (text : List ℕ) → most < n → option_and_then (within 0 most) (digits_from n text) ≡ None
digits_above most n [] lt = within_above 0 most n lt
digits_above most n (b ∷ bs) lt =
    elim (is_digit b) as (λ t. option_and_then (within 0 most) (cond t (digits_from (n * 10 + (b - 48)) bs) None) ≡ None) [
      | true ↦ digits_above most (n * 10 + (b - 48)) bs (omega arith)
      | false ↦ refl
    ]

-- what stands before and after the test of the least number
below_by : (least most n : ℕ) → (t : Bool) → leb n most ≡ t → (m : ℕ) → cond (leb 0 n && leb n most) (Some n) None ≡ Some m → (n ≡ m) × (n ≤ most)
below_by least most n t e m is = grind (arith, nat_tests)

pub within_some : (most n m : ℕ) → within 0 most n ≡ Some m → (n ≡ m) × (n ≤ most)
within_some most n m is = below_by 0 most n (leb n most) refl m is

none_above : (least most n : ℕ) → least ≤ n → None ≡ within least most n → most < n
none_above least most n low is = grind (arith, nat_tests)

refused_by : (most n b : ℕ) (bs : List ℕ) (t : Bool) → None ≡ cond t (within 0 most (n * 10 + (b - 48))) None → option_and_then (within 0 most) (cond t (digits_from (n * 10 + (b - 48)) bs) None) ≡ None
refused_by most n b bs true is = digits_above most (n * 10 + (b - 48)) bs (none_above 0 most (n * 10 + (b - 48)) (omega arith) is)
refused_by most n b bs false is = refl

-- a byte that can't go on a number
pub digit_refused : (most n i : ℕ) (text : List ℕ) → i < length text → None ≡ cond (is_digit (get_or text i 0)) (within 0 most (n * 10 + (get_or text i 0 - 48))) None
    → option_and_then (within 0 most) (digits_from n (drop i text)) ≡ None
digit_refused most n i text lt is = at_drop_more (λ bs. option_and_then (within 0 most) (digits_from n bs)) text i 0 lt ∙ refused_by most n (get_or text i 0) (drop (i + 1) text) (is_digit (get_or text i 0)) is
