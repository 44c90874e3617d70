-- Rounds of a schedule.
use Rattle.std.proofs.Common.{◌≡◌, ℕ, suc, ◌+◌, ◌-◌, ◌<◌, ◌≤◌, Bool, true, false, cond, List, [], ◌∷◌, ◌++◌, length, Some, take, drop, refl, ap, ◌∙◌, arith}
use Rattle.std.specs.Prelude.{nat_lt, slice_get}
use Rattle.std.specs.List.{All, Contains}
use Rattle.std.proofs.Math.Seq.{drop-cons}
use Rattle.std.proofs.lemmas.Bool.{le-ltb, lt-ltb}
use Rattle.std.proofs.lemmas.List.{take_more}
use Rattle.std.proofs.lemmas.List.Elements.{All-head}
use Rattle.std.proofs.lemmas.Option.{get_or_from_slice_get, slice_get_within}
use Rattle.system_side.specs.Schedule.{entry, round}

round_append : (xs : List (ℕ × ℕ)) (y : ℕ × ℕ) → round (xs ++ y ∷ []) ≡ round xs + y.1
round_append [] y = omega arith
round_append (x ∷ xs) y = let ih = round_append xs y in omega (arith, ih)

pub round_more : (xs : List (ℕ × ℕ)) (i : ℕ) (y : ℕ × ℕ) → slice_get xs i ≡ Some y → round (take (i + 1) xs) ≡ round (take i xs) + y.1
round_more xs i y is =
    ap round (take_more xs i y (slice_get_within xs i y is) ∙ ap (λ (x : ℕ × ℕ). take i xs ++ x ∷ []) (get_or_from_slice_get xs i y y is))
    ∙ round_append (take i xs) y

pub round_some : (xs : List (ℕ × ℕ)) → 0 < length xs → All (λ (x : ℕ × ℕ). 0 < x.1) xs → 0 < round xs
round_some [] lt h = absurd (omega (arith, lt))
round_some (x ∷ xs) lt h = let here : 0 < x.1 = All-head (λ (x : ℕ × ℕ). 0 < x.1) x xs h in omega (arith, here)

-- ---- the thread at a place

turn_here : (xs : List (ℕ × ℕ)) (i : ℕ) (y : ℕ × ℕ) → slice_get xs i ≡ Some y → drop i xs ≡ y ∷ drop (i + 1) xs
turn_here xs i y is =
    let next : suc i ≡ i + 1 = omega arith in
    drop-cons xs i y (slice_get_within xs i y is) ∙ (λ j. get_or_from_slice_get xs i y y is j ∷ drop (next j) xs)

pub entry_here : (xs : List (ℕ × ℕ)) (i : ℕ) (y : ℕ × ℕ) (left : ℕ) → slice_get xs i ≡ Some y → left < y.1 → entry (drop i xs) left ≡ y.0
entry_here xs i y left is lt =
    ap (λ ys. entry ys left) (turn_here xs i y is)
    ∙ ap (λ b. cond b y.0 (entry (drop (i + 1) xs) (left - y.1))) (lt-ltb left y.1 lt)

pub entry_on : (xs : List (ℕ × ℕ)) (i : ℕ) (y : ℕ × ℕ) (left : ℕ) → slice_get xs i ≡ Some y → y.1 ≤ left → entry (drop i xs) left ≡ entry (drop (i + 1) xs) (left - y.1)
entry_on xs i y left is le =
    ap (λ ys. entry ys left) (turn_here xs i y is)
    ∙ ap (λ b. cond b y.0 (entry (drop (i + 1) xs) (left - y.1))) (le-ltb left y.1 le)

-- it is one of those of the turns
pub entry_small : (xs : List (ℕ × ℕ)) (place n : ℕ) → 0 < n → ((item : ℕ × ℕ) → Contains xs item → item.0 < n) → entry xs place < n
entry_small [] place n some h = some
entry_small (x ∷ xs) place n some h =
    by (nat_lt place x.1) (h x (0, omega arith, refl)) (entry_small xs (place - x.1) n some (λ y c. let lt = c.1 in h y (suc c.0, omega (arith, lt), c.2)))
  where
    by : (b : Bool) → x.0 < n → entry xs (place - x.1) < n → cond b x.0 (entry xs (place - x.1)) < n
    by true p q = p
    by false p q = q
