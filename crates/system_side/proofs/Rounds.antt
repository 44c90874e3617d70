-- The last step of each item of a schedule, and the item of a step.
use Rattle.std.proofs.Common.{◌≡◌, ℕ, zero, suc, ◌+◌, ◌-◌, ◌%◌, ◌^◌, ◌<◌, ◌≤◌, min, true, false, cond, ltb, List, [], ◌∷◌, ◌++◌, length, get_or, drop, sym, refl, ap, subst, ◌∙◌, inl, inr, arith}
use Rattle.std.specs.List.{All}
use Rattle.std.specs.List.Sorted.{IsPartitionedBy, IsPartitionPoint}
use Rattle.std.proofs.lemmas.Bool.{cases_lt, lt-ltb, le-ltb}
use Rattle.std.proofs.Common.{ltb-true}
use Rattle.std.proofs.lemmas.Bool.{false≢true}
use Rattle.std.proofs.lemmas.List.{drop_more, drop_all, append-nil}
use Rattle.std.proofs.Common.{append_assoc}
use Rattle.std.proofs.lemmas.List.Elements.{All-head, All-tail}
use Rattle.std.proofs.Math.Nat.{mod-lt, mod-eq_of_lt}
use Rattle.system_side.specs.Schedule.{round, entry, wish_at, lasts_from, IsKept}

-- what an item says of its steps
abbrev pub Some_steps : (ℕ × ℕ) → Type 0
Some_steps item = 0 < item.1

pub length_lasts : (b : ℕ) (xs : List (ℕ × ℕ)) → length (lasts_from b xs) ≡ length xs
length_lasts b [] = refl
length_lasts b (x ∷ xs) = let rest = length_lasts (b + x.1) xs in omega (arith, rest)

pub kept_length : (xs : List (ℕ × ℕ)) (ls : List ℕ) → IsKept xs ls → length ls ≡ length xs
kept_length xs ls kept = ap length kept.lasts_are ∙ length_lasts 0 xs

-- the last of all is the last step of the round
pub last_is : (b : ℕ) (xs : List (ℕ × ℕ)) (d : ℕ) → 0 < length xs → get_or (lasts_from b xs) (length xs - 1) d ≡ min (b + round xs - 1) (2 ^ 64 - 1)
last_is b [] d some = absurd (omega arith)
last_is b (x ∷ []) d some = omega arith
last_is b (x ∷ y ∷ ys) d some =
    let place : length (x ∷ y ∷ ys) - 1 ≡ suc (length (y ∷ ys) - 1) = omega arith in
    let rest : get_or (lasts_from (b + x.1) (y ∷ ys)) (length (y ∷ ys) - 1) d ≡ min (b + x.1 + round (y ∷ ys) - 1) (2 ^ 64 - 1) = last_is (b + x.1) (y ∷ ys) d (omega arith) in
    let sum : b + x.1 + round (y ∷ ys) ≡ b + round (x ∷ y ∷ ys) = omega arith in
    ap (λ k. get_or (lasts_from b (x ∷ y ∷ ys)) k d) place ∙ rest ∙ ap (λ n. min (n - 1) (2 ^ 64 - 1)) sum

-- no item ends before the first step that is left
lasts_low : (b : ℕ) (xs : List (ℕ × ℕ)) (j d : ℕ) → j < length (lasts_from b xs) → min (b - 1) (2 ^ 64 - 1) ≤ get_or (lasts_from b xs) j d
lasts_low b [] j d lt = absurd (omega arith)
lasts_low b (x ∷ xs) zero d lt = omega arith
lasts_low b (x ∷ xs) (suc j) d lt =
    let rest : min (b + x.1 - 1) (2 ^ 64 - 1) ≤ get_or (lasts_from (b + x.1) xs) j d = lasts_low (b + x.1) xs j d (omega arith) in
    omega arith

-- so they rise
pub lasts_rise : (b : ℕ) (xs : List (ℕ × ℕ)) (i j d : ℕ) → i ≤ j → j < length (lasts_from b xs) → get_or (lasts_from b xs) i d ≤ get_or (lasts_from b xs) j d
lasts_rise b [] i j d le lt = absurd (omega arith)
lasts_rise b (x ∷ xs) zero zero d le lt = omega arith
lasts_rise b (x ∷ xs) zero (suc j) d le lt = lasts_low (b + x.1) xs j d (omega arith)
lasts_rise b (x ∷ xs) (suc i) zero d le lt = absurd (omega arith)
lasts_rise b (x ∷ xs) (suc i) (suc j) d le lt = lasts_rise (b + x.1) xs i j d (omega arith) (omega arith)

pub lasts_part : (b : ℕ) (xs : List (ℕ × ℕ)) (place : ℕ) → IsPartitionedBy (λ y. ltb y place) (lasts_from b xs)
lasts_part b xs place i j d le lt passes =
    let high : get_or (lasts_from b xs) j d < place = ltb-true _ _ passes in
    let rise = lasts_rise b xs i j d le lt in
    lt-ltb (get_or (lasts_from b xs) i d) place (omega arith)

-- the item of a place is the first that ends at the place or after it
pub entry_at : (b : ℕ) (xs : List (ℕ × ℕ)) (n i : ℕ) (x : ℕ × ℕ) → All Some_steps xs → i < length xs → x ≡ get_or xs i x → b + n < 2 ^ 64 → b + n ≤ get_or (lasts_from b xs) i 0 → ((k : ℕ) → k < i → get_or (lasts_from b xs) k 0 < b + n) → x.0 ≡ entry xs n
entry_at b [] n i x counts lt is small here before = absurd (omega arith)
entry_at b (y ∷ ys) n zero x counts lt is small here before =
    let some : 0 < y.1 = All-head Some_steps y ys counts in
    rw (lt-ltb n y.1 (omega arith)) (ap (λ (z : ℕ × ℕ). z.0) is)
entry_at b (y ∷ ys) n (suc i) x counts lt is small here before =
    let passed : min (b + y.1 - 1) (2 ^ 64 - 1) < b + n = before 0 (omega arith) in
    let some : 0 < y.1 = All-head Some_steps y ys counts in
    let le : y.1 ≤ n = omega arith in
    let same : b + y.1 + (n - y.1) ≡ b + n = omega arith in
    let later : b + n ≤ get_or (lasts_from (b + y.1) ys) i 0 = here in
    rw (le-ltb n y.1 le) (entry_at (b + y.1) ys (n - y.1) i x (All-tail Some_steps y ys counts) (omega arith) is (omega arith) (omega arith) (λ k less.
    let earlier : get_or (lasts_from (b + y.1) ys) k 0 < b + n = before (suc k) (omega arith) in
    omega arith))

round_some : (xs : List (ℕ × ℕ)) → 0 < length xs → All Some_steps xs → 0 < round xs
round_some [] some counts = absurd (omega arith)
round_some (x ∷ xs) some counts = let head : 0 < x.1 = All-head Some_steps x xs counts in omega arith

-- the place of a step in its round
abbrev pub place_of : ℕ → ℕ → ℕ
place_of last step = cond (ltb (last + 1) (2 ^ 64)) (step % (last + 1)) step

pub record IsPlaceOf (xs : List (ℕ × ℕ)) (step last place : ℕ) : Type 0 where
  pub is : place ≡ step % round xs
  pub small : place < 2 ^ 64
  pub inside : place ≤ last

pub placed : (xs : List (ℕ × ℕ)) (step last : ℕ) → 0 < round xs → step < 2 ^ 64 → last ≡ min (round xs - 1) (2 ^ 64 - 1) → IsPlaceOf xs step last (place_of last step)
placed xs step last some small last_step =
    elim (cases_lt (last + 1) (2 ^ 64)) [
      | inl short ↦ (let all : last + 1 ≡ round xs = omega arith in
          let less : step % (last + 1) < last + 1 = mod-lt step (omega arith) in
          rw (lt-ltb (last + 1) (2 ^ 64) short) (record { is = ap (λ n. step % n) all; small = omega arith; inside = omega arith }))
      | inr long ↦ (let many : step < round xs = omega arith in
          rw (le-ltb (last + 1) (2 ^ 64) long) (record { is = sym (mod-eq_of_lt many); small = small; inside = omega arith }))
    ]

-- what the search among the last steps finds
pub record Finds (xs : List (ℕ × ℕ)) (step at : ℕ) : Type 0 where
  pub inside : at < length xs
  pub item : (x : ℕ × ℕ) → x ≡ get_or xs at x → x.0 ≡ wish_at xs step

pub found : (xs : List (ℕ × ℕ)) (ls : List ℕ) → IsKept xs ls → (step last at : ℕ) → step < 2 ^ 64 → last ≡ get_or ls (length xs - 1) last → IsPartitionPoint (λ y. ltb y (place_of last step) ≡ true) (λ y. ltb y (place_of last step) ≡ false) ls at → Finds xs step at
found xs ls kept step last at small last_step parts =
    let n = kept_length xs ls kept in
    let some = kept.some in
    let top : get_or ls (length xs - 1) last ≡ min (0 + round xs - 1) (2 ^ 64 - 1) = ap (λ zs. get_or zs (length xs - 1) last) kept.lasts_are ∙ last_is 0 xs last some in
    let place = placed xs step last (round_some xs some kept.counts) small (omega arith) in
    let inside : at < length xs = elim (cases_lt at (length xs)) [
      | inl lt ↦ lt
      | inr ge ↦ (let less : get_or ls (length xs - 1) last < place_of last step = ltb-true _ _ (parts.0 (length xs - 1) last (omega arith) (omega arith)) in absurd (omega (arith, place.inside)))
    ] in
    record {
      inside = inside;
      item = λ x is.
          let here : place_of last step ≤ get_or (lasts_from 0 xs) at 0 = elim (cases_lt (get_or (lasts_from 0 xs) at 0) (place_of last step)) [
            | inl lt ↦ absurd (false≢true (sym (parts.1 at 0 (omega arith) (omega arith)) ∙ ap (λ zs. ltb (get_or zs at 0) (place_of last step)) kept.lasts_are ∙ lt-ltb _ _ lt))
            | inr ge ↦ ge
          ] in
          entry_at 0 xs (place_of last step) at x kept.counts inside is (omega (arith, place.small)) (omega arith) (λ k less.
          let lower : get_or (lasts_from 0 xs) k 0 < place_of last step = ltb-true _ _ (ap (λ zs. ltb (get_or zs k 0) (place_of last step)) (sym kept.lasts_are) ∙ parts.0 k 0 (omega arith) less) in
          omega arith)
          ∙ ap (entry xs) place.is;
    }

-- the same where the place has a name
pub found_at : (xs : List (ℕ × ℕ)) (ls : List ℕ) → IsKept xs ls → (step last place at : ℕ) → step < 2 ^ 64 → last ≡ get_or ls (length xs - 1) last → place ≡ place_of last step → IsPartitionPoint (λ y. ltb y place ≡ true) (λ y. ltb y place ≡ false) ls at → Finds xs step at
found_at xs ls kept step last place at small last_step place_is parts = found xs ls kept step last at small last_step (subst (λ p. IsPartitionPoint (λ y. ltb y p ≡ true) (λ y. ltb y p ≡ false) ls at) place_is parts)

-- ---- the loop that makes them
pub record Made (xs : List (ℕ × ℕ)) (i before : ℕ) (ls : List ℕ) : Type 0 where
  pub sum : ℕ
  pub before_is : before ≡ min sum (2 ^ 64 - 1)
  pub lasts : ls ++ lasts_from sum (drop i xs) ≡ lasts_from 0 xs

pub made_none : (xs : List (ℕ × ℕ)) → Made xs 0 0 []
made_none xs = record { sum = 0; before_is = refl; lasts = refl }

pub made_more : (xs : List (ℕ × ℕ)) (i before : ℕ) (ls : List ℕ) (x : ℕ × ℕ) (last after : ℕ) (more : List ℕ) → i < length xs → x ≡ get_or xs i x → 0 < x.1 → Made xs i before ls → last ≡ min (before + (x.1 - 1)) (2 ^ 64 - 1) → after ≡ min (before + x.1) (2 ^ 64 - 1) → more ≡ ls ++ last ∷ [] → Made xs (i + 1) after more
made_more xs i before ls x last after more lt is some so_far last_is_ after_is more_is =
    let s = so_far.sum in
    let b : before ≡ min s (2 ^ 64 - 1) = so_far.before_is in
    let split : drop i xs ≡ x ∷ drop (i + 1) xs = drop_more xs i x lt ∙ ap (λ (y : ℕ × ℕ). y ∷ drop (i + 1) xs) (sym is) in
    let head : last ≡ min (s + x.1 - 1) (2 ^ 64 - 1) = omega arith in
    record {
      sum = s + x.1;
      before_is = omega arith;
      lasts = ap (λ (ms : List ℕ). ms ++ lasts_from (s + x.1) (drop (i + 1) xs)) more_is ∙ append_assoc ls (last ∷ []) (lasts_from (s + x.1) (drop (i + 1) xs)) ∙ ap (λ m. ls ++ m ∷ lasts_from (s + x.1) (drop (i + 1) xs)) head ∙ ap (λ (ys : List (ℕ × ℕ)). ls ++ lasts_from s ys) (sym split) ∙ so_far.lasts;
    }

pub made_all : (xs : List (ℕ × ℕ)) (i before : ℕ) (ls : List ℕ) → length xs ≤ i → Made xs i before ls → ls ≡ lasts_from 0 xs
made_all xs i before ls ge so_far = sym (append-nil ls) ∙ ap (λ (ys : List (ℕ × ℕ)). ls ++ lasts_from so_far.sum ys) (sym (drop_all i xs ge)) ∙ so_far.lasts
