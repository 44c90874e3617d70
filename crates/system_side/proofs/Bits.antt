-- Masks of threads, and the first thread that may step.
use Rattle.std.proofs.Common.{◌≡◌, ◌≢◌, ℕ, zero, suc, ◌+◌, ◌-◌, ◌<◌, ◌≤◌, Bool, true, false, List, [], ◌∷◌, ◌++◌, length, min, set, Option, Some, None, IfSome, IfNone, IsNone, ◌↔◌, sym, refl, ap, ◌∙◌, inl, inr, arith}
use Rattle.std.specs.List.{range_with_len, find}
use Rattle.std.specs.Option.{option_or}
use Rattle.std.specs.Int.{bit_at}
use Rattle.std.proofs.lemmas.Bool.{cases_eq, cases_lt, false≢true}
use Rattle.std.proofs.lemmas.Option.{slice_get_past}
use Rattle.std.proofs.lemmas.List.Folds.{find-append}
use Rattle.std.proofs.lemmas.Nat.Bits.{bit_at-pow_same, bit_at-pow_other}
use Rattle.system_side.specs.declared.threads.Standing.{Standing}
use Rattle.system_side.specs.declared.threads.Standing.TheVariants.{Ready}
use Rattle.system_side.specs.Threads.{may_step, holds_of, is_ready, order_of, bit, HasBits}

-- ---- one thread changed
pub ready_set_same : (xs : List Standing) (t : ℕ) (s : Standing) → t < length xs → is_ready (set xs t s) t ≡ may_step s
ready_set_same [] t s lt = absurd (omega arith)
ready_set_same (x ∷ xs) zero s lt = refl
ready_set_same (x ∷ xs) (suc t) s lt = ready_set_same xs t s (omega arith)

pub ready_set_other : (xs : List Standing) (t u : ℕ) (s : Standing) → u ≢ t → is_ready (set xs t s) u ≡ is_ready xs u
ready_set_other [] t u s ne = refl
ready_set_other (x ∷ xs) zero zero s ne = absurd (ne refl)
ready_set_other (x ∷ xs) zero (suc u) s ne = refl
ready_set_other (x ∷ xs) (suc t) zero s ne = refl
ready_set_other (x ∷ xs) (suc t) (suc u) s ne = ready_set_other xs t u s (λ e. ne (ap suc e))

-- the mask with the thread's bit changed
pub bits_set : (xs : List Standing) (t : ℕ) (s : Standing) (before after : ℕ) → t < length xs → HasBits before xs → bit_at after t ≡ bit (may_step s) → ((u : ℕ) → u < 32 → u ≢ t → bit_at after u ≡ bit_at before u) → HasBits after (set xs t s)
bits_set xs t s before after lt bits here others = record {
  at = λ u small. elim (cases_eq u t) [
    | inl same ↦ ap (bit_at after) same ∙ here ∙ ap bit (sym (ready_set_same xs t s lt)) ∙ ap (λ k. bit (is_ready (set xs t s) k)) (sym same)
    | inr ne ↦ others u small ne ∙ bits.at u small ∙ ap bit (sym (ready_set_other xs t u s ne))
  ];
}

-- ---- one more thread
pub ready_push_same : (xs : List Standing) (t : ℕ) (s : Standing) → t ≡ length xs → is_ready (xs ++ s ∷ []) t ≡ may_step s
ready_push_same [] zero s e = refl
ready_push_same [] (suc t) s e = absurd (omega arith)
ready_push_same (x ∷ xs) zero s e = absurd (omega arith)
ready_push_same (x ∷ xs) (suc t) s e = ready_push_same xs t s (omega arith)

pub ready_push_other : (xs : List Standing) (u : ℕ) (s : Standing) → u ≢ length xs → is_ready (xs ++ s ∷ []) u ≡ is_ready xs u
ready_push_other [] zero s ne = absurd (ne refl)
ready_push_other [] (suc u) s ne = refl
ready_push_other (x ∷ xs) zero s ne = refl
ready_push_other (x ∷ xs) (suc u) s ne = ready_push_other xs u s (λ e. ne (omega arith))

pub bits_push : (xs : List Standing) (t : ℕ) (s : Standing) (before after : ℕ) → t ≡ length xs → HasBits before xs → bit_at after t ≡ bit (may_step s) → ((u : ℕ) → u ≢ t → bit_at after u ≡ bit_at before u) → HasBits after (xs ++ s ∷ [])
bits_push xs t s before after len bits here others = record {
  at = λ u small. elim (cases_eq u t) [
    | inl same ↦ ap (bit_at after) same ∙ here ∙ ap bit (sym (ready_push_same xs t s len)) ∙ ap (λ k. bit (is_ready (xs ++ s ∷ []) k)) (sym same)
    | inr ne ↦ others u ne ∙ bits.at u small ∙ ap bit (sym (ready_push_other xs u s (λ e. ne (e ∙ sym len))))
  ];
}

-- one thread, and the lowest bit
first_bit : (t : ℕ) → bit_at 1 t ≡ bit (is_ready (Ready ∷ []) t)
first_bit zero = bit_at-pow_same 0
first_bit (suc t) = bit_at-pow_other 0 (suc t) (λ e. omega arith)

pub bits_one : HasBits 1 (Ready ∷ [])
bits_one = record { at = λ t small. first_bit t }

-- ---- what a bit says
pub min_clear : (a b : ℕ) → b ≡ 0 → min a b ≡ 0
min_clear a b e = omega arith

pub min_set : (a b : ℕ) → a < 2 → b ≡ 1 → min a b ≡ a
min_set a b lt e = omega arith

bit_true : (b : Bool) → bit b ≡ 1 → b ≡ true
bit_true true e = refl
bit_true false e = absurd (omega arith)

bit_false : (b : Bool) → bit b ≡ 0 → b ≡ false
bit_false true e = absurd (omega arith)
bit_false false e = refl

pub ready_by_bit : (mask : ℕ) (xs : List Standing) → HasBits mask xs → (t : ℕ) → t < 32 → bit_at mask t ≡ 1 → is_ready xs t ≡ true
ready_by_bit mask xs bits t small is = bit_true (is_ready xs t) (sym (bits.at t small) ∙ is)

pub unready_by_bit : (mask : ℕ) (xs : List Standing) → HasBits mask xs → (t : ℕ) → t < 32 → bit_at mask t ≡ 0 → is_ready xs t ≡ false
unready_by_bit mask xs bits t small is = bit_false (is_ready xs t) (sym (bits.at t small) ∙ is)

pub unready_past : (xs : List Standing) (t : ℕ) → length xs ≤ t → is_ready xs t ≡ false
unready_past xs t le = ap (holds_of may_step) (slice_get_past xs t le)

-- ---- the first that passes in the order of a wish
module _ (p : ℕ → Bool) where
  pub find_range : (a n t : ℕ) → a ≤ t → t < a + n → p t ≡ true → ((u : ℕ) → a ≤ u → u < t → p u ≡ false) → find p (range_with_len a n) ≡ Some t
  find_range a zero t le lt is before = absurd (omega arith)
  find_range a (suc n) t le lt is before = elim (cases_eq a t) [
    | inl same ↦ rw (ap p same ∙ is) (ap Some same)
    | inr ne ↦ rw (before a (omega arith) (omega (arith, ne))) (find_range (a + 1) n t (omega (arith, ne)) (omega arith) is (λ u low high. before u (omega arith) high))
  ]

  pub find_none : (a n : ℕ) → ((u : ℕ) → a ≤ u → u < a + n → p u ≡ false) → find p (range_with_len a n) ≡ None
  find_none a zero none = refl
  find_none a (suc n) none = rw (none a (omega arith) (omega arith)) (find_none (a + 1) n (λ u low high. none u (omega arith) (omega arith)))

  joined_find : (wish : ℕ) (r : Option ℕ) → find p (range_with_len wish (32 - wish)) ≡ r → find p (order_of wish) ≡ option_or r (find p (range_with_len 0 wish))
  joined_find wish r e = find-append p (range_with_len wish (32 - wish)) (range_with_len 0 wish) ∙ ap (λ (o : Option ℕ). option_or o (find p (range_with_len 0 wish))) e

  pub found_later : (wish t : ℕ) → wish ≤ t → t < 32 → p t ≡ true → ((u : ℕ) → wish ≤ u → u < t → p u ≡ false) → find p (order_of wish) ≡ Some t
  found_later wish t le lt is before = joined_find wish (Some t) (find_range wish (32 - wish) t le (omega arith) is before)

  pub found_first : (wish t : ℕ) → ((u : ℕ) → wish ≤ u → p u ≡ false) → p t ≡ true → ((u : ℕ) → u < t → p u ≡ false) → find p (order_of wish) ≡ Some t
  found_first wish t late is before =
      let low : t < wish = elim (cases_lt t wish) [ inl lt ↦ lt | inr ge ↦ absurd (false≢true (sym (late t ge) ∙ is)) ] in
      joined_find wish None (find_none wish (32 - wish) (λ u le lt. late u le)) ∙ find_range 0 wish t (omega arith) (omega arith) is (λ u le lt. before u lt)

  pub found_none : (wish : ℕ) → ((u : ℕ) → p u ≡ false) → find p (order_of wish) ≡ None
  found_none wish none = joined_find wish None (find_none wish (32 - wish) (λ u le lt. none u)) ∙ find_none 0 wish (λ u le lt. none u)

-- ---- what `pick` answers
pub record Picks (xs : List Standing) (wish : ℕ) (r : Option ℕ) : Type 0 where
  pub first : r ≡ find (is_ready xs) (order_of wish)
  pub none : IsNone r ↔ ((t : ℕ) → is_ready xs t ≡ false)

some_ready : (xs : List Standing) (t : ℕ) → is_ready xs t ≡ true → IsNone (Some t) ↔ ((u : ℕ) → is_ready xs u ≡ false)
some_ready xs t is = (λ (e : true ≡ false). absurd (false≢true (sym e)), λ all. absurd (false≢true (sym (all t) ∙ is)))

module _ (mask : ℕ) (xs : List Standing) (bits : HasBits mask xs) (few : length xs ≤ 32) (wish : ℕ) where
  -- a bit that isn't set, or a number that no thread has
  unready : (t : ℕ) → (t < 32 → bit_at mask t ≡ 0) → is_ready xs t ≡ false
  unready t clear = elim (cases_lt t 32) [ inl small ↦ unready_by_bit mask xs bits t small (clear small) | inr big ↦ unready_past xs t (omega arith) ]

  pub picks_later : (later : ℕ) → ((i : ℕ) → i < wish → i < 32 → bit_at later i ≡ 0) → ((i : ℕ) → wish ≤ i → i < 32 → bit_at later i ≡ bit_at mask i) → (t : ℕ) → t < 32 → bit_at later t ≡ 1 → ((i : ℕ) → i < t → bit_at later i ≡ 0) → Picks xs wish (Some t)
  picks_later later below same t small is before =
      let le : wish ≤ t = elim (cases_lt t wish) [ inl lt ↦ absurd (omega (arith, below t lt small, is)) | inr ge ↦ ge ] in
      let ready : is_ready xs t ≡ true = ready_by_bit mask xs bits t small (sym (same t le small) ∙ is) in
      record {
        first = sym (found_later (is_ready xs) wish t le small ready (λ u from lt. unready u (λ less. sym (same u from less) ∙ before u lt)));
        none = some_ready xs t ready;
      }

  -- no thread from the wish on may step
  pub late_none : (later : ℕ) → ((i : ℕ) → wish ≤ i → i < 32 → bit_at later i ≡ bit_at mask i) → ((i : ℕ) → bit_at later i ≡ 0) → (u : ℕ) → wish ≤ u → is_ready xs u ≡ false
  late_none later same empty u le = unready u (λ small. sym (same u le small) ∙ empty u)

  pub picks_first : ((u : ℕ) → wish ≤ u → is_ready xs u ≡ false) → (t : ℕ) → t < 32 → bit_at mask t ≡ 1 → ((i : ℕ) → i < t → bit_at mask i ≡ 0) → Picks xs wish (Some t)
  picks_first late t small is before =
      let ready : is_ready xs t ≡ true = ready_by_bit mask xs bits t small is in
      record {
        first = sym (found_first (is_ready xs) wish t late ready (λ u lt. unready u (λ less. before u lt)));
        none = some_ready xs t ready;
      }

  pub picks_none : ((i : ℕ) → bit_at mask i ≡ 0) → Picks xs wish None
  picks_none empty = record {
    first = sym (found_none (is_ready xs) wish (λ u. unready u (λ less. empty u)));
    none = (λ e u. unready u (λ less. empty u), λ all. refl);
  }

  pub picks_rest : ((u : ℕ) → wish ≤ u → is_ready xs u ≡ false) → (r : Option ℕ) → IfSome r (λ t. t < 32) → IfSome r (λ t. bit_at mask t ≡ 1) → IfSome r (λ t. (i : ℕ) → i < t → bit_at mask i ≡ 0) → IfNone r ((i : ℕ) → bit_at mask i ≡ 0) → Picks xs wish r
  picks_rest late None small is before empty = picks_none empty
  picks_rest late (Some t) small is before empty = picks_first late t small is before
