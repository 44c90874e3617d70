-- What a thread that joins is answered.
use Rattle.std.proofs.Common.{◌≡◌, ◌≢◌, inl, inr, ⊎_elim, ℕ, ◌<◌, ◌≤◌, ℤ, pos, negsuc, Bool, true, false, cond, ◌&&◌, ◌||◌, not, eqb, ltb, List, length, get_or, Option, Some, None, refl, sym, ap, ◌∙◌, subst, arith, eqb-true, eq-eqb}
use Rattle.std.specs.Prelude.{is_some, slice_get, unwrap_or}
use Rattle.std.proofs.lemmas.Bool.{ltb-true, ltb-false, le-ltb, cases_eq}
use Rattle.std.proofs.lemmas.Option.{slice_get-get_or, slice_get_past}
use Rattle.marks.specs.Marks.{Mark}
use Rattle.c_code.specs.Values.{written}
use Rattle.system_side.specs.declared.threads.Standing.{Standing}
use Rattle.system_side.specs.declared.threads.Standing.TheVariants.{Ready, Waits, Ended}
use Rattle.system_side.specs.Threads.{joined, standing_of}
use Rattle.system_side.specs.Threads as threads
use Rattle.system_side.specs.System.{SystemState}
use Rattle.whole_runs.specs.World.{World}
use Rattle.whole_runs.specs.Outcomes.{minus_one, started}
use Rattle.whole_runs.specs.Threads.{has_ended, result_of}
use Rattle.whole_runs.specs.Picks.{is_other}
use Rattle.recorder_system.specs.Stands.{IsInt, IsSystemOf, int_of}
use Rattle.recorder_system.specs.Shown.{written_or_zero}
use Rattle.recorder_system.proofs.IntPatterns.{other_ints, same_ints, small_or_great}

-- -1 where no other thread is named; nothing while that runs; and then its result
pub data Joins (w : World) (past : List Mark) (t k : ℕ) : Option ℤ → Type 0 where
  apart : is_other past t k ≡ false → Joins w past t k (Some (negsuc 0))
  runs : is_other past t k ≡ true → int_of k ≡ pos k → result_of w past k ≡ None → Joins w past t k None
  ended : (v : ℤ) → is_other past t k ≡ true → result_of w past k ≡ Some (written v) → Joins w past t k (Some v)

module _ (w : World) (past : List Mark) (s : SystemState) (h : IsSystemOf w past s) (few : length s.threads ≤ 32) (t k : ℕ) where
  by_number : int_of k ≡ pos k → Joins w past t k (joined s.threads t (pos k))
  by_number is = elim (cases_eq k t) [
    | inl e ↦ subst (λ b. Joins w past t k (cond b (Some (negsuc 0)) (threads.result_of (slice_get s.threads k)))) (sym (same_ints (pos k) (pos t) (ap pos e)))
        (apart (ap (λ b. ltb k (started past) && not b) (eq-eqb k t e) ∙ none (ltb k (started past))))
    | inr ne ↦ subst (λ b. Joins w past t k (cond b (Some (negsuc 0)) (threads.result_of (slice_get s.threads k)))) (sym (other_ints (pos k) (pos t) (λ e. ne (ap number e))))
        (there (ltb k (length s.threads)) refl (ne-eqb ne))
  ]
    where
      number : ℤ → ℕ
      number (pos n) = n
      number (negsuc n) = 0

      none : (b : Bool) → (b && false) ≡ false
      none true = refl
      none false = refl

      ne-eqb : k ≢ t → eqb k t ≡ false
      ne-eqb ne = go (eqb k t) refl
        where
          go : (b : Bool) → eqb k t ≡ b → b ≡ false
          go true e = absurd (ne (eqb-true k t e))
          go false e = refl

      at : (o : Standing) → slice_get s.threads k ≡ Some o → is_other past t k ≡ true → Joins w past t k (threads.result_of (Some o))
      at Ready e other = runs other is (h.threads k Ready e)
      at (Waits wait) e other = runs other is (h.threads k (Waits wait) e).0
      at (Ended v) e other = ended v other (h.threads k (Ended v) e)

      there : (b : Bool) → ltb k (length s.threads) ≡ b → eqb k t ≡ false → Joins w past t k (threads.result_of (slice_get s.threads k))
      there true lt ne =
          let e : slice_get s.threads k ≡ Some (get_or s.threads k Ready) = slice_get-get_or s.threads k Ready (ltb-true k (length s.threads) lt) in
          let other : is_other past t k ≡ true = ap (λ n. ltb k n && not (eqb k t)) (sym h.count) ∙ (ap (λ b. b && not (eqb k t)) lt ∙ ap not ne) in
          subst (λ o. Joins w past t k (threads.result_of o)) (sym e) (at (get_or s.threads k Ready) e other)
      there false ge ne =
          let e : slice_get s.threads k ≡ None = slice_get_past s.threads k (ltb-false k (length s.threads) ge) in
          let other : is_other past t k ≡ false = ap (λ n. ltb k n && not (eqb k t)) (sym h.count) ∙ ap (λ b. b && not (eqb k t)) ge in
          subst (λ o. Joins w past t k (threads.result_of o)) (sym e) (apart other)

  by_great : (n : ℕ) → int_of k ≡ negsuc n → 32 < k → Joins w past t k (joined s.threads t (negsuc n))
  by_great n is gt =
      let count = h.count in
      apart (ap (λ b. b && not (eqb k t)) (le-ltb k (started past) (omega (arith, gt, few, count))))

  pub joins : IsInt k → Joins w past t k (joined s.threads t (int_of k))
  joins int = ⊎_elim
      (λ e. subst (λ z. Joins w past t k (joined s.threads t z)) (sym e) (by_number e))
      (λ g. subst (λ z. Joins w past t k (joined s.threads t z)) (sym g.1) (by_great g.0 g.1 g.2))
      (small_or_great k int)

-- ---- what follows

module _ (w : World) (past : List Mark) (t k : ℕ) where
  -- it is answered where the run lets it go on
  pub answered_if_free : (o : Option ℤ) → Joins w past t k o → is_some o ≡ (not (is_other past t k) || has_ended w past k)
  answered_if_free o (apart other) = ap (λ b. not b || has_ended w past k) (sym other)
  answered_if_free o (runs other is none) = sym (ap (λ b. not b || has_ended w past k) other ∙ ap is_some none)
  answered_if_free o (ended v other is) = sym (ap (λ b. not b || has_ended w past k) other ∙ ap is_some is)

  -- with what the run gives
  pub answered_so : (o : Option ℤ) → Joins w past t k o → cond (is_other past t k) (unwrap_or (result_of w past k) 0) minus_one ≡ written_or_zero o
  answered_so o (apart other) = ap (λ b. cond b (unwrap_or (result_of w past k) 0) minus_one) other
  answered_so o (runs other is none) = ap (λ b. cond b (unwrap_or (result_of w past k) 0) minus_one) other ∙ ap (λ r. unwrap_or r 0) none
  answered_so o (ended v other is) = ap (λ b. cond b (unwrap_or (result_of w past k) 0) minus_one) other ∙ ap (λ r. unwrap_or r 0) is

  pub running_one : Joins w past t k None → (is_other past t k ≡ true) × (int_of k ≡ pos k) × (result_of w past k ≡ None)
  running_one j = go None j refl
    where
      go : (o : Option ℤ) → Joins w past t k o → o ≡ None → (is_other past t k ≡ true) × (int_of k ≡ pos k) × (result_of w past k ≡ None)
      go o (apart other) e = absurd cc
      go o (runs other is none) e = (other, is, none)
      go o (ended v other is) e = absurd cc
