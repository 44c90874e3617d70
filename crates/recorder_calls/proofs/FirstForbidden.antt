-- Functions that are tested one after the other.
use Rattle.std.proofs.Common.{◌≡◌, inl, inr, ℕ, suc, ◌+◌, ◌<◌, ◌≤◌, Bool, true, false, List, length, get_or, drop, Option, Some, None, refl, sym, subst, arith}
use Rattle.std.specs.Prelude.{slice_get}
use Rattle.std.proofs.lemmas.List.{drop_all}
use Rattle.std.proofs.Math.Seq.{drop-cons}
use Rattle.c_code.specs.Machine.{is_true}
use Rattle.recorder_calls.specs.Calls.{IsFirstForbidden}

module _ (flags : List Bool) (fs : List ℕ) (i : ℕ) where
  pub here : (d : ℕ) → i < length fs → is_true (slice_get flags (get_or fs i d)) ≡ false → IsFirstForbidden flags (drop i fs) (Some (get_or fs i d))
  here d lt may = subst (λ l. IsFirstForbidden flags l (Some (get_or fs i d))) (sym (drop-cons fs i d lt)) (inl (may, refl))

  pub next : (d : ℕ) (found : Option ℕ) → i < length fs → is_true (slice_get flags (get_or fs i d)) ≡ true → IsFirstForbidden flags (drop (i + 1) fs) found → IsFirstForbidden flags (drop i fs) found
  next d found lt may h =
      let on : i + 1 ≡ suc i = omega arith in
      subst (λ l. IsFirstForbidden flags l found) (sym (drop-cons fs i d lt)) (inr (may, subst (λ n. IsFirstForbidden flags (drop n fs) found) on h))

  pub none : length fs ≤ i → IsFirstForbidden flags (drop i fs) None
  none le = subst (λ l. IsFirstForbidden flags l None) (sym (drop_all i fs le)) refl
