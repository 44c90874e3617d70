-- The functions of the source, by number.
use Rattle.std.proofs.Common.{◌≡◌, inl, inr, ℕ, zero, suc, ◌+◌, ◌-◌, ◌<◌, ◌≤◌, Bool, true, false, cond, not, ltb, List, [], ◌∷◌, length, get_or, Some, None, refl, sym, ap, ◌∙◌, subst, arith}
use Rattle.std.specs.Prelude.{is_some, position, slice_get, unwrap_or}
use Rattle.std.specs.List.{position_or_len}
use Rattle.std.proofs.lemmas.Bool.{cases_eq, ltb-false, ltb-true, lt-ltb}
use Rattle.std.proofs.lemmas.Option.{slice_get-get_or}
use Rattle.std.proofs.lemmas.List.Sums.{position_or_len_is}
use Rattle.marks.specs.Places.{builtin_count}
use Rattle.c_code.specs.declared.code.FuncInfo.{FuncInfo}
use Rattle.c_code.specs.Machine.{Flat, func_of}
use Rattle.whole_runs.specs.World.{is_main}
use Rattle.recorder_state.specs.Inputs.{is_main_in}

pub not_below : (n m : ℕ) → m ≤ n → false ≡ ltb n m
not_below n m le = by (ltb n m) refl
  where
    by : (b : Bool) → ltb n m ≡ b → false ≡ ltb n m
    by false e = sym e
    by true e = let lt = ltb-true n m e in absurd (omega (arith, lt, le))

ltb_suc : (k n : ℕ) → ltb k n ≡ ltb (suc k) (suc n)
ltb_suc k n = by (ltb k n) refl
  where
    by : (b : Bool) → ltb k n ≡ b → ltb k n ≡ ltb (suc k) (suc n)
    by true e = let lt = ltb-true k n e in e ∙ sym (lt-ltb (suc k) (suc n) (omega (arith, lt)))
    by false e = let le = ltb-false k n e in e ∙ not_below (suc k) (suc n) (omega (arith, le))

pub there : {X : Type 0} (xs : List X) (k : ℕ) → is_some (slice_get xs k) ≡ ltb k (length xs)
there [] k = not_below k 0 (omega arith)
there (x ∷ xs) zero = sym (lt-ltb 0 (suc (length xs)) (omega arith))
there (x ∷ xs) (suc k) = there xs k ∙ ltb_suc k (length xs)

pub source_at : (code : Flat) (k : ℕ) → func_of code (16 + k) ≡ slice_get code.sources k
source_at code k =
    ap (λ b. cond b (slice_get code.builtins (16 + k)) (slice_get code.sources (16 + k - 16))) (sym (not_below (16 + k) 16 (omega arith)))
    ∙ ap (slice_get code.sources) (omega arith)

-- a function at a place
pub at_place : (fs : List FuncInfo) (k : ℕ) (d : FuncInfo) (b : Bool) → k < length fs → is_main_in (slice_get fs k) ≡ b → is_main (get_or fs k d) ≡ b
at_place fs k d b lt e = sym (ap is_main_in (slice_get-get_or fs k d lt)) ∙ e

abbrev place_in : (fs : List FuncInfo) (place : ℕ) → ℕ
place_in fs place = builtin_count + unwrap_or (cond (ltb place (length fs)) (Some place) None) 0

-- the first that is main
pub main_is : (fs : List FuncInfo) (k : ℕ) (f : FuncInfo) → k < length fs → ((j : ℕ) (d : FuncInfo) → j < k → is_main (get_or fs j d) ≡ false) → is_main (get_or fs k f) ≡ true → 16 + k ≡ builtin_count + unwrap_or (position is_main fs) 0
main_is fs k f lt none is =
    sym (ap (place_in fs) (position_or_len_is is_main fs k f (omega (arith, lt)) (λ j l. none j f l) (λ l. is))
    ∙ ap (λ b. builtin_count + unwrap_or (cond b (Some k) None) 0) (lt-ltb k (length fs) lt))

nowhere : (fs : List FuncInfo) → ((k : ℕ) (d : FuncInfo) → k < length fs → is_main (get_or fs k d) ≡ false) → position_or_len is_main fs ≡ length fs
nowhere [] h = refl
nowhere (f ∷ fs) h =
    let other : is_main f ≡ false = h zero f (omega arith) in
    let rest = nowhere fs (λ k d l. h (suc k) d (omega (arith, l))) in
    ap (λ b. cond (not b) (1 + position_or_len is_main fs) 0) other ∙ omega (arith, rest)

-- or none is
pub main_is_none : (fs : List FuncInfo) → ((k : ℕ) (d : FuncInfo) → k < length fs → is_main (get_or fs k d) ≡ false) → 16 ≡ builtin_count + unwrap_or (position is_main fs) 0
main_is_none fs none =
    sym (ap (place_in fs) (nowhere fs none)
    ∙ ap (λ b. builtin_count + unwrap_or (cond b (Some (length fs)) None) 0) (sym (not_below (length fs) (length fs) (omega arith))))

pub some_at : (fs : List FuncInfo) (k : ℕ) → k < length fs → FuncInfo
some_at [] k lt = absurd (omega (arith, lt))
some_at (f ∷ fs) zero lt = f
some_at (f ∷ fs) (suc k) lt = some_at fs k (omega (arith, lt))

pub one_more : (fs : List FuncInfo) (n : ℕ) → ((k : ℕ) (d : FuncInfo) → k < n → is_main (get_or fs k d) ≡ false) → ((d : FuncInfo) → is_main (get_or fs n d) ≡ false) → (k : ℕ) (d : FuncInfo) → k < n + 1 → is_main (get_or fs k d) ≡ false
one_more fs n before at k d lt = elim (cases_eq k n) [
  | inl e ↦ subst (λ j. is_main (get_or fs j d) ≡ false) (sym e) (at d)
  | inr ne ↦ before k d (omega (arith, lt, ne))
]
