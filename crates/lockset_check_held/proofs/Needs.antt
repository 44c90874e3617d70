-- Sets that functions may need.
use Rattle.std.proofs.Common.{◌≡◌, ℕ, ℤ, zero, suc, Bool, true, false, ◌&&◌, ◌||◌, List, [], ◌∷◌, ◌++◌, length, Option, Some, None, refl, sym, ap, subst, ◌∙◌}
use Rattle.std.specs.Ordering.{int_eq}
use mathlib.Core.Logic.{⊎_elim}
use Rattle.lockset_check_rules.specs.Mutexes.{Locks, are_held, is_held}
use Rattle.lockset_check_held.specs.declared.trail.Trail.{Trail}
use Rattle.lockset_check_held.specs.HeldSets.{need_at, needing, starting}
use Rattle.lockset_check_held.specs.Rows.{AreWithin, Includes, IsTable, IsWithin, Learns, is_on, place_in, row_at, set_by, set_of, sets_of}
use Rattle.lockset_check_held.specs.Trails.{AreRows, sets_by}
use Rattle.lockset_check_held.proofs.Members.{is_itself, same_number}
use Rattle.lockset_check_held.proofs.Places.{which}
use Rattle.lockset_check_held.proofs.Sets.{known_sets, new_within}
use Rattle.lockset_check_held.proofs.Stacks.{turned_nowhere}
use Rattle.lockset_check_held.proofs.Tables.{held_none, held_some, no_places, nothing_within, used}

-- ---- the set of a place

pub set_at : (known : List ℤ) (rows : List (List ℕ)) (place : ℕ) → set_of known (row_at rows place) ≡ need_at (sets_of known rows) place
set_at known [] zero = no_places known
set_at known [] (suc i) = no_places known
set_at known (row ∷ rows) zero = refl
set_at known (row ∷ rows) (suc i) = set_at known rows i

pub within_at : (count : ℕ) (rows : List (List ℕ)) (place : ℕ) → AreWithin count rows → IsWithin count (is_on (row_at rows place))
within_at count [] zero w = nothing_within count
within_at count [] (suc i) w = nothing_within count
within_at count (row ∷ rows) zero w = w.0
within_at count (row ∷ rows) (suc i) w = within_at count rows i w.1

-- ---- one set more

pub more_sets : (known : List ℤ) (rows : List (List ℕ)) (row : List ℕ) → sets_of known (rows ++ row ∷ []) ≡ sets_of known rows ++ set_of known row ∷ []
more_sets known [] row = refl
more_sets known (r ∷ rs) row = ap (λ (l : List Locks). set_of known r ∷ l) (more_sets known rs row)

pub more_within : (count : ℕ) (rows : List (List ℕ)) (row : List ℕ) → AreWithin count rows → IsWithin count (is_on row) → AreWithin count (rows ++ row ∷ [])
more_within count [] row w h = (h, tt)
more_within count (r ∷ rs) row w h = (w.0, more_within count rs row w.1 h)

-- ---- whether all of a set are held

-- each member of a set is held by it
self_held : (x : ℤ) (xs : Locks) → is_held x (x ∷ xs) ≡ true
self_held x xs = ap (λ (b : Bool). b || is_held x xs) (is_itself x)

all_by : (xs s : Locks) → ((m : ℤ) → is_held m xs ≡ true → is_held m s ≡ true) → are_held xs s ≡ true
all_by [] s h = refl
all_by (x ∷ xs) s h = λ j. h x (self_held x xs) j && all_by xs s (λ m e. h m (more_held m x xs e)) j
  where
    more_held : (m x : ℤ) (xs : Locks) → is_held m xs ≡ true → is_held m (x ∷ xs) ≡ true
    more_held m x xs e = by (int_eq x m) refl
      where
        by : (b : Bool) → int_eq x m ≡ b → is_held m (x ∷ xs) ≡ true
        by true f = ap (λ (b : Bool). b || is_held m xs) f
        by false f = ap (λ (b : Bool). b || is_held m xs) f ∙ e

left_true : (a b : Bool) → (a && b) ≡ true → a ≡ true
left_true true b h = refl
left_true false b h = h

right_true : (a b : Bool) → (a && b) ≡ true → b ≡ true
right_true true b h = h
right_true false b h = absurd cc

each_held : (xs s : Locks) → are_held xs s ≡ true → (m : ℤ) → is_held m xs ≡ true → is_held m s ≡ true
each_held [] s h m e = absurd cc
each_held (x ∷ xs) s h m e = by (λ f. each_held xs s (right_true (is_held x s) (are_held xs s) h) m f) (int_eq x m) refl
  where
    by : (is_held m xs ≡ true → is_held m s ≡ true) → (b : Bool) → int_eq x m ≡ b → is_held m s ≡ true
    by others true f = ap (λ (n : ℤ). is_held n s) (sym (same_number x m f)) ∙ left_true (is_held x s) (are_held xs s) h
    by others false f = others (sym (ap (λ (b : Bool). b || is_held m xs) f) ∙ e)

module _ (known : List ℤ) (t : IsTable known) (row other : List ℕ) where
  included_held : Includes row other → are_held (set_of known other) (set_of known row) ≡ true
  included_held h = all_by (set_of known other) (set_of known row) (λ m e. by m e (place_in m known) refl)
    where
      by : (m : ℤ) → is_held m (set_of known other) ≡ true → (o : Option ℕ) → place_in m known ≡ o → is_held m (set_of known row) ≡ true
      by m e None g = absurd (let no : false ≡ true = held_none m known (is_on other) t g ∙ e in cc)
      by m e (Some p) g = sym (held_some m known (is_on row) p t g) ∙ h p (held_some m known (is_on other) p t g ∙ e)

  held_included : IsWithin (length known) (is_on other) → are_held (set_of known other) (set_of known row) ≡ true → Includes row other
  held_included w h p on = ⊎_elim
      (λ lt.
      let u = used known t p lt in
      held_some u.0 known (is_on row) p t u.1 ∙ each_held (set_of known other) (set_of known row) h u.0 (sym (held_some u.0 known (is_on other) p t u.1) ∙ on))
      (λ le. absurd (let no : false ≡ true = sym (w p le) ∙ on in cc))
      (which p (length known))

  included : (r : Bool) → IsWithin (length known) (is_on other) → (r ≡ true → Includes row other) → (r ≡ false → Includes row other → ⊥) → r ≡ are_held (set_of known other) (set_of known row)
  included true w all others = sym (included_held (all refl))
  included false w all others = by (are_held (set_of known other) (set_of known row)) refl
    where
      by : (b : Bool) → are_held (set_of known other) (set_of known row) ≡ b → false ≡ are_held (set_of known other) (set_of known row)
      by false e = sym e
      by true e = absurd (others refl (held_included w e))

pub needs_held : (known : List ℤ) (held : List ℕ) (needs : List (List ℕ)) (place : ℕ) (r : Bool) → IsTable known → AreWithin (length known) needs
    → (r ≡ true → Includes held (row_at needs place)) → (r ≡ false → Includes held (row_at needs place) → ⊥) → r ≡ are_held (need_at (sets_of known needs) place) (set_of known held)
needs_held known held needs place r t w all others =
    included known t held (row_at needs place) r (within_at (length known) needs place w) all others
    ∙ ap (λ (s : Locks). are_held s (set_of known held)) (set_at known needs place)

-- ---- steps of a walk

module _ (known : List ℤ) (t : Trail) (needs : List (List ℕ)) (w : AreRows known t needs) where
  pub more_rows : (row : List ℕ) → IsWithin (length known) (is_on row) → AreRows known t (needs ++ row ∷ [])
  more_rows row h = (w.0, w.1, more_within (length known) needs row w.2 h)

  module _ (place : ℕ) (row : List ℕ) (e : row ≡ row_at needs place) where
    copy_within : IsWithin (length known) (is_on row)
    copy_within = subst (λ (r : List ℕ). IsWithin (length known) (is_on r)) (sym e) (within_at (length known) needs place w.2)

    copy_is : set_of known row ≡ need_at (sets_of known needs) place
    copy_is = ap (set_of known) e ∙ set_at known needs place

    pub again_rows : AreRows known t (needs ++ row ∷ [])
    again_rows = more_rows row copy_within

    pub again_sets : sets_by known t (needs ++ row ∷ []) ≡ needing (need_at (sets_of known needs) place) (sets_by known t needs)
    again_sets = ap (λ (sets : List Locks). record (sets_by known t needs) { needs = sets })
        (more_sets known needs row ∙ ap (λ (s : Locks). sets_of known needs ++ s ∷ []) copy_is)

    -- at the start of a function
    module _ (new : Trail) (held : new.held ≡ row) (start : new.start ≡ []) (loops : new.loops ≡ []) (kept : new.kept ≡ []) where
      pub started_rows : AreRows known new needs
      started_rows = (w.0, new_within (length known) new (subst (λ (r : List ℕ). IsWithin (length known) (is_on r)) (sym held) copy_within) start loops kept, w.2)

      pub started_sets : sets_by known new needs ≡ starting (need_at (sets_of known needs) place) (sets_by known t needs)
      started_sets =
          (λ j. sets_by known (record { held = held j; start = start j; loops = loops j; kept = kept j }) needs)
          ∙ (λ j. record {
            held = copy_is j;
            start = (ap (set_by known) (turned_nowhere (is_on row)) ∙ copy_is) j;
            loops = [];
            kept = [];
            needs = sets_of known needs;
          })

pub needed_sets : (old new : List ℤ) (t : Trail) (needs : List (List ℕ)) (w : AreRows old t needs) (l : Learns old new) (row : List ℕ) (s : Locks) → set_of new row ≡ s
    → sets_by new t (needs ++ row ∷ []) ≡ needing s (sets_by old t needs)
needed_sets old new t needs w l row s e =
    ap (λ (sets : List Locks). record (sets_by new t needs) { needs = sets }) (more_sets new needs row ∙ ap (λ (x : Locks). sets_of new needs ++ x ∷ []) e)
    ∙ ap (needing s) (known_sets old new t needs w l)
