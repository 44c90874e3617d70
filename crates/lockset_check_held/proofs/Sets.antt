-- Steps of a walk.
use Rattle.std.proofs.Common.{◌≡◌, ℕ, ℤ, ◌<◌, length, Bool, true, false, not, ◌&&◌, List, [], ◌∷◌, drop, map, Option, Some, None, is_some, refl, sym, ap, subst, ◌∙◌}
use Rattle.std.specs.Prelude.{nat_eq, slice_get}
use Rattle.std.specs.Cmp.Rules.{signed_items}
use mathlib.Core.Logic.{⊎_elim}
use Rattle.lockset_check_rules.specs.Mutexes.{Locks, is_held, same, shared, with_lock, without_lock}
use Rattle.lockset_check_held.specs.declared.trail.Trail.{Trail}
use Rattle.lockset_check_held.specs.Changes.{Adds, AreBoth, Changes, ChangesWithin, Drops, sets_after, first_changes, is_turned, one_of, turned}
use Rattle.lockset_check_held.specs.HeldSets.{HeldSets, at_first, entering, forgetting, going_back, head, is_same_as, joining, keeping, leaving, or, restarting, shared_with, turning}
use Rattle.lockset_check_held.specs.Rows.{AreWithin, IsTable, IsWithin, Learns, is_on, place_in, set_by, set_of, sets_of}
use Rattle.lockset_check_held.specs.Trails.{AreRows, IsTrailWithin, TrailStays, Turns, sets_by}
use Rattle.lockset_check_held.proofs.Changes.{nothing_turned, turned_within}
use Rattle.lockset_check_held.proofs.Members.{held_shared, same_members}
use Rattle.lockset_check_held.proofs.Places.{shared_ascends, which}
use Rattle.lockset_check_held.proofs.Stacks.{turned_nowhere, turned_over, turned_twice}
use Rattle.lockset_check_held.proofs.Tables.{added, all_within_more, held_none, held_some, not_added, not_held, not_known, nothing_within, place_within, removed, set_ascends, sets_stay, used, within_more}

-- ---- before the first function

pub nothing_yet : (known : List ℤ) (t : Trail) (needs : List (List ℕ)) → known ≡ [] → t.held ≡ [] → t.start ≡ [] → t.loops ≡ [] → t.kept ≡ [] → needs ≡ []
    → sets_by known t needs ≡ at_first
nothing_yet known t needs a b c d e f = λ j. sets_by (a j) (record { held = b j; start = c j; loops = d j; kept = e j }) (f j)

pub new_within : (count : ℕ) (t : Trail) → IsWithin count (is_on t.held) → t.start ≡ [] → t.loops ≡ [] → t.kept ≡ [] → IsTrailWithin count t
new_within count t w c d e = (
  w,
  subst (λ (a : Changes). IsWithin count (is_turned a)) (sym c) (λ p le. nothing_turned p),
  subst (ChangesWithin count) (sym d) tt,
  subst (ChangesWithin count) (sym e) tt,
)

pub first_rows : (known : List ℤ) (t : Trail) (needs : List (List ℕ)) → known ≡ [] → t.held ≡ [] → t.start ≡ [] → t.loops ≡ [] → t.kept ≡ [] → needs ≡ []
    → AreRows known t needs
first_rows known t needs a b c d e f = (
  subst IsTable (sym a) tt,
  new_within (length known) t (subst (λ (row : List ℕ). IsWithin (length known) (is_on row)) (sym b) (nothing_within (length known))) c d e,
  subst (AreWithin (length known)) (sym f) tt,
)

-- ---- more is known

changes_within_more : (old new : List ℤ) → Learns old new → (cs : List Changes) → ChangesWithin (length old) cs → ChangesWithin (length new) cs
changes_within_more old new l [] w = tt
changes_within_more old new l (c ∷ cs) w = (within_more old new (is_turned c) l w.0, changes_within_more old new l cs w.1)

behind_stay : (old new : List ℤ) → Learns old new → (test : ℕ → Bool) (cs : List Changes) → IsWithin (length old) test → ChangesWithin (length old) cs
    → map (set_by new) (sets_after test cs) ≡ map (set_by old) (sets_after test cs)
behind_stay old new l test [] t w = refl
behind_stay old new l test (c ∷ cs) t w =
    let next = turned_within (is_turned c) test (length old) w.0 t in
    λ j. l.1 (turned (is_turned c) test) next j ∷ behind_stay old new l (turned (is_turned c) test) cs next w.1 j

module _ (old new : List ℤ) (t : Trail) (needs : List (List ℕ)) (w : AreRows old t needs) (l : Learns old new) where
  pub known_rows : IsTable new → AreRows new t needs
  known_rows table = (
    table,
    (
      within_more old new (is_on t.held) l w.1.0,
      within_more old new (is_turned t.start) l w.1.1,
      changes_within_more old new l t.loops w.1.2,
      changes_within_more old new l t.kept w.1.3,
    ),
    all_within_more old new needs l w.2,
  )

  pub known_sets : sets_by new t needs ≡ sets_by old t needs
  known_sets = λ j. record {
    held = l.1 (is_on t.held) w.1.0 j;
    start = l.1 (turned (is_turned t.start) (is_on t.held)) (turned_within (is_turned t.start) (is_on t.held) (length old) w.1.1 w.1.0) j;
    loops = behind_stay old new l (is_on t.held) t.loops w.1.0 w.1.2 j;
    kept = behind_stay old new l (is_on t.held) t.kept w.1.0 w.1.3 j;
    needs = sets_stay old new needs l w.2 j;
  }

-- ---- places turn

pub turned_sets : (known : List ℤ) (by : ℕ → Bool) (old new : Trail) (needs : List (List ℕ)) → Turns by old new
    → sets_by known new needs ≡ record (sets_by known old needs) { held = set_by known (turned by (is_on old.held)) }
turned_sets known by old new needs h =
    let r = is_on old.held in
    let start : turned (is_turned new.start) (is_on new.held) ≡ turned (is_turned old.start) r = (λ j. turned (h.1 j) (h.0 j)) ∙ turned_over by (is_turned old.start) r in
    λ j. record {
      held = set_by known (h.0 j);
      start = set_by known (start j);
      loops = map (set_by known) ((ap (λ (t : ℕ → Bool). sets_after t new.loops) h.0 ∙ h.2 r) j);
      kept = map (set_by known) ((ap (λ (t : ℕ → Bool). sets_after t new.kept) h.0 ∙ h.3 r) j);
      needs = sets_of known needs;
    }

pub turned_rows : (known : List ℤ) (by : ℕ → Bool) (old new : Trail) (needs : List (List ℕ)) → AreRows known old needs → IsWithin (length known) by → TrailStays by old new → AreRows known new needs
turned_rows known by old new needs w b h = (w.0, h (length known) b w.1, w.2)

-- one place
module _ (known : List ℤ) (m : ℤ) (p : ℕ) (e : place_in m known ≡ Some p) (old : Trail) (needs : List (List ℕ)) (w : AreRows known old needs) where
  pub taken_sets : (new : Trail) → is_on old.held p ≡ false → Turns (nat_eq p) old new
      → sets_by known new needs ≡ record (sets_by known old needs) { held = with_lock m (set_of known old.held) }
  taken_sets new off h =
      turned_sets known (nat_eq p) old new needs h
      ∙ ap (λ (s : Locks). record (sets_by known old needs) { held = s }) (added known w.0 m p (is_on old.held) e off)

  pub given_sets : (new : Trail) → is_on old.held p ≡ true → Turns (nat_eq p) old new
      → sets_by known new needs ≡ record (sets_by known old needs) { held = without_lock m (set_of known old.held) }
  given_sets new on h =
      turned_sets known (nat_eq p) old new needs h
      ∙ ap (λ (s : Locks). record (sets_by known old needs) { held = s }) (removed known w.0 m p (is_on old.held) e on)

  pub taken_again_sets : is_on old.held p ≡ true → sets_by known old needs ≡ record (sets_by known old needs) { held = with_lock m (set_of known old.held) }
  taken_again_sets on = ap (λ (s : Locks). record (sets_by known old needs) { held = s }) (not_added known w.0 m p (is_on old.held) e on)

  pub given_again_sets : is_on old.held p ≡ false → sets_by known old needs ≡ record (sets_by known old needs) { held = without_lock m (set_of known old.held) }
  given_again_sets off = ap (λ (s : Locks). record (sets_by known old needs) { held = s }) (not_held known w.0 m p (is_on old.held) e off)

  pub place_rows : (new : Trail) → p < length known → TrailStays (nat_eq p) old new → AreRows known new needs
  place_rows new lt h = turned_rows known (nat_eq p) old new needs w (place_within (length known) p lt) h

pub unknown_sets : (known : List ℤ) (t : Trail) (needs : List (List ℕ)) (m : ℤ) → AreRows known t needs → place_in m known ≡ None
    → sets_by known t needs ≡ record (sets_by known t needs) { held = without_lock m (set_of known t.held) }
unknown_sets known t needs m w e = ap (λ (s : Locks). record (sets_by known t needs) { held = s }) (not_known known w.0 m (is_on t.held) e)

-- ---- ends of ways

module _ (known : List ℤ) (test : ℕ → Bool) where
  -- the first set is what is held but for its changes
  pub first_held : (cs : List Changes) → set_by known (turned (is_turned (first_changes cs)) test) ≡ or (head (map (set_by known) (sets_after test cs))) (set_by known test)
  first_held [] = ap (set_by known) (turned_nowhere test)
  first_held (c ∷ cs) = refl

  rest_of : (cs rest : List Changes) → sets_after test rest ≡ drop 1 (sets_after test cs) → map (set_by known) (sets_after test rest) ≡ drop 1 (map (set_by known) (sets_after test cs))
  rest_of [] rest h = ap (map (set_by known)) h
  rest_of (c ∷ cs) rest h = ap (map (set_by known)) h

  -- what two sets share
  shared_held : IsTable known → (changes lost : ℕ → Bool) → ((p : ℕ) → lost p ≡ (test p && changes p))
      → set_by known (turned lost test) ≡ shared (set_by known (turned changes test)) (set_by known test)
  shared_held t changes lost h =
      same_members now (shared k s) (set_ascends known (turned lost test)) (shared_ascends k s (shared k s) (set_ascends known (turned changes test)) refl)
      (λ m. by m (place_in m known) refl ∙ sym (held_shared m k s))
    where
      now : Locks
      now = set_by known (turned lost test)

      k : Locks
      k = set_by known (turned changes test)

      s : Locks
      s = set_by known test

      only : (a b : Bool) → one_of (a && b) a ≡ (a && one_of b a)
      only true true = refl
      only true false = refl
      only false b = refl

      by : (m : ℤ) (o : Option ℕ) → place_in m known ≡ o → is_held m now ≡ (is_held m s && is_held m k)
      by m None e = sym (held_none m known (turned lost test) t e) ∙ sym (ap (λ (b : Bool). b && is_held m k) (sym (held_none m known test t e)))
      by m (Some p) e =
          sym (held_some m known (turned lost test) p t e)
          ∙ (ap (λ (b : Bool). one_of b (test p)) (h p)
          ∙ (only (test p) (changes p)
          ∙ (λ j. held_some m known test p t e j && held_some m known (turned changes test) p t e j)))

  pub first_shared : IsTable known → (cs : List Changes) (lost : ℕ → Bool) → ((p : ℕ) → lost p ≡ (test p && is_turned (first_changes cs) p))
      → set_by known (turned lost test) ≡ shared_with (head (map (set_by known) (sets_after test cs))) (set_by known test)
  first_shared t [] lost h = ap (set_by known) (λ j p. one_of ((h p ∙ (λ i. test p && nothing_turned p i) ∙ never (test p)) j) (test p))
    where
      never : (b : Bool) → (b && false) ≡ false
      never true = refl
      never false = refl
  first_shared t (c ∷ cs) lost h = shared_held t (is_turned c) lost h

module _ (known : List ℤ) (t : Trail) (needs : List (List ℕ)) where
  pub kept_now : (rest : List Changes) (c : Changes) → c ≡ [] → Adds c t.kept rest
      → sets_by known (record t { kept = rest }) needs ≡ keeping (sets_by known t needs)
  kept_now rest c e h =
      let r = is_on t.held in
      ap (λ (l : List Locks). record (sets_by known t needs) { kept = l })
      (ap (map (set_by known)) (h r) ∙ ap (λ (x : ℕ → Bool). set_by known x ∷ map (set_by known) (sets_after r t.kept)) (ap (λ (a : Changes). turned (is_turned a) r) e ∙ turned_nowhere r))

  pub entered : (rest : List Changes) (c : Changes) → c ≡ [] → Adds c t.loops rest
      → sets_by known (record t { loops = rest }) needs ≡ entering (sets_by known t needs)
  entered rest c e h =
      let r = is_on t.held in
      ap (λ (l : List Locks). record (sets_by known t needs) { loops = l })
      (ap (map (set_by known)) (h r) ∙ ap (λ (x : ℕ → Bool). set_by known x ∷ map (set_by known) (sets_after r t.loops)) (ap (λ (a : Changes). turned (is_turned a) r) e ∙ turned_nowhere r))

  pub forgot : (rest : List Changes) → Drops t.kept rest
      → sets_by known (record t { kept = rest }) needs ≡ forgetting (sets_by known t needs)
  forgot rest h = ap (λ (l : List Locks). record (sets_by known t needs) { kept = l }) (rest_of known (is_on t.held) t.kept rest (h (is_on t.held)))

  -- without the first of the sets that are kept
  module _ (rest : List Changes) (h : Drops t.kept rest) (first : Changes) (is : first ≡ first_changes t.kept) (new : Trail) where
    pub went_back : Turns (is_turned first) (record t { kept = rest }) new → sets_by known new needs ≡ going_back (sets_by known t needs)
    went_back turns =
        turned_sets known (is_turned first) (record t { kept = rest }) new needs turns
        ∙ (λ j. record {
          held = (ap (λ (c : Changes). set_by known (turned (is_turned c) (is_on t.held))) is ∙ first_held known (is_on t.held) t.kept) j;
          start = set_by known (turned (is_turned t.start) (is_on t.held));
          loops = map (set_by known) (sets_after (is_on t.held) t.loops);
          kept = rest_of known (is_on t.held) t.kept rest (h (is_on t.held)) j;
          needs = sets_of known needs;
        })

    pub joined : IsTable known → (lost : Changes) → AreBoth t.held first lost → Turns (is_turned lost) (record t { kept = rest }) new → sets_by known new needs ≡ joining (sets_by known t needs)
    joined table lost both turns =
        turned_sets known (is_turned lost) (record t { kept = rest }) new needs turns
        ∙ (λ j. record {
          held = first_shared known (is_on t.held) table t.kept (is_turned lost) (λ p. both p ∙ ap (λ (c : Changes). is_on t.held p && is_turned c p) is) j;
          start = set_by known (turned (is_turned t.start) (is_on t.held));
          loops = map (set_by known) (sets_after (is_on t.held) t.loops);
          kept = rest_of known (is_on t.held) t.kept rest (h (is_on t.held)) j;
          needs = sets_of known needs;
        })

    -- and what was held is kept in its place
    pub turned_back : Turns (is_turned first) (record t { kept = rest }) new → (more : List Changes) → Adds first new.kept more
        → sets_by known (record new { kept = more }) needs ≡ turning (sets_by known t needs)
    turned_back turns more g =
        let back : sets_by known new needs ≡ going_back (sets_by known t needs) = went_back turns in
        let again : turned (is_turned first) (is_on new.held) ≡ is_on t.held = ap (turned (is_turned first)) turns.0 ∙ turned_twice (is_turned first) (is_on t.held) in
        λ j. record {
          held = ap (λ (x : HeldSets). x.held) back j;
          start = ap (λ (x : HeldSets). x.start) back j;
          loops = ap (λ (x : HeldSets). x.loops) back j;
          kept = (ap (map (set_by known)) (g (is_on new.held)) ∙ (λ i. set_by known (again i) ∷ ap (λ (x : HeldSets). x.kept) back i)) j;
          needs = ap (λ (x : HeldSets). x.needs) back j;
        }

  pub left : (rest : List Changes) → Drops t.loops rest → (first : Changes) → first ≡ first_changes t.loops
      → (new : Trail) → Turns (is_turned first) (record t { loops = rest }) new → sets_by known new needs ≡ leaving (sets_by known t needs)
  left rest h first is new turns =
      turned_sets known (is_turned first) (record t { loops = rest }) new needs turns
      ∙ (λ j. record {
        held = (ap (λ (c : Changes). set_by known (turned (is_turned c) (is_on t.held))) is ∙ first_held known (is_on t.held) t.loops) j;
        start = set_by known (turned (is_turned t.start) (is_on t.held));
        loops = rest_of known (is_on t.held) t.loops rest (h (is_on t.held)) j;
        kept = map (set_by known) (sets_after (is_on t.held) t.kept);
        needs = sets_of known needs;
      })

-- ---- places stay below a number

first_within : (count : ℕ) (cs : List Changes) → ChangesWithin count cs → IsWithin count (is_turned (first_changes cs))
first_within count [] w = λ p le. nothing_turned p
first_within count (c ∷ cs) w = w.0

-- the changes of a set that was taken off
pub taken_within : (count : ℕ) (cs : List Changes) (first : Changes) → first ≡ first_changes cs → ChangesWithin count cs → IsWithin count (is_turned first)
taken_within count cs first e w = subst (λ (c : Changes). IsWithin count (is_turned c)) (sym e) (first_within count cs w)

pub both_within : (count : ℕ) (row : List ℕ) (changes both : Changes) → AreBoth row changes both → IsWithin count (is_on row) → IsWithin count (is_turned both)
both_within count row changes both h w p le = h p ∙ ap (λ (b : Bool). b && is_turned changes p) (w p le)

module _ (known : List ℤ) (t : Trail) (needs : List (List ℕ)) (w : AreRows known t needs) (rest : List Changes) where
  pub kept_rows : (ChangesWithin (length known) t.kept → ChangesWithin (length known) rest) → AreRows known (record t { kept = rest }) needs
  kept_rows h = (w.0, (w.1.0, w.1.1, w.1.2, h w.1.3), w.2)

  pub loops_rows : (ChangesWithin (length known) t.loops → ChangesWithin (length known) rest) → AreRows known (record t { loops = rest }) needs
  loops_rows h = (w.0, (w.1.0, w.1.1, h w.1.2, w.1.3), w.2)

pub none_within : (count : ℕ) (c : Changes) → c ≡ [] → IsWithin count (is_turned c)
none_within count c e = subst (λ (a : Changes). IsWithin count (is_turned a)) (sym e) (λ p le. nothing_turned p)

-- ---- whether sets are the same

not_itself : (b : Bool) → not b ≡ b → ⊥
not_itself true e = cc
not_itself false e = cc

module _ (known : List ℤ) (table : IsTable known) (test : ℕ → Bool) where
  pub compared : (c : Changes) (r : Bool) → IsWithin (length known) (is_turned c) → (r ≡ true → c ≡ []) → (r ≡ false → (p : ℕ) × (is_turned c p ≡ true))
      → r ≡ same (set_by known test) (set_by known (turned (is_turned c) test))
  compared c true w none some =
      sym ((signed_items s (set_by known (turned (is_turned c) test))).1 (sym (ap (λ (a : Changes). set_by known (turned (is_turned a) test)) (none refl) ∙ ap (set_by known) (turned_nowhere test))))
    where
      s : Locks
      s = set_by known test
  compared c false w none some = by (same s other) refl
    where
      s : Locks
      s = set_by known test

      other : Locks
      other = set_by known (turned (is_turned c) test)

      differ : s ≡ other → ⊥
      differ e =
          let found = some refl in
          ⊎_elim
          (λ lt.
          let u = used known table found.0 lt in
          not_itself (test found.0)
          (sym (ap (λ (b : Bool). one_of b (test found.0)) found.1)
          ∙ (held_some u.0 known (turned (is_turned c) test) found.0 table u.1
          ∙ (ap (is_held u.0) (sym e) ∙ sym (held_some u.0 known test found.0 table u.1)))))
          (λ le. let no : false ≡ true = sym (w found.0 le) ∙ found.1 in cc)
          (which found.0 (length known))

      by : (b : Bool) → same s other ≡ b → false ≡ same s other
      by false e = sym e
      by true e = absurd (differ ((signed_items s other).0 e))

  pub first_compared : (cs : List Changes) (r : Bool) → ChangesWithin (length known) cs → (r ≡ true → first_changes cs ≡ []) → (r ≡ false → (p : ℕ) × (is_turned (first_changes cs) p ≡ true))
      → r ≡ is_same_as (head (map (set_by known) (sets_after test cs))) (set_by known test)
  first_compared [] true w none some = refl
  first_compared [] false w none some = absurd (let found = some refl in let no : false ≡ true = sym (nothing_turned found.0) ∙ found.1 in cc)
  first_compared (c ∷ cs) r w none some = compared c r w.0 none some

pub any_after : (known : List ℤ) (test : ℕ → Bool) (cs : List Changes) → is_some (slice_get cs 0) ≡ is_some (head (map (set_by known) (sets_after test cs)))
any_after known test [] = refl
any_after known test (c ∷ cs) = refl

-- ---- loops

pub restarted : (held start : Locks) (loops kept needs : List Locks) → is_some (head loops) ≡ true →
    (let h : HeldSets = record { held = held; start = start; loops = loops; kept = kept; needs = needs } in entering (leaving h) ≡ restarting h)
restarted held start [] kept needs e = absurd (let no : false ≡ true = e in cc)
restarted held start (s ∷ ss) kept needs e = refl

pub nothing_to_restart : (held start : Locks) (loops kept needs : List Locks) → is_some (head loops) ≡ false →
    (let h : HeldSets = record { held = held; start = start; loops = loops; kept = kept; needs = needs } in h ≡ restarting h)
nothing_to_restart held start [] kept needs e = refl
nothing_to_restart held start (s ∷ ss) kept needs e = absurd (let no : true ≡ false = e in cc)
