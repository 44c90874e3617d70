-- What is held on a walk, and what was held before, as rows and changes of them.
use Rattle.std.specs.Prelude.{◌≡◌, ℕ, ℤ, Bool, List, length, map}
use Rattle.lockset_check_held.specs.declared.trail.Trail.{Trail}
use Rattle.lockset_check_held.specs.Changes.{ChangesWithin, Keeps, sets_after, is_turned, turned}
use Rattle.lockset_check_held.specs.HeldSets.{HeldSets}
use Rattle.lockset_check_held.specs.Rows.{AreWithin, IsTable, IsWithin, is_on, set_by, set_of, sets_of}

-- the places that pass a test are held that weren't, or given back, and what was held before stays
abbrev pub Turns : (by : ℕ → Bool) (old new : Trail) → Type 0
Turns by old new =
    (is_on new.held ≡ turned by (is_on old.held)) × (is_turned new.start ≡ turned by (is_turned old.start))
    × Keeps by old.loops new.loops × Keeps by old.kept new.kept

-- all places are below a number
abbrev pub IsTrailWithin : (count : ℕ) → Trail → Type 0
IsTrailWithin count t =
    IsWithin count (is_on t.held) × IsWithin count (is_turned t.start) ×
    ChangesWithin count t.loops × ChangesWithin count t.kept

-- where the places that turned are below a number, all stay below it
abbrev pub TrailStays : (by : ℕ → Bool) (old new : Trail) → Type 0
TrailStays by old new = (count : ℕ) → IsWithin count by → IsTrailWithin count old → IsTrailWithin count new

-- the rows of a walk stand for sets of those that are known
abbrev pub AreRows : (known : List ℤ) → Trail → (needs : List (List ℕ)) → Type 0
AreRows known t needs = IsTable known × IsTrailWithin (length known) t × AreWithin (length known) needs

-- the sets that they stand for
abbrev pub sets_by : (known : List ℤ) → Trail → (needs : List (List ℕ)) → HeldSets
sets_by known t needs = record {
  held = set_of known t.held;
  start = set_by known (turned (is_turned t.start) (is_on t.held));
  loops = map (set_by known) (sets_after (is_on t.held) t.loops);
  kept = map (set_by known) (sets_after (is_on t.held) t.kept);
  needs = sets_of known needs;
}
