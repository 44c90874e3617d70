-- What a walk keeps in mind of mutexes on its way.
use Rattle.std.specs.Prelude.{ℕ, Bool, true, List, [], ◌∷◌, ◌++◌, drop, Option, Some, None, slice_get}
use Rattle.lockset_check_rules.specs.Mutexes.{Locks, same, shared}

-- the first set, if there is one
abbrev pub head : List Locks → Option Locks
head [] = None
head (x ∷ xs) = Some x

-- a set that was kept, if there is one, in place of another
abbrev pub or : Option Locks → Locks → Locks
or (Some k) s = k
or None s = s

-- what it shares with one that was kept, if there is one
abbrev pub shared_with : Option Locks → Locks → Locks
shared_with (Some k) s = shared k s
shared_with None s = s

-- whether it is the same as one that was kept, if there is one
abbrev pub is_same_as : Option Locks → Locks → Bool
is_same_as (Some k) s = same s k
is_same_as None s = true

-- what is held, at the place that a walk has come to, at the start of the function, at the starts of the loops that
-- the walk is in, the innermost first, and where ways began that go on elsewhere, the innermost first; and the sets
-- that functions may need, each by its place
pub record HeldSets : Type 0 where
  pub held : Locks
  pub start : Locks
  pub loops : List Locks
  pub kept : List Locks
  pub needs : List Locks

-- before the first function
abbrev pub at_first : HeldSets
at_first = record { held = []; start = []; loops = []; kept = []; needs = [] }

-- a set that was looked for; without one, no mutexes
abbrev pub set_or_none : Option Locks → Locks
set_or_none (Some s) = s
set_or_none None = []

-- the set of a place; past the last one, no mutexes
abbrev pub need_at : List Locks → (place : ℕ) → Locks
need_at needs place = set_or_none (slice_get needs place)

-- at the start of a function whose callers hold these
abbrev pub starting : Locks → HeldSets → HeldSets
starting s h = record h { held = s; start = s; loops = []; kept = [] }

-- one set more that functions may need, at the next place
abbrev pub needing : Locks → HeldSets → HeldSets
needing s h = record h { needs = h.needs ++ s ∷ [] }

-- a way begins: what is held is kept
abbrev pub keeping : HeldSets → HeldSets
keeping h = record h { kept = h.held ∷ h.kept }

-- the way ends, and another begins where it began; what is held at its end is kept
abbrev pub turning : HeldSets → HeldSets
turning h = record h { held = or (head h.kept) h.held; kept = h.held ∷ drop 1 h.kept }

-- the way ends, and goes on with what it shares with what was kept
abbrev pub joining : HeldSets → HeldSets
joining h = record h { held = shared_with (head h.kept) h.held; kept = drop 1 h.kept }

-- the way ends, and what was kept is held
abbrev pub going_back : HeldSets → HeldSets
going_back h = record h { held = or (head h.kept) h.held; kept = drop 1 h.kept }

-- the way ends, and what was kept is forgotten
abbrev pub forgetting : HeldSets → HeldSets
forgetting h = record h { kept = drop 1 h.kept }

-- a loop starts
abbrev pub entering : HeldSets → HeldSets
entering h = record h { loops = h.held ∷ h.loops }

-- a part of the innermost loop begins with what is held at the loop's start
abbrev pub restarting : HeldSets → HeldSets
restarting h = record h { held = or (head h.loops) h.held }

-- the innermost loop ends, and what is held at its start is held
abbrev pub leaving : HeldSets → HeldSets
leaving h = record h { held = or (head h.loops) h.held; loops = drop 1 h.loops }

-- the same is held as at the start of the innermost loop
abbrev pub is_as_at_loop : HeldSets → Bool
is_as_at_loop h = is_same_as (head h.loops) h.held
