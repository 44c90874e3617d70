-- A walk over statements: where it stands, and what it leaves.
use Rattle.std.specs.Prelude.{◌≡◌, ℕ, Bool, true, false, ◌||◌, List, [], ◌∷◌, ◌++◌, Option, Some, None}
use Rattle.c_types_rules.specs.TypedTree.{MaybeValue, Statement, Statements}
use Rattle.lockset_check_rules.specs.declared.finding.LockFinding.{LockFinding}
use Rattle.lockset_check_rules.specs.Mutexes.{Locks}
use Rattle.lockset_check_rules.specs.Guards.{Guarded}
use Rattle.lockset_check_rules.specs.After.{statement_after, statements_after}
use Rattle.lockset_check_rules.specs.Statements.{Loop, Within, loop_differs_at, loop_differs_in, part_found, return_differs, statement_found, statements_found}
use Rattle.lockset_check_held.specs.HeldSets.{HeldSets, forgetting, going_back, joining, restarting}
use Rattle.lockset_check_values.specs.Walks.{Walked, finding, with_sets}

-- the innermost loop, which begins at this offset, if there is one
abbrev loop_of : (from : Option ℕ) → List Locks → Option Loop
loop_of (Some from) (s ∷ ss) = Some (record { from = from; start = s })
loop_of (Some from) [] = None
loop_of None starts = None

-- where a statement stands
abbrev pub within : HeldSets → (from : Option ℕ) → Within
within h from = record { start = h.start; loop = loop_of from h.loops }

-- the end of a part of a loop, or a way out of it
abbrev pub loop_checked : (from : Option ℕ) → Walked → Walked
loop_checked from w = finding (loop_differs_in (within w.sets from) w.sets.held) w

-- a way out of the function at this offset
abbrev pub start_checked : (from : ℕ) → Walked → Walked
start_checked from w = finding (return_differs (within w.sets None) from w.sets.held) w

-- ---- statements

-- what is held where a statement goes on
abbrev pub IsAfter : Option Locks → (goes : Bool) → Locks → Type 0
IsAfter (Some s) true held = held ≡ s
IsAfter (Some s) false held = ⊥
IsAfter None true held = ⊥
IsAfter None false held = Unit {0}

-- over statements after which this is held where they go on, with these findings
pub record Passed (after : Option Locks) (more : List LockFinding) (goes : Bool) (w v : Walked) : Type 0 where
  pub held : IsAfter after goes v.sets.held
  pub sets : v.sets ≡ record w.sets { held = v.sets.held }
  pub found : v.found ≡ w.found ++ more

abbrev pub StatementWalked : Guarded → (from : Option ℕ) → Statement → (goes : Bool) → Walked → Walked →
    Type 0
StatementWalked r from s goes w v =
    Passed (statement_after s w.sets.held) (statement_found r (within w.sets from) s w.sets.held) goes w v

abbrev pub StatementsWalked : Guarded → (from : Option ℕ) → Statements → (goes : Bool) → Walked → Walked →
    Type 0
StatementsWalked r from ss goes w v =
    Passed (statements_after ss w.sets.held) (statements_found r (within w.sets from) ss w.sets.held) goes w
    v

-- ---- parts of loops

-- over what begins with what is held at the start of the innermost loop, which begins at this offset
pub record PartWalked (from : ℕ) (more : Within → Locks → List LockFinding) (w v : Walked) : Type 0 where
  pub sets : v.sets ≡ record w.sets { held = v.sets.held }
  pub found : v.found ≡ w.found ++ more (within w.sets (Some from)) (restarting w.sets).held

-- a condition or last part
abbrev pub in_part : Guarded → MaybeValue → Within → Locks → List LockFinding
in_part r v w s = part_found r w v s

-- the body, to its end where that is reached
abbrev pub in_round : Guarded → Statement → Within → Locks → List LockFinding
in_round r a w s = statement_found r w a s ++ loop_differs_at w (statement_after a s)

-- ---- ends of ways

-- of one that is left out otherwise, where it goes on or doesn't
abbrev pub way_ended : (goes : Bool) → HeldSets → HeldSets
way_ended true h = joining h
way_ended false h = going_back h

-- of the second of two, where they go on or don't
abbrev pub ended : (first second : Bool) → HeldSets → HeldSets
ended true true h = joining h
ended true false h = going_back h
ended false second h = forgetting h

abbrev pub WaysEnded : (first second goes : Bool) → Walked → Walked → Type 0
WaysEnded first second goes w v = (goes ≡ (first || second)) × (v ≡ with_sets (ended first second w.sets) w)
