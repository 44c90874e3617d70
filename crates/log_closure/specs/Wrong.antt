-- Which events of a file don't fit the others, and which of them is the first in file order.
use Rattle.std.specs.Prelude.{◌≡◌, ◌≢◌, ℕ, ◌+◌, ◌≤◌, Bool, true, List, ◌∷◌, ◌++◌, ◌⊎◌}
use Rattle.run_events.specs.declared.key.KeyMark.{KeyMark}
use Rattle.log_closure.specs.declared.error.OrderError.{OrderError}
use Rattle.log_closure.specs.declared.error.OrderError.TheVariants.{Twice, Missing, Clock}
use Rattle.log_closure.specs.Events.{LogEvent, marks, In, HasMark}
use Rattle.log_closure.specs.Predecessors.{next, HoldsPredecessors}

-- the list has the item at two places
abbrev pub StandsTwice : {A : Type 0} → A → List A → Type 0
StandsTwice {A} x xs = (prefix middle back : List A) × (xs ≡ prefix ++ x ∷ middle ++ x ∷ back)

-- one of its keys with its ticket stands at an event before it in the file, or twice in it
abbrev pub IsTwice : List LogEvent → LogEvent → Type 0
IsTwice before e = (m : KeyMark) × ((In m (marks e) × HasMark before m) ⊎ StandsTwice m (marks e))

-- the log is whole, and for one of its keys with a ticket above 0 no event of the file has the key with the
-- ticket before
abbrev pub IsMissing : Bool → List LogEvent → LogEvent → Type 0
IsMissing whole all e = (whole ≡ true) × ((m : KeyMark) × In (next m) (marks e) × (HasMark all m → ⊥))

-- the event is the first of the file that has the key with the ticket
abbrev pub IsFirstWith : List LogEvent → KeyMark → LogEvent → Type 0
IsFirstWith all m e = (before after : List LogEvent) × (all ≡ before ++ e ∷ after) ×
    (HasMark before m → ⊥) × In m (marks e)

-- e is a direct predecessor of f in the file: where several events have a key with the ticket before, the
-- first of them
abbrev pub IsPredecessor : List LogEvent → LogEvent → LogEvent → Type 0
IsPredecessor all e f = (In e all × (e.name.thread ≡ f.name.thread) × (f.name.index ≡ e.name.index + 1)) ⊎
    ((m : KeyMark) × In (next m) (marks f) × IsFirstWith all m e)

-- the greatest clock of the direct predecessors, or 0 where there are none
pub data IsGreatestBefore (all : List LogEvent) (f : LogEvent) : ℕ → Type 0 where
  none_before : ((e : LogEvent) → IsPredecessor all e f → ⊥) → IsGreatestBefore all f 0
  greatest_is : (e : LogEvent) → IsPredecessor all e f →
      ((d : LogEvent) → IsPredecessor all d f → d.entry.clock ≤ e.entry.clock) →
      IsGreatestBefore all f e.entry.clock

-- its direct predecessors are all there, and its clock isn't 1 plus the greatest of theirs, or 1 where
-- there are none
abbrev pub IsClockWrong : List LogEvent → LogEvent → Type 0
IsClockWrong all f = HoldsPredecessors all f ×
    ((g : ℕ) × IsGreatestBefore all f g × (f.entry.clock ≢ g + 1))

-- the event fits the file in which it stands after these
abbrev pub IsRight : Bool → List LogEvent → List LogEvent → LogEvent → Type 0
IsRight whole all before e = (IsTwice before e → ⊥) × (IsMissing whole all e → ⊥) × (IsClockWrong all e → ⊥)

-- what is wrong with an event that doesn't fit, in this order
pub data IsWrong (whole : Bool) (all before : List LogEvent) (e : LogEvent) : OrderError → Type 0 where
  as_twice : IsTwice before e → IsWrong whole all before e (Twice e.name)
  as_missing : (IsTwice before e → ⊥) → IsMissing whole all e → IsWrong whole all before e (Missing e.name)
  as_clock : (IsTwice before e → ⊥) → (IsMissing whole all e → ⊥) → IsClockWrong all e →
      IsWrong whole all before e (Clock e.name)

-- each event of this prefix of the file fits
abbrev pub AreRight : Bool → List LogEvent → List LogEvent → Type 0
AreRight whole all prefix = (before : List LogEvent) (e : LogEvent) (after : List LogEvent) →
    prefix ≡ before ++ e ∷ after → IsRight whole all before e

-- the error says what is wrong with the first event in file order that doesn't fit
abbrev pub IsFirstWrong : Bool → List LogEvent → OrderError → Type 0
IsFirstWrong whole all error = (before : List LogEvent) × (e : LogEvent) × (after : List LogEvent) ×
    (all ≡ before ++ e ∷ after) × AreRight whole all before × IsWrong whole all before e error
