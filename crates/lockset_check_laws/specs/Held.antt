-- What code wants where it keeps the guards, one want at a time.
use Rattle.std.specs.Prelude.{◌≡◌, ◌≢◌, ℕ, true, List, [], ◌∷◌, Option, Some, None, is_some}
use Rattle.marks.specs.declared.side.Side.{Side}
use Rattle.marks.specs.declared.side.Side.TheVariants.{System}
use Rattle.marks.specs.Marks.{Mark}
use Rattle.marks.specs.Wants.{Want, Outside, Turns, Loads, Stores, Enters, Leaves, Allocs, Frees, Calls, Below, Gives, Returns, CallsBack, UpReturns, Steps, Fails, answer_to}
use Rattle.lockset_check_laws.specs.Locks.{LockCalls, own, taken}
use Rattle.lockset_check_laws.specs.Order.{AtEach, IsHeld}

-- a thread with these marks may want this: what is guarded only on the side on which it took the mutex, and
-- one step that unlocks
-- only what it took below the cut
abbrev pub HeldWant : LockCalls → (ℕ → Option ℕ) → Side → List Mark → Want → Type 0
HeldWant l guard side mine (Loads (Some o) at width) = (k : ℕ) → guard o ≡ Some k →
    taken l k mine ≡ Some side
HeldWant l guard side mine (Stores (Some o) at bytes) = (k : ℕ) → guard o ≡ Some k →
    taken l k mine ≡ Some side
HeldWant l guard side mine (Steps indirect func (k ∷ [])) = func ≡ l.unlock → func ≢ l.lock →
    taken l k mine ≡ Some System
HeldWant l guard side mine (Loads None at width) = Unit {0}
HeldWant l guard side mine (Stores None at bytes) = Unit {0}
HeldWant l guard side mine (Steps indirect func []) = Unit {0}
HeldWant l guard side mine (Steps indirect func (j ∷ k ∷ ks)) = Unit {0}
HeldWant l guard side mine Outside = Unit {0}
HeldWant l guard side mine Turns = Unit {0}
HeldWant l guard side mine (Enters indirect func args bytes) = Unit {0}
HeldWant l guard side mine (Leaves at size) = Unit {0}
HeldWant l guard side mine (Allocs size) = Unit {0}
HeldWant l guard side mine (Frees at) = Unit {0}
HeldWant l guard side mine (Calls indirect func args) = Unit {0}
HeldWant l guard side mine (Below func args) = Unit {0}
HeldWant l guard side mine (Gives func args) = Unit {0}
HeldWant l guard side mine (Returns func args result) = Unit {0}
HeldWant l guard side mine (CallsBack func args bytes) = Unit {0}
HeldWant l guard side mine (UpReturns func result) = Unit {0}
HeldWant l guard side mine (Fails kind) = Unit {0}

-- the mark answers such a want
pub record AnswersHeld (l : LockCalls) (guard : ℕ → Option ℕ) (past : List Mark) (m : Mark) : Type 0 where
  pub want : Want
  pub answers : is_some (answer_to want m.act) ≡ true
  pub held : HeldWant l guard m.side (own m.thread past) want

-- it is enough that the wants are held
abbrev pub HeldWantsAreEnough : LockCalls → (ℕ → Option ℕ) → Type 0
HeldWantsAreEnough l guard = (past : List Mark) → AtEach (AnswersHeld l guard) past →
    AtEach (IsHeld l guard) past
