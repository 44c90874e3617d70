-- A command as stages, one after the other: each gives a value to the next, or ends the command.
use Rattle.std.specs.Prelude.{◌≡◌}
use Rattle.r2_cli_outcome.specs.Outcome.{Outcome}

-- what a stage answers
pub data Answer (A : Type 0) : Type 0 where
  passed : A → Answer A
  ended : Outcome → Answer A

-- a stage is what it may answer
abbrev pub Stage : Type 0 → Type 1
Stage A = Answer A → Type 0

-- the next stage gets what the first one passes; what ends the first ends both
pub data Then {A B : Type 0} (first : Answer A → Type 0) (next : A → Answer B → Type 0) : Answer B →
    Type 0 where
  on : {a : A} {b : Answer B} → first (passed a) → next a b → Then first next b
  stop : {o : Outcome} → first (ended o) → Then first next (ended o)

-- the same, as `do` writes it
infixl 10 ◌>>=◌
abbrev pub ◌>>=◌ : {A B : Type 0} → Stage A → (A → Stage B) → Stage B
first >>= next = Then first next

-- the stage that answers this
abbrev pub Only : {A : Type 0} → Answer A → Stage A
Only answer given = given ≡ answer

-- the outcome of a command: the value of its last stage, or that with which a stage ends it
pub data Comes (command : Answer Outcome → Type 0) : Outcome → Type 0 where
  done : {o : Outcome} → command (passed o) → Comes command o
  refused : {o : Outcome} → command (ended o) → Comes command o
