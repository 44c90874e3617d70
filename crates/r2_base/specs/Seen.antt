-- What is seen of files and sinks: what they tell of their bytes, and how many faults they counted.
use Rattle.std.specs.Prelude.{◌≡◌, ◌≢◌, ◌≤◌, ℕ, List, Bool, true, IsTrue, Option}

-- what each name holds, None where it isn't there
abbrev pub Contents : Type 0
Contents = List ℕ → Option (List ℕ)

-- files: whether they tell what the names hold, what that is, and the counts of faults of reading and of
-- writing
pub record Store : Type 0 where
  pub tells : Bool
  pub holds : List ℕ → Option (List ℕ)
  pub read_faults : ℕ
  pub write_faults : ℕ

-- a sink: the bytes that it was given, where it tells them, and its count of faults
pub record Stream : Type 0 where
  pub given : Option (List ℕ)
  pub faults : ℕ

-- files that tell
abbrev pub telling : Contents → (read_faults write_faults : ℕ) → Store
telling holds r w = record { tells = true; holds = holds; read_faults = r; write_faults = w }

-- reading leaves what every name holds, and the count of the other kind
pub record OnlyReads (old new : Store) : Type 0 where
  pub told : IsTrue old.tells → IsTrue new.tells
  pub same : IsTrue old.tells → (n : List ℕ) → new.holds n ≡ old.holds n
  pub write_faults : new.write_faults ≡ old.write_faults
  pub later : old.read_faults ≤ new.read_faults

-- writing to a name leaves what every other name holds, and the count of the other kind
pub record OnlyWrites (name : List ℕ) (old new : Store) : Type 0 where
  pub told : IsTrue old.tells → IsTrue new.tells
  pub others : IsTrue old.tells → (n : List ℕ) → n ≢ name → new.holds n ≡ old.holds n
  pub read_faults : new.read_faults ≡ old.read_faults
  pub later : old.write_faults ≤ new.write_faults
