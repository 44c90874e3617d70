-- What a sink was given.
use Rattle.std.specs.Prelude.{◌≡◌, ℕ, ◌≤◌, List, ◌++◌, length, take, Option, Some, None, Result, Ok, Err}
use Rattle.r2_base.specs.declared.fault.Fault.{Fault}

-- the bytes grow by the piece, or after a refusal by a prefix of it
abbrev pub Grows : {T : Type 0} → List ℕ → List ℕ → Result T Fault → List ℕ → Type 0
Grows old new (Ok done) piece = new ≡ old ++ piece
Grows old new (Err fault) piece = (n : ℕ) × (n ≤ length piece) × (new ≡ old ++ take n piece)

-- the same where the bytes are told; what was told before is told after
abbrev pub TellsGrowth : {T : Type 0} → Option (List ℕ) → Option (List ℕ) → Result T Fault → List ℕ → Type 0
TellsGrowth None new result piece = Unit {0}
TellsGrowth (Some old) None result piece = ⊥
TellsGrowth (Some old) (Some new) result piece = Grows old new result piece
