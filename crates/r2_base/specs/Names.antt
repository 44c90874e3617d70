-- What names hold.
use Rattle.std.specs.Prelude.{◌≡◌, ◌⊎◌, ◌↔◌, ℕ, ◌+◌, ◌≤◌, ◌<◌, List, [], ◌++◌, length, take, drop, Option, Some, None, Result, Ok, Err}
use Rattle.r2_base.specs.declared.fault.Fault.{Fault}
use Rattle.r2_base.specs.declared.fault.Fault.TheVariants.{Failed, Missing, Memory}
use Rattle.r2_base.specs.Sinks.{Grows}

-- the first n bytes of `into` are those from a place on; none of them exactly at the end or for no room
pub record IsPiece (bytes : List ℕ) (from : ℕ) (into : List ℕ) (n : ℕ) : Type 0 where
  pub room : n ≤ length into
  pub within : n ≤ length (drop from bytes)
  pub same : take n into ≡ take n (drop from bytes)
  pub none : (n ≡ 0) ↔ ((length into ≡ 0) ⊎ (length bytes ≤ from))

-- what a read may answer of a name: a piece only where it is there, Missing only where it isn't
abbrev pub Reads : Option (List ℕ) → ℕ → List ℕ → Result ℕ Fault → Type 0
Reads (Some bytes) from into (Ok n) = IsPiece bytes from into n
Reads (Some bytes) from into (Err Missing) = ⊥
Reads (Some bytes) from into (Err fault) = Unit {0}
Reads None from into (Ok n) = ⊥
Reads None from into (Err fault) = Unit {0}

-- what a name holds, nothing where it isn't there
abbrev pub content : Option (List ℕ) → List ℕ
content None = []
content (Some bytes) = bytes

-- what a name holds grows by the piece, or after a refusal by a prefix of it; one that is there stays there
abbrev pub GrowsFile : {T : Type 0} → Option (List ℕ) → Option (List ℕ) → Result T Fault → List ℕ → Type 0
GrowsFile old (Some new) result piece = Grows (content old) new result piece
GrowsFile old None (Ok done) piece = ⊥
GrowsFile old None (Err fault) piece = old ≡ None

-- a piece where the name is there, None exactly where it isn't
abbrev pub ReadsHeld : Option (List ℕ) → ℕ → List ℕ → Option ℕ → Type 0
ReadsHeld (Some bytes) from into (Some n) = IsPiece bytes from into n
ReadsHeld (Some bytes) from into None = ⊥
ReadsHeld None from into (Some n) = ⊥
ReadsHeld None from into None = Unit {0}
