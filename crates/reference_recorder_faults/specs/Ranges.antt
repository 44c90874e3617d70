-- The first bad one of the ranges of a Call.
use Rattle.std.specs.Prelude.{◌≡◌, ℕ, ◌<◌, true, false, List, length, get_or, Option, None, Some}
use Rattle.marks.specs.declared.fault.FaultKind.{FaultKind}
use Rattle.marks.specs.Places.{is_constant}
use Rattle.marks.specs.declared.range.Range.{Range}
use Rattle.marks.specs.Marks.{Access, Act, Fault, Mark}
use Rattle.marks.specs.Bytes.{Asks, SomeDead, writes}
use Rattle.memory_map.specs.declared.placed.Placed.{Placed}
use Rattle.replay_runs.specs.Runs.{byte}
use Rattle.replay_runs.specs.Rules.{StopsCall}
use Rattle.whole_runs.specs.World.{World, begin}
use Rattle.whole_runs.specs.Sides.{seen}
use Rattle.reference_recorder_marks.specs.declared.mark.Mark.{Mark as Told}
use Rattle.reference_recorder_marks.specs.Marks.{past}
use Rattle.reference_recorder_scans.specs.Found.{IsLow}

-- a range of no bytes
abbrev pub no_range : Range
no_range = record { addr = 0; len = 0 }

-- this is the place of the first one of the ranges that is bad
pub record IsFirstBad (Bad : Range → Type 0) (ranges : List Range) (place : ℕ) : Type 0 where
  pub inside : place < length ranges
  pub bad : Bad (get_or ranges place no_range)
  pub before : (k : ℕ) → k < place → Bad (get_or ranges k no_range) → ⊥

-- if there is one
abbrev pub IsPlaceOfBad : (Bad : Range → Type 0) → List Range → Option ℕ → Type 0
IsPlaceOfBad Bad ranges None = (k : ℕ) → k < length ranges → Bad (get_or ranges k no_range) → ⊥
IsPlaceOfBad Bad ranges (Some place) = IsFirstBad Bad ranges place

-- a byte of the range lies in no live object, as a replay has it
abbrev pub HasDead : World → (past : List Mark) → Range → Type 0
HasDead w past r = SomeDead r (λ x. byte (begin w) x (seen past))

-- the mark of a fault that stops a call which reads and holds these ranges
pub record IsStopped (w : World) (past : List Mark) (ins held : List Range) (kind : FaultKind) (act : Act) :
    Type 0 where
  pub before_ins : List Range
  pub before_held : List Range
  pub access : Access
  pub is : act ≡ Fault kind true before_ins before_held access
  pub stops : StopsCall ins held kind before_ins before_held access
  pub asks : Asks act (λ x. byte (begin w) x (seen past))
  pub read_only : (x : ℕ) → writes act x ≡ true → is_constant x ≡ false

-- so it is after these marks, in a world with these objects
pub record IsStoppedIn (w : World) (placed : Placed) (marks : List Told) (ins held : List Range)
    (kind : FaultKind) (act : Act) : Type 0 where
  pub objects : w.laid.placed ≡ placed
  pub low : IsLow w (past marks)
  pub stopped : IsStopped w (past marks) ins held kind act
