-- What is read of memory.
use Rattle.std.specs.Prelude.{◌≡◌, ℕ, ◌<◌, ◌^◌, true, List, [], ◌∷◌, length, Option, unwrap_or}
use Rattle.marks.specs.declared.range.Range.{Range}
use Rattle.marks.specs.Ranges.{Piece, are_bytes, byte_at, within}
use Rattle.whole_runs.specs.Memory.{filled, real}
use Rattle.recorder_state.specs.Inputs.{world_of}
use Rattle.reference_recorder_marks.specs.Marks.{past}
use Rattle.reference_recorder_call_events.specs.declared.memory.Memory.{Memory}

-- the byte at x, for code of both sides; none where no live object has it
abbrev pub memory_of : Memory → (x : ℕ) → Option ℕ
memory_of m x = filled m.answer.now x (real (world_of m.inputs) (past m.marks.now) x)

-- so many bytes from the address on, of which those are shown that are there
pub record IsRead (memory : ℕ → Option ℕ) (at count : ℕ) (bytes : List ℕ) : Type 0 where
  pub counted : length bytes ≡ count
  pub small : are_bytes bytes ≡ true
  pub shown : (x : ℕ) → within at count x ≡ true → x < 2 ^ 64 → byte_at at bytes x ≡ unwrap_or (memory x) 0

-- a piece of the range, with so many of its first bytes
pub record IsPieceOf (memory : ℕ → Option ℕ) (r : Range) (used : ℕ) (p : Piece) : Type 0 where
  pub range_is : p.range ≡ r
  pub read : IsRead memory r.addr used p.bytes

-- one of each range
abbrev pub AreRead : (memory : ℕ → Option ℕ) → List Range → (used : List ℕ) → List Piece → Type 0
AreRead memory [] [] [] = Unit {0}
AreRead memory [] [] (p ∷ ps) = ⊥
AreRead memory [] (n ∷ ns) ps = ⊥
AreRead memory (r ∷ rs) [] ps = ⊥
AreRead memory (r ∷ rs) (n ∷ ns) [] = ⊥
AreRead memory (r ∷ rs) (n ∷ ns) (p ∷ ps) = IsPieceOf memory r n p × AreRead memory rs ns ps
