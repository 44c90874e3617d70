-- Memory above the cut is real memory, as a law of runs, whatever memory stands for them.
use Rattle.std.specs.Prelude.{◌≡◌, ◌≢◌, ◌⊎◌, ℕ, false, List, [], ◌∷◌, None}
use Rattle.marks.specs.declared.side.Side.TheVariants.{Replay, System}
use Rattle.marks.specs.Places.{is_constant, is_replay, is_system}
use Rattle.marks.specs.Marks.{Act, Turn, Load, Store, Enter, Leave, Step, Fault, Made, Mark}
use Rattle.marks.specs.Bytes.{IsHeld}
use Rattle.replay_runs.specs.Runs.{byte}
use Rattle.replay_runs.specs.Unseen.{IsWhole}
use Rattle.whole_runs.specs.World.{World, begin}
use Rattle.whole_runs.specs.Sides.{seen}
use Rattle.whole_runs.specs.Memory.{left_by, real}
use Rattle.whole_runs.specs.Ends.{Follows}
use Rattle.whole_runs.specs.Fits.{IsFit}
use Rattle.whole_runs_memory.specs.Plain.{IsReally}

-- ---- what a byte above the cut is, where marks below keep off it

-- above the cut no builtin or external is met in one step
abbrev pub IsNoStep : Act → Type 0
IsNoStep Turn = Unit {0}
IsNoStep (Load origin at bytes) = Unit {0}
IsNoStep (Store origin at bytes) = Unit {0}
IsNoStep (Enter func args at bytes) = Unit {0}
IsNoStep (Leave at size) = Unit {0}
IsNoStep (Step func args result ins pieces freed) = ⊥
IsNoStep (Fault kind crosses ins outs access) = Unit {0}
IsNoStep (Made e) = Unit {0}

-- a mark below the cut leaves the byte as it is, or the byte is pending and there still
abbrev pub KeepsOff : World → List Mark → (m : Mark) → (x : ℕ) → Type 0
KeepsOff w past m x = (left_by w (m ∷ past) x m.act (real w past x) ≡ real w past x) ⊎
    (IsHeld (byte (begin w) x (seen past)).cell × (left_by w (m ∷ past) x m.act (real w past x) ≢ None))

pub record MayFollow (w : World) (past : List Mark) (m : Mark) (x : ℕ) : Type 0 where
  pub above : m.side ≡ Replay → IsNoStep m.act
  pub below : m.side ≡ System → KeepsOff w past m x

abbrev pub AllKeepOff : World → List Mark → (x : ℕ) → Type 0
AllKeepOff w [] x = Unit {0}
AllKeepOff w (m ∷ past) x = MayFollow w past m x × AllKeepOff w past x

-- then it is really what code above the cut has there
abbrev pub BytesKeptOffAreReal : World → Type 0
BytesKeptOffAreReal w = (past : List Mark) (x : ℕ) → AllKeepOff w past x →
    IsReally (byte (begin w) x (seen past)).cell (real w past x)

-- ---- whole runs

-- the address is of no memory
pub record IsOutside (x : ℕ) : Type 0 where
  pub constant : is_constant x ≡ false
  pub replay : is_replay x ≡ false
  pub system : is_system x ≡ false

-- the replay run in a run of a fit world is whole
abbrev pub RunsSeenAreWhole : World → Type 0
RunsSeenAreWhole w = IsFit w → (past : List Mark) → Follows w past → IsWhole (begin w) (seen past)

-- in each run of a fit world, a byte above the cut that lives has its real value, one that is dead is in no
-- object, and one that is pending is there
abbrev pub RealMemoryAbove : World → Type 0
RealMemoryAbove w =
    IsFit w →
    (past : List Mark) →
    Follows w past →
    (x : ℕ) → is_system x ≡ false → IsReally (byte (begin w) x (seen past)).cell (real w past x)
