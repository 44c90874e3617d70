-- Rets: their tests, the pieces of an answer that come up with them, and what they give back.
use Rattle.std.specs.Prelude.{◌≡◌, ℕ, Bool, List, [], ◌∷◌, ◌++◌, Option}
use Rattle.run_events.specs.declared.key.Key.{Key}
use Rattle.marks.specs.declared.side.Side.TheVariants.{Replay}
use Rattle.marks.specs.Ranges.{Piece, piece_ranges}
use Rattle.marks.specs.declared.range.Range.{Range}
use Rattle.marks.specs.Marks.{Commit, Ret, Mark, released}
use Rattle.space_memory.specs.Releases.{committed_size}
use Rattle.space_memory_laws.specs.Returns.{CommitsAs, ShowUsed}
use Rattle.replay_runs.specs.Checks.{Checks, Passes}
use Rattle.steps_above_memory.specs.declared.refusal.StepRefusal.{StepRefusal}
use Rattle.steps_above_memory.specs.Refusals.{IsFound}
use Rattle.whole_runs.specs.World.{World, interface}
use Rattle.whole_runs.specs.Below.{targets, pieces_for}
use Rattle.whole_runs.specs.Tests.{ret_checks}
use Rattle.whole_runs_memory.specs.Stands.{InStep}
use Rattle.whole_runs_memory.specs.Rets.{AllFit, IsEnding}
use Rattle.recorder_memory.specs.declared.memory.Memory.{Memory}
use Rattle.recorder_memory.specs.Stands.{StandsForSeen, StandsForRun}
use Rattle.recorder_memory.specs.Events.{IsNextEvent}

-- memory in the midst of the Ret of a call that gives this result: these pieces of the answer, none of which
-- is too long, stand in their regions
pub record IsAnswered (w : World) (past : List Mark) (func : ℕ) (args : List ℕ) (result : ℕ)
    (pieces : List (List ℕ)) (memory : Memory) : Type 0 where
  pub fits : AllFit (targets w Replay past func args result) pieces
  pub step : InStep w past (pieces_for (targets w Replay past func args result) pieces)
      memory.above.spaces
  pub above : StandsForSeen w past memory

-- so it is before any piece, for functions that have none
abbrev pub NoPieceIsAnswered : Type 0
NoPieceIsAnswered = (w : World) (past : List Mark) (memory : Memory) (func : ℕ) (args : List ℕ)
    (result : ℕ) → StandsForRun w past memory → IsAnswered w past func args result [] memory

-- the tests of a Ret that ends the thread's innermost call have this property, whatever run it is of, and
-- whatever was answered
abbrev pub AtReturn : Memory → (thread : ℕ) → (used : List ℕ) → Option (ℕ × ℕ) → (Checks → Type 0) → Type 0
AtReturn memory t used committing P = (w : World) (past : List Mark) (func : ℕ) (args : List ℕ)
    (result : ℕ) (pieces : List (List ℕ)) →
    IsAnswered w past func args result pieces memory →
    IsEnding w past t func args result used committing → P (ret_checks w past func args result pieces)

abbrev pub PassesReturn : Memory → (thread : ℕ) → (used : List ℕ) → Option (ℕ × ℕ) → Type 0
PassesReturn memory t used committing = AtReturn memory t used committing Passes

abbrev pub RefusesReturn : Memory → (thread : ℕ) → (used : List ℕ) → Option (ℕ × ℕ) → StepRefusal → Type 0
RefusesReturn memory t used committing refusal = AtReturn memory t used committing (λ cs. IsFound cs refusal)

-- the next mark of a run is the Ret of a call of the thread, with the bytes that memory shows
pub record IsNextReturn (w : World) (past : List Mark) (memory : Memory) (t : ℕ) (used : List ℕ)
    (committing : Option (ℕ × ℕ)) (ranges : List Range) (keys : List Key) (m : Mark) : Type 0 where
  pub func : ℕ
  pub args : List ℕ
  pub result : ℕ
  pub same : Bool
  pub up : List Piece
  pub commit : Commit
  pub next : IsNextEvent w past t keys (Ret func args result same up commit) m
  pub answer : List (List ℕ)
  pub answered : IsAnswered w past func args result answer memory
  pub outs_are : piece_ranges up ≡ (interface w).outs func args
  pub ranges_are : piece_ranges (up ++ released commit) ≡ ranges
  pub commits : CommitsAs m memory.above.spaces.held committing commit
  pub shows : ShowUsed memory.above.spaces.bytes (up ++ released commit)
      (used ++ committed_size committing)

-- whatever run it is of, memory stands for the run with it
abbrev pub MakesReturn : Memory → (thread : ℕ) → (used : List ℕ) → Option (ℕ × ℕ) → List Range → List Key →
    Memory → Type 0
MakesReturn old t used committing ranges keys new = (w : World) (past : List Mark) (m : Mark) →
    IsNextReturn w past old t used committing ranges keys m → StandsForRun w (m ∷ past) new
