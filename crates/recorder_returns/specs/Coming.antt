-- A Ret that comes next: its tests have passed, and the pieces of its answer stand in memory.
use Rattle.std.specs.Prelude.{◌≡◌, ℕ, ◌+◌, ◌<◌, ◌≤◌, Bool, true, List, ◌++◌, length, Some}
use Rattle.marks.specs.declared.side.Side.TheVariants.{Replay}
use Rattle.marks.specs.Places.{builtin_count}
use Rattle.marks.specs.Ranges.{Piece}
use Rattle.marks.specs.Marks.{Commit, Mark, Ret}
use Rattle.marks.specs.Wants.{Answer, Want, event_answer}
use Rattle.replay_runs.specs.Checks.{Passes}
use Rattle.replay_runs.specs.Keys.{commit_keys, sorted_keys}
use Rattle.whole_runs.specs.World.{World, interface}
use Rattle.whole_runs.specs.Memory.{HasAll}
use Rattle.whole_runs.specs.Tests.{ret_checks, tests, with_answer}
use Rattle.whole_runs.specs.Steps.{Brings, Picked}
use Rattle.whole_runs.specs.Ends.{Follows}
use Rattle.whole_runs.specs.Fits.{IsFit}
use Rattle.whole_runs_memory.specs.Rets.{IsEnding}
use Rattle.recorder_memory.specs.Returns.{IsAnswered}
use Rattle.recorder_threads.specs.Threads.{args_at}
use Rattle.recorder_state.specs.declared.state.RunState.{RunState}
use Rattle.recorder_state.specs.Stands.{IsAroundAfter}
use Rattle.recorder_returns.specs.Bringing.{committing_of}

-- a Ret of the function answers what the code wants so, and may bring up what stands in memory with the answer
pub record IsWanted (w : World) (past : List Mark) (t : ℕ) (want : Want) (func : ℕ) (args : List ℕ)
    (result : ℕ) (answer : List (List ℕ)) (x : Answer) : Type 0 where
  pub answers : (same : Bool) (up : List Piece) (commit : Commit) →
      event_answer want (Ret func args result same up commit) ≡ Some x
  pub brings : (up : List Piece) → HasAll (with_answer w past func args result answer) up →
      Brings w past t want result up

-- its function is known, its result is one of the function's, and its record can be written
pub record IsOfInterface (w : World) (func : ℕ) (args : List ℕ) (result : ℕ) : Type 0 where
  pub known : func < builtin_count + length w.laid.code.sources
  pub gives : (interface w).gives func result ≡ true
  pub regions : length ((interface w).outs func args) ≤ 8
  pub keys : length (sorted_keys ((interface w).keys_at_return func args ++
      commit_keys ((interface w).commits func args result))) ≤ 16

-- a run comes to a step in which the thread's call of the function comes to this value, and its code gets
-- this answer. Nothing was told of it but memory, of the pieces of the call's answer, if it has one
pub record IsReturning (w : World) (s : RunState) (t func value : ℕ) (x : Answer) : Type 0 where
  pub fit : IsFit w
  pub past : List Mark
  pub follows : Follows w past
  pub steps : s.steps ≡ length past
  pub around : IsAroundAfter w past s
  pub few : s.memory.above.watch.events < 4000000000
  pub step : Picked w past
  pub thread : step.thread ≡ t
  pub side_is : step.side ≡ Replay
  pub answer : List (List ℕ)
  pub wanted : IsWanted w past step.thread step.want func (args_at s.threads t) value answer x
  pub of_interface : IsOfInterface w func (args_at s.threads t) value
  pub ending : IsEnding w past step.thread func (args_at s.threads t) value
      ((interface w).used func (args_at s.threads t) value)
      (committing_of ((interface w).commits func (args_at s.threads t) value))
  pub answered : IsAnswered w past func (args_at s.threads t) value answer s.memory
  pub passes : Passes (ret_checks w past func (args_at s.threads t) value answer)
  pub tested : Passes (tests w past step.thread step.side step.want)
