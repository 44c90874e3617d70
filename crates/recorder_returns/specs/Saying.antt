-- What is said of the Ret of a call, before it is made.
use Rattle.std.specs.Prelude.{◌≡◌, ◌&&◌, ℕ, Bool, List}
use Rattle.marks.specs.Ranges.{Piece}
use Rattle.marks.specs.Marks.{Commit, Mark, Ret}
use Rattle.stub_meaning.specs.Meaning.{first_of}
use Rattle.replay_runs.specs.Threads.{last_return, same_return}
use Rattle.whole_runs.specs.World.{World, begin, interface}
use Rattle.whole_runs.specs.Ends.{Follows}
use Rattle.whole_runs.specs.Fits.{IsFit}
use Rattle.recorder_state.specs.declared.state.RunState.{RunState}
use Rattle.recorder_state.specs.Stands.{IsAroundAfter}
use Rattle.recorder_events.specs.Making.{next_keys, own_above}
use Rattle.recorder_returns.specs.declared.returning.Returning.{Returning}

-- that is what the interface says of the call, and these are the keys that its Ret has
pub record IsSaid (w : World) (func : ℕ) (args : List ℕ) (value : ℕ) (said : Returning) : Type 0 where
  pub ranges : said.ranges.items ≡ (interface w).outs func args
  pub used : said.done.used ≡ (interface w).used func args value
  pub commit : first_of said.done.commits ≡ (interface w).commits func args value
  pub cached : said.done.is_cached ≡ (interface w).is_cached func
  pub keys : (t : ℕ) (past : List Mark) (same : Bool) (up : List Piece) (commit : Commit) →
      next_keys w t past (Ret func args value same up commit) ≡ said.keys.items

-- whatever run the state is of, that is whether the thread's Ret of the function gives what its last one gave, where the
-- function has `cache`
abbrev pub RepeatsLast : RunState → (cached : Bool) → (thread func value : ℕ) → List (List ℕ) → Bool → Type 0
RepeatsLast s cached t f v pieces answer = (w : World) (past : List Mark) → IsFit w → Follows w past →
    IsAroundAfter w past s → (interface w).is_cached f ≡ cached →
    answer ≡ ((interface w).is_cached f && same_return
    (last_return ((begin w).returned t f) f (own_above w t past)) (record { result = v; bytes = pieces }))
