-- What the mark of a Ret comes from.
use Rattle.std.specs.Prelude.{◌≡◌, ◌≢◌, ℕ, Bool, ◌&&◌, ◌==◌, if◌then◌else◌, List, ◌++◌, Option, Some, None}
use Rattle.run_events.specs.declared.key.Class.TheVariants.{Async}
use Rattle.marks.specs.declared.side.Side.TheVariants.{Replay}
use Rattle.marks.specs.declared.range.Range.{Range}
use Rattle.marks.specs.Ranges.{Piece, piece_bytes}
use Rattle.marks.specs.Marks.{Commit, EventKind, Mark, NoRegion, Released, Ret, Withheld, logged}
use Rattle.marks.specs.Bytes.{Byte}
use Rattle.stub_meaning.specs.Calls.{Done}
use Rattle.stub_meaning.specs.Meaning.{first_of}
use Rattle.replay_runs.specs.Runs.{OfKey, new_events}
use Rattle.replay_runs.specs.Interface.{Committing}
use Rattle.replay_runs.specs.Keys.{key}
use Rattle.replay_runs.specs.Pool.{in_use_from}
use Rattle.replay_runs.specs.Threads.{last_return, same_return}
use Rattle.whole_runs.specs.World.{World, interface}
use Rattle.whole_runs.specs.Sides.{seen}
use Rattle.whole_runs.specs.Below.{Given, ByPool, NoMore, Says, given}
use Rattle.recorder_threads.specs.declared.wants.Want.TheVariants as told
use Rattle.recorder_state.specs.Inputs.{world_of}
use Rattle.reference_recorder_marks.specs.declared.mark.Mark.{Mark as Told}
use Rattle.reference_recorder_marks.specs.Marks.{past as past_of}
use Rattle.reference_recorder_calls.specs.Mine.{mine}
use Rattle.reference_recorder_targets.specs.Said.{done_on}
use Rattle.reference_recorder_rules.specs.Steps.{IsToMake}
use Rattle.reference_recorder_events.specs.Events.{IsEventOf}
use Rattle.reference_recorder_call_events.specs.declared.memory.Memory.{Memory}
use Rattle.reference_recorder_call_events.specs.Memory.{AreRead, IsPieceOf, memory_of}

-- ---- the step

-- a function of the interface, whose body has ended with the result, returns next
abbrev pub IsReturnNext : World → List Told → (thread func : ℕ) → (args : List ℕ) → (result : ℕ) → Type 0
IsReturnNext w marks t f args v = IsToMake w marks t Replay args (told.Return f v)

-- the call is given a result
abbrev pub IsSaid : Given → Type 0
IsSaid ByPool = ⊥
IsSaid (Says result pieces) = Unit {0}
IsSaid NoMore = ⊥

-- a builtin or external is given its result next
pub record IsGiveNext (w : World) (marks : List Told) (thread func : ℕ) (args : List ℕ) (what : Given) :
    Type 0 where
  pub next : IsToMake w marks thread Replay args (told.Give func)
  pub given_is : what ≡ given w next.at.past.run thread func args
  pub said : IsSaid what

-- ---- what is committed

-- the region that is in use under the key
abbrev pub region_under : (key : ℕ) → List Mark → Option Range
region_under k past = in_use_from k None (new_events (OfKey (key Async k)) (seen past))

abbrev pub HasRegionUsed : List Mark → (key : ℕ) → (used : Option ℕ) → Type 0
HasRegionUsed past k None = Unit {0}
HasRegionUsed past k (Some n) = region_under k past ≢ None

-- what is released is in use
abbrev pub HasRegion : List Mark → Option Committing → Type 0
HasRegion past None = Unit {0}
HasRegion past (Some c) = HasRegionUsed past c.key c.used

-- the region under the key is released, of which so many bytes are used, and none of that of a NULL pointer
pub record IsRegionRead (memory : ℕ → Option ℕ) (past : List Mark) (k used : ℕ) (commit : Commit) :
    Type 0 where
  pub range : Range
  pub in_use : region_under k past ≡ Some range
  pub region : Piece
  pub read : IsPieceOf memory range (if range.addr == 0 then 0 else used) region
  pub commit_is : commit ≡ Released k region

abbrev pub IsUsedRead : (memory : ℕ → Option ℕ) → List Mark → (key : ℕ) → (used : Option ℕ) → Commit →
    Type 0
IsUsedRead memory past k None commit = commit ≡ Withheld
IsUsedRead memory past k (Some n) commit = IsRegionRead memory past k n commit

abbrev pub IsCommitRead : (memory : ℕ → Option ℕ) → List Mark → Option Committing → Commit → Type 0
IsCommitRead memory past None commit = commit ≡ NoRegion
IsCommitRead memory past (Some c) commit = IsUsedRead memory past c.key c.used commit

-- ---- the Ret

-- whether the thread's last return of the function gave this result and these bytes
abbrev pub IsRepeat : List Mark → (thread func result : ℕ) → List (List ℕ) → Bool → Type 0
IsRepeat past t f v pieces same = (start : ℕ → Byte) →
    same ≡ same_return (last_return None f (mine start t past)) (record { result = v; bytes = pieces })

-- the Ret of the function with this result, which gives back these regions, and in which this is done
pub record IsRetDone (m : Memory) (thread func : ℕ) (args : List ℕ) (result : ℕ) (regions : List Range)
    (done : Done) (kind : EventKind) : Type 0 where
  pub outs : List Piece
  pub read : AreRead (memory_of m) regions done.used outs
  pub commit : Commit
  pub committed : IsCommitRead (memory_of m) (past_of m.marks.now) (first_of done.commits) commit
  pub repeats : Bool
  pub repeats_is : IsRepeat (past_of m.marks.now) thread func result (piece_bytes outs ++ logged commit)
      repeats
  pub kind_is : kind ≡ Ret func args result (done.is_cached && repeats) outs commit

-- and the mark of it
pub record IsRetOf (m : Memory) (thread func : ℕ) (args : List ℕ) (result : ℕ) (marked : Told) :
    Type 0 where
  pub done : Done
  pub done_is : done ≡ done_on (world_of m.inputs) Replay func args result
  pub keys : done.keys_at_return ≡ (interface (world_of m.inputs)).keys_at_return func args
  pub cached : done.is_cached ≡ (interface (world_of m.inputs)).is_cached func
  pub kind : EventKind
  pub ret : IsRetDone m thread func args result ((interface (world_of m.inputs)).outs func args) done kind
  pub event : IsEventOf (past_of m.marks.now) thread kind done marked
