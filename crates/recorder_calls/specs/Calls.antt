-- What is known of a Call before it is made.
use Rattle.std.specs.Prelude.{◌≡◌, ◌⊎◌, ℕ, ◌≤◌, Bool, false, true, List, [], ◌∷◌, ◌++◌, map, length, Option, Some, None, slice_get}
use Rattle.run_events.specs.declared.event.Event.{Event}
use Rattle.run_events.specs.declared.event.Event.TheVariants as logged
use Rattle.run_events.specs.declared.key.Class.TheVariants.{Callback, Async}
use Rattle.run_events.specs.declared.key.Key.{Key}
use Rattle.marks.specs.declared.side.Side.TheVariants.{Replay}
use Rattle.marks.specs.Ranges.{Prepared, prepared_ranges}
use Rattle.marks.specs.Marks.{Mark}
use Rattle.marks.specs.Bytes.{Byte}
use Rattle.marks.specs.Wants.{Calls}
use Rattle.c_code.specs.Machine.{is_true}
use Rattle.log_codec.specs.LogText.{IsBody}
use Rattle.replay_runs.specs.Interface.{Interface, Program}
use Rattle.space_memory.specs.Spaces.{SpaceState}
use Rattle.space_memory_laws.specs.Calls.{parts_of}
use Rattle.recorder_book.specs.Sizes.{in_full}
use Rattle.replay_runs.specs.Keys.{key, sorted_keys}
use Rattle.replay_runs.specs.Rules.{KeepsModes}
use Rattle.space_memory_laws.specs.CallChecks.{Wanted}
use Rattle.steps_above_memory.specs.declared.above.MemoryAbove.{MemoryAbove}
use Rattle.steps_above_memory.specs.declared.parts.CallRegions.{CallRegions}
use Rattle.steps_above_memory.specs.Above.{StandsForAbove}
use Rattle.steps_above_memory.specs.Calls.{AreRegions, HasParts, prepares}
use Rattle.stub_meaning.specs.Meaning.{done_at}
use Rattle.stub_calls.specs.Calls.{call_keys}
use Rattle.whole_runs.specs.World.{World, interface}
use Rattle.recorder_threads.specs.declared.wants.Want.TheVariants as told
use Rattle.recorder_threads.specs.Threads.{args_at}
use Rattle.recorder_state.specs.declared.state.RunState.{RunState}
use Rattle.recorder_state.specs.Turns.{IsAtStep}
use Rattle.recorder_calls.specs.declared.calling.Calling.{Calling}

-- ---- what is said of it

-- this is what the stubs say of a Call of the function with these arguments
pub record IsFilled (w : World) (func : ℕ) (args : List ℕ) (c : Calling) : Type 0 where
  pub done : c.done ≡ done_at w.laid.code w.stubs func args 0
  pub keys : c.keys.items ≡ call_keys c.done
  pub prepared : c.prepared.items ≡ prepared_ranges c.done.prepares
  pub under : c.under.items ≡ map (λ (p : Prepared). p.key) c.done.prepares

-- these are its regions
pub record AreRegionsOf (c : Calling) (regions : CallRegions) : Type 0 where
  pub ins : regions.ins.now ≡ c.done.ins
  pub outs : regions.outs.now ≡ c.done.outs
  pub prepared : regions.prepared.now ≡ c.prepared.items
  pub under : regions.under.now ≡ c.under.items

-- ---- the modes of the functions that it registers

-- the first of them that may not run in the mode that has these flags, if there is one
abbrev pub IsFirstForbidden : List Bool → (funcs : List ℕ) → Option ℕ → Type 0
IsFirstForbidden flags [] found = found ≡ None
IsFirstForbidden flags (f ∷ fs) found = ((is_true (slice_get flags f) ≡ false) × (found ≡ Some f)) ⊎
    ((is_true (slice_get flags f) ≡ true) × IsFirstForbidden flags fs found)

-- ---- the step

-- a run comes to a Call of the function of which this is said, and the modes of all its functions are kept
pub record IsAtCall (w : World) (s : RunState) (t func : ℕ) (c : Calling) : Type 0 where
  pub indirect : Bool
  pub at : IsAtStep w s t Replay (told.Call indirect func)
  pub filled : IsFilled w func (args_at s.threads t) c
  pub modes : KeepsModes (interface w) (Calls indirect func (args_at s.threads t))

-- the keys of a Call
abbrev pub keys_of_call : Interface → (func : ℕ) → (args : List ℕ) → List Prepared → List Key
keys_of_call i f args ps = sorted_keys (i.keys_at_call f args ++
    (map (key Callback) (i.registers f args) ++ map (λ (p : Prepared). key Async p.key) ps))

-- a run comes to a Call that has these regions, keys and record
pub record IsCallNext (w : World) (s : RunState) (t : ℕ) (regions : CallRegions) (keys : List Key)
    (event : Event) : Type 0 where
  pub indirect : Bool
  pub func : ℕ
  pub at : IsAtStep w s t Replay (told.Call indirect func)
  pub wanted : Wanted (interface w) indirect func (args_at s.threads t) regions.ins.now regions.outs.now
      (prepares regions)
  pub regions_are : AreRegions regions
  pub keys_are : keys_of_call (interface w) func (args_at s.threads t) (prepares regions) ≡ keys
  pub few : length keys ≤ 16
  pub event_is : logged.Call func (args_at s.threads t) ≡ event
  pub body : IsBody (in_full event)

-- memory above the cut stands for a run
abbrev pub IsOfSomeRun : MemoryAbove → Type 0
IsOfSomeRun above = (program : Program) × (memory : ℕ → Byte) × (past : List Mark) ×
    StandsForAbove program memory past above

-- memory can hand down the regions of a Call
abbrev pub HandsDown : MemoryAbove → (thread : ℕ) → CallRegions → Type 0
HandsDown above t regions = (spaces : SpaceState) ×
    HasParts above t (parts_of regions.ins.now regions.outs.now (prepares regions)) spaces
