-- A Call whose functions keep their modes, and one that is refused since a function doesn't.
use Rattle.std.proofs.Common.{◌≡◌, ℕ, Bool, true, false, List, [], ◌++◌, Some, None, refl, ap, subst}
use Rattle.marks.specs.declared.side.Side.TheVariants.{Replay, System}
use Rattle.marks.specs.declared.breach.BreachKind.TheVariants.{Mode}
use Rattle.marks.specs.Places.{function_address}
use Rattle.marks.specs.Ranges.{prepared_ranges}
use Rattle.marks.specs.Wants.{Calls}
use Rattle.stub_meaning.specs.Calls as meaning
use Rattle.replay_runs.specs.Interface.{Interface}
use Rattle.replay_runs.specs.Checks.{BreachFound, Checks, Done, hold_checks, key_checks, mode_checks, read_checks}
use Rattle.steps_above_memory.specs.declared.refusal.StepRefusal.TheVariants as refusal
use Rattle.steps_above_memory.specs.declared.refusal.StepRefusal.{StepRefusal}
use Rattle.whole_runs.specs.World.{World, begin, interface, may_run}
use Rattle.whole_runs.specs.Sides.{seen}
use Rattle.recorder_threads.specs.declared.wants.Want.TheVariants as told
use Rattle.recorder_threads.specs.Threads.{args_at}
use Rattle.recorder_state.specs.declared.state.RunState.{RunState}
use Rattle.recorder_state.specs.declared.stop.Stop.{Stop}
use Rattle.recorder_state.specs.Ends.{IsRefused, IsStopped}
use Rattle.recorder_state.specs.Turns.{IsAtStep}
use Rattle.recorder_plain.proofs.Breaches.{indirect_found}
use Rattle.recorder_plain.proofs.Steps.{stops_before}
use Rattle.recorder_calls.specs.declared.calling.Calling.{Calling}
use Rattle.recorder_calls.specs.Calls.{IsAtCall, IsFilled, IsFirstForbidden}
use Rattle.recorder_calls.proofs.Registered.{all_may, forbidden, past_indirect}

-- a refusal ends a run so
abbrev pub EndsBy : (t : ℕ) → StepRefusal → Stop → Type 0
EndsBy t r end = (v : World) (n : RunState) → IsRefused v n t Replay r → IsStopped v n end

module _ (w : World) (s : RunState) (t func : ℕ) (indirect : Bool) (at : IsAtStep w s t Replay (told.Call indirect func)) where
  abbrev i : Interface
  i = interface w

  abbrev args : List ℕ
  args = args_at s.threads t

  -- what is tested after the modes
  abbrev more : Checks
  more = read_checks (begin w) (seen at.reached.past) t (i.ins func args)
      (hold_checks (begin w) (seen at.reached.past) t [] (i.outs func args ++ prepared_ranges (i.prepares func args))
      (key_checks (begin w) (seen at.reached.past) [] (i.prepares func args) Done))

  -- a pointer names a function that may not run below the cut
  pub indirect_breaks : (end : Stop) → EndsBy t (refusal.Breach Mode (function_address func) None) end → indirect ≡ true → may_run w.laid.placed System func ≡ false → IsStopped w s end
  indirect_breaks end ends e may_not =
      stops_before w s t Replay (told.Call indirect func) at (Calls indirect func args) at.told (refusal.Breach Mode (function_address func) None) end s.memory refl ends
      (indirect_found i System func (mode_checks i Replay (i.registers func args) more) indirect e may_not)

  module _ (may : indirect ≡ true → may_run w.laid.placed System func ≡ true) (c : Calling) (filled : IsFilled w func args c) where
    registers_are : c.done.registers ≡ i.registers func args
    registers_are = ap (λ (d : meaning.Done). d.registers) filled.done

    -- it registers one that may not run above it
    pub registered_breaks : (other : ℕ) (end : Stop) → IsFirstForbidden w.laid.placed.replay c.done.registers (Some other) → EndsBy t (refusal.Breach Mode (function_address other) None) end → IsStopped w s end
    registered_breaks other end first ends =
        stops_before w s t Replay (told.Call indirect func) at (Calls indirect func args) at.told (refusal.Breach Mode (function_address other) None) end s.memory refl ends
        (past_indirect i indirect System func (mode_checks i Replay (i.registers func args) more) (BreachFound Mode (function_address other) None) may
        (forbidden i w.laid.placed.replay (λ f. refl) (i.registers func args) other more (subst (λ fs. IsFirstForbidden w.laid.placed.replay fs (Some other)) registers_are first)))

    -- or all may run
    pub at_call : IsFirstForbidden w.laid.placed.replay c.done.registers None → IsAtCall w s t func c
    at_call none = record {
      indirect = indirect;
      at = at;
      filled = filled;
      modes = (may, all_may i w.laid.placed.replay (λ f. refl) (i.registers func args) (subst (λ fs. IsFirstForbidden w.laid.placed.replay fs None) registers_are none));
    }
