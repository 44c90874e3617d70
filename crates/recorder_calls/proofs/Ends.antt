-- How a run ends at a Call that isn't made.
use Rattle.std.proofs.Common.{◌≡◌, ℕ, List, sym, subst}
use Rattle.run_events.specs.declared.event.Event.{Event as Logged}
use Rattle.run_events.specs.declared.key.Key.{Key}
use Rattle.marks.specs.declared.side.Side.TheVariants.{Replay}
use Rattle.marks.specs.Wants.{Calls}
use Rattle.race_watch.specs.Stands.{Stands}
use Rattle.race_watch_laws.specs.Told.{told}
use Rattle.space_memory_laws.specs.StandsFor.{StandsFor}
use Rattle.steps_above_memory.specs.declared.parts.CallRegions.{CallRegions}
use Rattle.steps_above_memory.specs.declared.refusal.StepRefusal.{StepRefusal}
use Rattle.steps_above_memory.specs.Calls.{RefusesCall}
use Rattle.whole_runs.specs.declared.ending.Ending.{Ending}
use Rattle.whole_runs.specs.World.{World, begin, program_of}
use Rattle.whole_runs.specs.Sides.{seen}
use Rattle.recorder_memory.specs.declared.memory.Memory.{Memory}
use Rattle.recorder_memory.specs.Stands.{placed}
use Rattle.recorder_threads.specs.declared.wants.Want.TheVariants as wants
use Rattle.recorder_threads.specs.Threads.{args_at}
use Rattle.recorder_state.specs.declared.state.RunState.{RunState}
use Rattle.recorder_state.specs.Ends.{IsEnded, IsRefused}
use Rattle.recorder_plain.proofs.Steps.{refused}
use Rattle.recorder_calls.specs.Calls.{IsCallNext}
use Rattle.recorder_calls.proofs.Called.{stands}

-- memory that is as it was above the cut
pub ended_with : (w : World) (s : RunState) (memory : Memory) (end : Ending) → memory.above.spaces ≡ s.memory.above.spaces → IsEnded w s end → IsEnded w (record s { memory = memory }) end
ended_with w s memory end same h = record {
  fit = h.fit;
  past = h.past;
  follows = h.follows;
  last = h.last;
  ends = h.ends;
  spaces = subst (StandsFor (begin w) _) (sym same) h.spaces;
  shown = record { threads = h.shown.threads; stamps = h.shown.stamps; book = h.shown.book; output = h.shown.output; system_output = h.shown.system_output };
}

module _ (w : World) (s : RunState) (t : ℕ) (regions : CallRegions) (keys : List Key) (event : Logged) (h : IsCallNext w s t regions keys event) where
  pub call_refused : (r : StepRefusal) (memory : Memory) → RefusesCall s.memory.above t regions r → memory.above.spaces ≡ s.memory.above.spaces → memory.above.watch ≡ s.memory.above.watch → IsRefused w (record s { memory = memory }) t Replay r
  call_refused r memory refuses spaces watch =
      let before = stands w s t regions keys event h in
      refused w s t Replay (wants.Call h.indirect h.func) h.at (Calls h.indirect h.func (args_at s.threads t)) h.at.told r memory
      (refuses (program_of w) (placed w) (seen h.at.reached.past) h.indirect h.func (args_at s.threads t) before h.wanted)
      (record {
        goes_well = before.goes_well;
        spaces = subst (StandsFor (begin w) (seen h.at.reached.past)) (sym spaces) before.spaces;
        watch = subst (Stands (told (seen h.at.reached.past))) (sym watch) before.watch;
      })
