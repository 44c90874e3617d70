-- An event of the pool or of a call back, from its tests to its last part.
use Rattle.std.proofs.Common.{◌≡◌, ℕ, ◌<◌, List, Some, None, refl, sym, ◌∙◌, arith}
use Rattle.run_events.specs.declared.event.Event.{Event as Logged}
use Rattle.run_events.specs.declared.key.Key.{Key}
use Rattle.marks.specs.Marks.{EventKind, Mark}
use Rattle.marks.specs.Wants.{Answer, answer_to, event_answer}
use Rattle.c_code.specs.MarkLists.{reply}
use Rattle.steps_above_stamps.specs.declared.stamps.EventStamp.{EventStamp}
use Rattle.whole_runs.specs.World.{World}
use Rattle.whole_runs.specs.Steps.{Picked}
use Rattle.whole_runs.specs.Records.{full_event}
use Rattle.recorder_memory.specs.declared.memory.Memory.{Memory}
use Rattle.recorder_memory.specs.Events.{Makes}
use Rattle.recorder_memory.proofs.Counts.{few}
use Rattle.recorder_state.specs.declared.state.RunState.{RunState}
use Rattle.recorder_state.specs.Stands.{IsReached}
use Rattle.recorder_events.specs.Room.{IsRoomOrEnd}
use Rattle.recorder_events.specs.Making.{CanBe, IsComing, IsEventStep, IsOfPoolOrUp, IsRecorded, event_mark, next_keys}
use Rattle.recorder_events.proofs.Ending.{IsSized}
use Rattle.recorder_events.proofs.Marked.{around_with, event_step}

-- the watch of a run that comes to a step may be told of one more event
pub watch_few : (w : World) (s : RunState) → IsReached w s → s.memory.above.watch.events < 4000000000
watch_few w s r = let n = few w r.past s.memory r.follows r.memory in omega (arith, n)

event_reply : (w : World) (past : List Mark) (s : Picked w past) (kind : EventKind) (stamp : EventStamp) (x : Answer) → event_answer s.want kind ≡ Some x → reply s.side s.want (event_mark w past s kind stamp) ≡ Some x
unfolding reply answer_to
event_reply w past s kind stamp x e = e

module _ (w : World) (s : RunState) (t : ℕ) (r : IsReached w s) (step : Picked w r.past) (thread : step.thread ≡ t) (kind : EventKind) (can : CanBe w r.past step kind)
    (keys : List Key) (keys_are : next_keys w step.thread r.past kind ≡ keys) (memory : Memory) where
  abbrev told : RunState
  told = record s { memory = memory }

  -- memory was told of it
  abbrev pub coming : (event : Logged) → full_event kind ≡ event → IsComing w told t keys event
  coming event is = record {
    fit = r.fit;
    past = r.past;
    follows = r.follows;
    around = around_with w r.past s memory r.around;
    step = step;
    thread = thread;
    kind = kind;
    can_be = can;
    keys_are = keys_are;
    event_is = is;
  }

  -- it was recorded
  pub step_made : (e : Logged) (n : ℕ) (x : Answer) (new : RunState) → IsOfPoolOrUp kind → Makes s.memory t keys kind memory → IsSized w s r step kind can e n → IsRoomOrEnd s.book e n None
      → event_answer step.want kind ≡ Some x → IsRecorded w r.past step kind keys told new → IsEventStep w new t step.want x
  step_made e n x new quiet makes sized room answers h =
      let m : Mark = event_mark w r.past step kind h.stamp in
      event_step w r.past step kind keys told new h t x quiet r.fit r.follows r.steps (around_with w r.past s memory r.around) thread
      (room w r.past m r.around.shown.book (sized h.stamp (h.keys_are ∙ sym keys_are)))
      (makes w r.past m r.memory (record {
        fit = r.fit;
        follows = r.follows;
        step = step;
        made = h.made;
        thread = thread;
        event = record { kind = kind; steps = h.stamp.steps; keys = h.stamp.keys; clock = h.stamp.clock };
        act_is = refl;
        kind_is = refl;
        keys_are = h.keys_are;
      }))
      (event_reply w r.past step kind h.stamp x answers)
