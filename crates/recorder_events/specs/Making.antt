-- What a step is that is an event, and what is told of it.
use Rattle.std.specs.Prelude.{◌≡◌, ℕ, true, List, ◌∷◌, map, Some, None, is_some}
use Rattle.run_events.specs.declared.event.Event.{Event as Recorded}
use Rattle.run_events.specs.declared.key.Key.{Key}
use Rattle.run_events.specs.declared.key.KeyMark.{KeyMark}
use Rattle.marks.specs.declared.side.Side.TheVariants.{Replay, System}
use Rattle.marks.specs.Marks.{EventKind, Call, Ret, Up, UpRet, Alloc, Free, Stop, Mark}
use Rattle.marks.specs.Bytes.{EventAsks}
use Rattle.marks.specs.Wants.{Want, Answer, event_answer}
use Rattle.c_code.specs.MarkLists.{reply}
use Rattle.logical_clock.specs.Events.{is_among}
use Rattle.replay_runs.specs.Runs.{OfKey, byte, marks_of, new_events}
use Rattle.replay_runs.specs.Checks.{Passes}
use Rattle.replay_runs.specs.Keys.{keys_for, sorted_keys}
use Rattle.replay_runs.specs.Rules.{EventCarries, SharedEvent}
use Rattle.space_memory_laws.specs.Marks.{IsQuietEvent}
use Rattle.steps_above_stamps.specs.Stamps.{AreStampsOf, event_with}
use Rattle.steps_above_stamps.specs.declared.stamps.EventStamp.{EventStamp}
use Rattle.whole_runs.specs.World.{World, begin, interface}
use Rattle.whole_runs.specs.Sides.{seen, events_by}
use Rattle.whole_runs.specs.Outcomes.{act_outcome}
use Rattle.whole_runs.specs.Tests.{is_back, tests}
use Rattle.whole_runs.specs.Steps.{Picked, EventAgrees, IsMade}
use Rattle.whole_runs.specs.Records.{full_event}
use Rattle.whole_runs.specs.Ends.{Follows}
use Rattle.whole_runs.specs.Fits.{IsFit}
use Rattle.recorder_memory.specs.Stands.{placed}
use Rattle.recorder_threads.specs.declared.wants.Want.TheVariants as told
use Rattle.recorder_threads.specs.Threads.{AreThreadsOf}
use Rattle.recorder_system.specs.Stands.{IsSystemOf}
use Rattle.recorder_book.specs.Book.{IsBookOf}
use Rattle.recorder_state.specs.declared.state.RunState.{RunState}
use Rattle.recorder_state.specs.Stands.{IsAroundAfter, IsReached}
use Rattle.recorder_state.specs.Turns.{IsAtStep}
use Rattle.recorder_state.specs.Plain.{IsMarkedStep}

-- a thread's own marks above the cut
abbrev pub own_above : World → (thread : ℕ) → List Mark → List Mark
own_above w t past = marks_of (begin w) t (seen past)

-- the keys that a thread's next event has
abbrev pub next_keys : World → (thread : ℕ) → List Mark → EventKind → List Key
next_keys w t past kind = sorted_keys (keys_for (interface w) t (own_above w t past) kind)

-- the step can be an event of this kind, whatever its numbers, and no test fails
pub record CanBe (w : World) (past : List Mark) (s : Picked w past) (kind : EventKind) : Type 0 where
  pub answers : is_some (event_answer s.want kind) ≡ true
  pub agrees : EventAgrees w past s.thread s.want kind
  pub carries : EventCarries (interface w) (begin w) s.thread (own_above w s.thread past) kind
  pub shared : (k : Key) → is_among (next_keys w s.thread past kind) k ≡ true →
      SharedEvent (interface w) (begin w) k.class k.value (new_events (OfKey k) (seen past)) kind
  pub bytes : (x : ℕ) → EventAsks kind x (byte (begin w) x (seen past))
  pub passes : Passes (tests w past s.thread s.side s.want)

-- the mark of the step that is this event, with the numbers of the stamp
abbrev pub event_mark : (w : World) (past : List Mark) → Picked w past → EventKind → EventStamp → Mark
event_mark w past s kind stamp = record {
  thread = s.thread;
  side = Replay;
  index = events_by w s.thread past;
  act = event_with kind stamp;
}

-- ---- before it is recorded

-- a run comes to a step that can be an event which has these keys and this record
pub record IsComing (w : World) (s : RunState) (t : ℕ) (keys : List Key) (event : Recorded) : Type 0 where
  pub fit : IsFit w
  pub past : List Mark
  pub follows : Follows w past
  pub around : IsAroundAfter w past s
  pub step : Picked w past
  pub thread : step.thread ≡ t
  pub kind : EventKind
  pub can_be : CanBe w past step kind
  pub keys_are : next_keys w step.thread past kind ≡ keys
  pub event_is : full_event kind ≡ event

-- ---- after it

-- its mark was made: the stamps and the book were told of it, and nothing else
pub record IsRecorded (w : World) (past : List Mark) (s : Picked w past) (kind : EventKind)
    (keys : List Key) (old new : RunState) : Type 0 where
  pub stamp : EventStamp
  pub made : IsMade w past s (event_mark w past s kind stamp)
  pub keys_are : map (λ (q : KeyMark). q.key) stamp.keys ≡ keys
  pub stamps : AreStampsOf (placed w) (seen (event_mark w past s kind stamp ∷ past)) new.stamps
  pub book : IsBookOf w (event_mark w past s kind stamp ∷ past) new.book
  pub rest : new ≡ record old { stamps = new.stamps; book = new.book }

-- a run comes to a step and makes an event with which no call comes to its result; threads and system were not told of it
pub record IsEventStep (w : World) (s : RunState) (t : ℕ) (want : Want) (x : Answer) : Type 0 where
  pub marked : IsMarkedStep w s t
  pub want_is : marked.step.want ≡ want
  pub threads : AreThreadsOf w marked.past s.threads
  pub system : IsSystemOf w marked.past s.system
  pub no_outcome : act_outcome marked.mark.thread marked.mark.act ≡ None
  pub answers : reply marked.step.side marked.step.want marked.mark ≡ Some x

-- the event registers no function, prints nothing, and is no return
abbrev pub IsOfPoolOrUp : EventKind → Type 0
IsOfPoolOrUp (Call func args ins outs prepared) = ⊥
IsOfPoolOrUp (Ret func args result same outs commit) = ⊥
IsOfPoolOrUp (Up func args) = Unit {0}
IsOfPoolOrUp (UpRet func result) = Unit {0}
IsOfPoolOrUp (Alloc at size) = Unit {0}
IsOfPoolOrUp (Free at size) = Unit {0}
IsOfPoolOrUp (Stop fault) = ⊥

-- a run comes to a step that can be an Up or UpRet which has these keys and this record
pub record IsCallBackNext (w : World) (s : RunState) (t : ℕ) (keys : List Key)
    (event : Recorded) : Type 0 where
  pub reached : IsReached w s
  pub step : Picked w reached.past
  pub thread : step.thread ≡ t
  pub kind : EventKind
  pub quiet : IsQuietEvent kind
  pub goes_on : IsOfPoolOrUp kind
  pub can_be : CanBe w reached.past step kind
  pub keys_are : next_keys w step.thread reached.past kind ≡ keys
  pub event_is : full_event kind ≡ event
  pub answer : Answer
  pub answers : event_answer step.want kind ≡ Some answer

-- a run comes to a step in which code below the cut calls this function through its address, and it is `main`
-- or one that a Call registered
pub record IsAtUp (w : World) (s : RunState) (t func : ℕ) : Type 0 where
  pub size : ℕ
  pub at : IsAtStep w s t System (told.CallBack func size)
  pub back : is_back w at.reached.past func ≡ true
