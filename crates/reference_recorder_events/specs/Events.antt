-- What marks of events come from.
use Rattle.std.specs.Prelude.{◌≡◌, ℕ, true, List, length, map}
use Rattle.run_events.specs.declared.key.KeyMark.{KeyMark}
use Rattle.marks.specs.declared.side.Side.TheVariants.{Replay, System}
use Rattle.marks.specs.Marks.{EventKind, Mark}
use Rattle.stub_meaning.specs.Calls.{Done}
use Rattle.replay_runs.specs.Runs.{OfThread, new_events}
use Rattle.steps_above_stamps.specs.Stamps.{event_with}
use Rattle.steps_above_stamps.specs.declared.stamps.EventStamp.{EventStamp}
use Rattle.whole_runs.specs.World.{World}
use Rattle.whole_runs.specs.Tests.{is_back}
use Rattle.recorder_threads.specs.declared.wants.Want.{Want}
use Rattle.recorder_threads.specs.declared.wants.Want.TheVariants as told
use Rattle.reference_recorder_marks.specs.declared.mark.Mark.{Mark as Told}
use Rattle.reference_recorder_marks.specs.Marks.{mark_of, past as past_of}
use Rattle.reference_recorder_calls.specs.Said.{AreKeysOf}
use Rattle.reference_recorder_stamps.specs.Numbers.{IsStampOf}
use Rattle.reference_recorder_rules.specs.Steps.{IsMadeAs, IsToMake}

-- the mark is this event of the thread, with the number of those before it, its keys, and the numbers that
-- the thread's next event must have
pub record IsEventOf (past : List Mark) (thread : ℕ) (kind : EventKind) (done : Done) (marked : Told) :
    Type 0 where
  pub stamp : EventStamp
  pub keys : AreKeysOf past thread kind done (map (λ (q : KeyMark). q.key) stamp.keys)
  pub numbers : IsStampOf past thread stamp
  pub mark : mark_of marked ≡ record {
    thread = thread;
    side = Replay;
    index = length (new_events (OfThread thread) past);
    act = event_with kind stamp;
  }

-- a run comes to these marks, and the thread's code wants this next above the cut, of which no test fails
abbrev pub IsNextAbove : World → List Told → (thread : ℕ) → Want → Type 0
IsNextAbove w marks t said = (args : List ℕ) × IsToMake w marks t Replay args said

-- this is the mark of it
abbrev pub IsMarkAbove : World → List Told → (thread : ℕ) → Want → Told → Type 0
IsMarkAbove w marks t said marked = (args : List ℕ) (next : IsToMake w marks t Replay args said) →
    IsMadeAs w next.at.past.run next.at.step marked

-- the thread's code below the cut calls this function next through its address, and it is `main` or one that
-- a Call registered
pub record IsUpNext (w : World) (marks : List Told) (thread func : ℕ) (args : List ℕ) : Type 0 where
  pub size : ℕ
  pub next : IsToMake w marks thread System args (told.CallBack func size)
  pub back : is_back w (past_of marks) func ≡ true
