-- How a run goes on and ends.
use Rattle.std.specs.Prelude.{◌≡◌, ℕ, suc, ◌+◌, ◌<◌, ◌≤◌, true, false, List, [], ◌∷◌, ◌++◌, map, length, filter, sum_by, reverse, Option, Some, None}
use Rattle.std.specs.List.{range_with_len}
use Rattle.marks.specs.declared.side.Side.{Side}
use Rattle.marks.specs.declared.side.Side.TheVariants.{Replay, System}
use Rattle.marks.specs.declared.fault.FaultKind.{FaultKind}
use Rattle.marks.specs.declared.breach.BreachKind.{BreachKind}
use Rattle.marks.specs.Kinds.{fault_number, breach_number}
use Rattle.marks.specs.Marks.{Stop, Made, Mark, is_event}
use Rattle.replay_runs.specs.Runs.{OfThread, marks_of, events_with, steps_since, last_clock}
use Rattle.replay_runs.specs.Threads.{fault_of}
use Rattle.replay_runs.specs.Checks.{Finding, Finds, FaultFound, BreachFound, Passes}
use Rattle.whole_runs.specs.declared.ending.Ending.{Ending}
use Rattle.whole_runs.specs.declared.ending.Ending.TheVariants as ending
use Rattle.whole_runs.specs.declared.ending.Halt.TheVariants as halt
use Rattle.whole_runs.specs.World.{World, begin}
use Rattle.whole_runs.specs.Sides.{seen, events_by}
use Rattle.whole_runs.specs.Outcomes.{started}
use Rattle.whole_runs.specs.Threads.{in_replay_mode}
use Rattle.whole_runs.specs.Picks.{asked, stepping, all_ended}
use Rattle.whole_runs.specs.Below.{NoMore, given}
use Rattle.whole_runs.specs.Tests.{tests}
use Rattle.whole_runs.specs.Steps.{GoesOn, Picked, IsMade, IsFault}
use Rattle.whole_runs.specs.Records.{size_of}

-- ---- a step

-- a run makes no more events
abbrev pub most_events : ℕ
most_events = 1_000_000

-- their records have no more bytes
abbrev pub most_bytes : ℕ
most_bytes = 50_331_648

-- the events so far, the newest first
abbrev pub events_of : List Mark → List Mark
events_of past = filter (λ (m : Mark). is_event m.act) past

abbrev pub bytes_of : List Mark → ℕ
bytes_of past = sum_by size_of (events_of past)

-- an event is one of the run only if neither their number nor their bytes get too many
pub record HasRoomFor (past : List Mark) (m : Mark) : Type 0 where
  pub events : is_event m.act ≡ true → length (events_of past) < most_events
  pub bytes : is_event m.act ≡ true → bytes_of past + size_of m ≤ most_bytes

-- the next mark of a run
pub record IsNext (w : World) (past : List Mark) (m : Mark) : Type 0 where
  pub step : Picked w past
  pub made : IsMade w past step m
  pub room : HasRoomFor past m

-- each mark is the next one after those before it
abbrev pub Follows : World → List Mark → Type 0
Follows w [] = Unit {0}
Follows w (m ∷ past) = IsNext w past m × Follows w past

-- ---- the end

-- a fault of code below the cut is none of the program's, but halts the run
abbrev pub fault_end : Side → FaultKind → (thread : ℕ) → Ending
fault_end Replay kind t = ending.Fault (fault_number kind) t
fault_end System kind t = ending.Halted (halt.System (fault_number kind) t)

abbrev pub breach_end : BreachKind → (thread address : ℕ) → (other : Option ℕ) → Ending
breach_end kind t x other = ending.Breach (breach_number kind) t x other

-- the step needs an answer of the function, and the file has no more
pub record Lacks (w : World) (past : List Mark) (s : Picked w past) (func : ℕ) : Type 0 where
  pub args : List ℕ
  pub asks : asked s.want ≡ Some (record { func = func; args = args })
  pub none : given w past s.thread func args ≡ NoMore

-- the picked thread's tests find this
abbrev pub IsFound : (w : World) (past : List Mark) → Picked w past → Finding → Type 0
IsFound w past s f = Finds (tests w past s.thread s.side s.want) f

-- the step is an event, and all that comes before is as it should be
pub record IsMadeEvent (w : World) (past : List Mark) (s : Picked w past) (m : Mark) : Type 0 where
  pub made : IsMade w past s m
  pub event : is_event m.act ≡ true

-- how a run ends after its steps, and which mark stands after them: that of a fault, or none. What comes
-- first in this list is the end
pub data IsLast (w : World) (past : List Mark) : List Mark → Ending → Type 0 where
  done : all_ended w past ≡ true → IsLast w past [] ending.Done
  budget : all_ended w past ≡ false → length past ≡ w.file.budget →
      IsLast w past [] (ending.Halted halt.Budget)
  blocked : GoesOn w past → stepping w past ≡ None → IsLast w past [] (ending.Halted halt.Blocked)
  fault : {m : Mark} (kind : FaultKind) (s : Picked w past) → IsFound w past s (FaultFound kind) →
      IsFault w past s kind m → IsLast w past (m ∷ []) (fault_end s.side kind s.thread)
  breach : (kind : BreachKind) (x : ℕ) (other : Option ℕ) (s : Picked w past) →
      IsFound w past s (BreachFound kind x other) → IsLast w past [] (breach_end kind s.thread x other)
  script : {f : ℕ} (s : Picked w past) → Passes (tests w past s.thread s.side s.want) → Lacks w past s f →
      IsLast w past [] (ending.Halted (halt.Script f))
  events : (m : Mark) (s : Picked w past) → IsMadeEvent w past s m → most_events ≤ length (events_of past) →
      IsLast w past [] (ending.Halted halt.Events)
  full : (m : Mark) (s : Picked w past) → IsMadeEvent w past s m → length (events_of past) < most_events →
      most_bytes < bytes_of past + size_of m → IsLast w past [] (ending.Halted halt.Full)

-- the Stop of a thread in a run that makes no more steps: it tells the fault that the thread met, if it
-- met one
abbrev pub stop_of : World → List Mark → (thread : ℕ) → Mark
stop_of w run t = record {
  thread = t;
  side = Replay;
  index = events_by w t run;
  act = Made (record {
    kind = Stop (fault_of mine);
    steps = steps_since mine;
    keys = [];
    clock = suc (last_clock (events_with (begin w) (OfThread t) run));
  });
}
  where
    mine : List Mark
    mine = marks_of (begin w) t (seen run)

-- those of the threads that stand in replay mode, in the order of threads; none has to do with another
abbrev pub stops : World → List Mark → List Mark
stops w run = reverse (map (stop_of w run) (filter (in_replay_mode w run) (range_with_len 0 (started run))))

-- the run of a system file, the newest mark first, with how it ends
pub record IsRun (w : World) (run : List Mark) (e : Ending) : Type 0 where
  pub past : List Mark
  pub follows : Follows w past
  pub last : List Mark
  pub ends : IsLast w past last e
  pub run_is : run ≡ stops w (last ++ past) ++ (last ++ past)
