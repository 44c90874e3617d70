-- Which runs the threads of a recorder stand for.
use Rattle.std.specs.Prelude.{◌≡◌, ℕ, ◌+◌, false, List, [], ◌∷◌, map, All, slice_index_or}
use Rattle.std.specs.List.{range_with_len}
use Rattle.marks.specs.Places.{frame_count}
use Rattle.marks.specs.Marks.{Mark}
use Rattle.c_code.specs.Machine.{Laid, Config, Lost, Starting, callee}
use Rattle.c_code.specs.MarkLists.{Split, state}
use Rattle.c_code.specs.Valid.{start_sig}
use Rattle.c_machine.specs.Moves.{IsInside, ThreadState, is_below, rested}
use Rattle.c_machine.specs.Readers.{args_of}
use Rattle.whole_runs.specs.World.{World}
use Rattle.whole_runs.specs.Sides.{own}
use Rattle.whole_runs.specs.Outcomes.{started}
use Rattle.whole_runs.specs.Threads.{beginning, comes}
use Rattle.recorder_threads.specs.declared.wants.Next.{Next}
use Rattle.recorder_threads.specs.Wants.{IsNextTold}

-- as many activations on a side as there may be frames, and one more: nothing is tested before an Up, so
-- that a function may be called back for whose frame there is no room
abbrev pub most_open : ℕ
most_open = frame_count + 1

-- where a thread's code is after its marks, of both sides
abbrev pub place_of : World → List Mark → (thread : ℕ) → Config
place_of w past t = state Split w.laid (beginning w past t) (own w t past)

-- the thread that rests there
abbrev pub thread_of : World → List Mark → (thread : ℕ) → ThreadState
thread_of w past t = record {
  number = t;
  depth = most_open;
  made = is_below (place_of w past t);
  config = rested w.laid (place_of w past t);
}

-- those that were started, by number
abbrev pub threads_of : World → List Mark → List ThreadState
threads_of w past = map (thread_of w past) (range_with_len 0 (started past))

-- each waits inside its code
abbrev pub AreInside : Laid → List ThreadState → Type 0
AreInside l threads = All (λ (t : ThreadState). IsInside l t.config) threads

-- the threads are those of a run after these marks
pub record AreThreadsOf (w : World) (past : List Mark) (threads : List ThreadState) : Type 0 where
  pub are : threads ≡ threads_of w past
  pub inside : AreInside w.laid threads

-- no thread
abbrev pub nowhere : ThreadState
nowhere = record { number = 0; depth = 0; made = false; config = Lost }

abbrev pub thread_at : List ThreadState → (thread : ℕ) → ThreadState
thread_at threads t = slice_index_or threads t nowhere

-- the arguments that a thread's next call, frame or return has
abbrev pub args_at : List ThreadState → (thread : ℕ) → List ℕ
args_at threads t = args_of (thread_at threads t).config

-- a thread that begins with the function at an address, which is given an argument
pub record IsBegun (l : Laid) (number address argument : ℕ) (t : ThreadState) : Type 0 where
  pub is : t ≡ record {
    number = number;
    depth = most_open;
    made = false;
    config = Starting (callee l start_sig address) (argument ∷ []);
  }
  pub inside : IsInside l t.config

-- in each run that the threads are of, the code of this one comes to what is told so
abbrev pub IsNextOf : Laid → List ThreadState → (thread : ℕ) → Next → Type 0
IsNextOf l threads t n = (w : World) (past : List Mark) → w.laid ≡ l → AreThreadsOf w past threads →
    IsNextTold w.laid (args_at threads t) n (comes w past t)
