-- Marks with which a thread answers what its code wants.
use Rattle.std.specs.Prelude.{◌≡◌, ℕ, Bool, true, List, [], ◌∷◌, length, Some}
use Rattle.marks.specs.Marks.{Mark}
use Rattle.marks.specs.Wants.{Want, Outside, Turns, Loads, Stores, Enters, Leaves, Allocs, Frees, Calls, Below, Gives, Returns, CallsBack, UpReturns, Steps, Fails, Answer, CalledBack, Value}
use Rattle.c_code.specs.Machine.{Laid}
use Rattle.c_code.specs.MarkLists.{reply}
use Rattle.c_machine.specs.Moves.{ThreadState}
use Rattle.whole_runs.specs.World.{World}
use Rattle.whole_runs.specs.Outcomes.{Outcome, act_outcome, is_start, started}
use Rattle.whole_runs.specs.Ends.{Follows}
use Rattle.whole_runs.specs.Fits.{IsFit}
use Rattle.recorder_threads.specs.Threads.{AreThreadsOf}

-- a run makes the mark next, after marks that the threads stand for: thread t gives the answer to what its
-- code wants
pub record IsAnswered (l : Laid) (threads : List ThreadState) (t : ℕ) (On : Want → Type 0) (x : Answer) :
    Type 0 where
  pub world : World
  pub laid : world.laid ≡ l
  pub fit : IsFit world
  pub past : List Mark
  pub stand : AreThreadsOf world past threads
  pub mark : Mark
  pub of_thread : mark.thread ≡ t
  pub follows : Follows world (mark ∷ past)
  pub wanted : On follows.0.step.want
  pub answers : reply follows.0.step.side follows.0.step.want mark ≡ Some x

-- the event of a call of the interface by replay code
abbrev pub IsCall : Want → Type 0
IsCall Outside = ⊥
IsCall Turns = ⊥
IsCall (Loads origin at width) = ⊥
IsCall (Stores origin at bytes) = ⊥
IsCall (Enters indirect f args bytes) = ⊥
IsCall (Leaves at size) = ⊥
IsCall (Allocs size) = ⊥
IsCall (Frees at) = ⊥
IsCall (Calls indirect f args) = Unit {0}
IsCall (Below f args) = ⊥
IsCall (Gives f args) = ⊥
IsCall (Returns f args result) = ⊥
IsCall (CallsBack f args bytes) = ⊥
IsCall (UpReturns f result) = ⊥
IsCall (Steps indirect f args) = ⊥
IsCall (Fails kind) = ⊥

-- it is one of this function
abbrev pub IsCallTo : (func : ℕ) → Want → Type 0
IsCallTo f w = (indirect : Bool) × (args : List ℕ) × (w ≡ Calls indirect f args)

-- anything else
abbrev pub IsNoCall : Want → Type 0
IsNoCall w = ¬ IsCall w

-- the mark starts no thread
pub record IsPlain (l : Laid) (threads : List ThreadState) (t : ℕ) (On : Want → Type 0) (x : Answer) :
    Type 0 where
  pub next : IsAnswered l threads t On x
  pub alone : started (next.mark ∷ next.past) ≡ started next.past

-- it is an Up
pub record IsCalledBack (l : Laid) (threads : List ThreadState) (t : ℕ) : Type 0 where
  pub func : ℕ
  pub args : List ℕ
  pub plain : IsPlain l threads t IsNoCall (CalledBack func args)

-- the mark starts one, with a function's address and an argument: a call of `r2_spawn` that gives its number
pub record IsStart (l : Laid) (threads : List ThreadState) (t : ℕ) (address argument : ℕ) : Type 0 where
  pub next : IsAnswered l threads t IsNoCall (Value (length threads))
  pub outcome : Outcome
  pub comes : act_outcome next.mark.thread next.mark.act ≡ Some outcome
  pub starts : is_start outcome ≡ true
  pub with_args : outcome.args ≡ address ∷ argument ∷ []
