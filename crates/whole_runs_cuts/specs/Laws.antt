-- What an accepted cut is good for in whole runs.
use Rattle.std.specs.Prelude.{◌≡◌, ℕ, ◌<◌, Bool, true, false, List, Option, Some, None, reverse}
use Rattle.marks.specs.declared.side.Side.{Side}
use Rattle.marks.specs.declared.side.Side.TheVariants.{Replay, System}
use Rattle.marks.specs.Marks.{EventKind, Call, Ret, Up, UpRet, Alloc, Free, Stop, Act, Turn, Load, Store, Enter, Leave, Step, Fault, Made, Mark}
use Rattle.marks.specs.Wants.{Want, Answer}
use Rattle.c_code.specs.declared.code.FuncInfo.{FuncInfo}
use Rattle.c_code.specs.Machine.{Config, func_of}
use Rattle.c_code.specs.MarkLists.{Split, Wants, lists}
use Rattle.c_semantics.specs.Reading.{Marks}
use Rattle.c_semantics.specs.Context.{Source, param_shapes, type_of}
use Rattle.c_semantics.specs.Arguments.{ArgumentsAreConverted}
use Rattle.c_semantics.specs.Returned.{ResultsAreConverted}
use Rattle.c_lower_placement.specs.Laws.{MakesTheMarks}
use Rattle.c_lower_placement.specs.Placement.{IsSigOf}
use Rattle.replay_runs.specs.Runs.{In}
use Rattle.cut_graph_rules.specs.Findings.{Cut, IsAccepted, IsGlobal, May}
use Rattle.isolation_check_rules.specs.Places.{IsPlaced, Literal}
use Rattle.cut_graph_reached.specs.Reached.{Reach, reach}
use Rattle.cut_graph_reached.specs.Answers.{ModesKept}
use Rattle.cut_graph_laws.specs.Answering.{global_of, stored_by}
use Rattle.cut_graph_laws.specs.Granted.{WantGranted}
use Rattle.cut_graph_laws.specs.SoundCut.{IsCutOf, StaysWithin, permits}
use Rattle.cut_graph_run_laws.specs.Code.{IsCodeThread}
use Rattle.cut_graph_run_laws.specs.Replays.{KeepsTo}
use Rattle.whole_runs.specs.World.{World, interface}
use Rattle.whole_runs.specs.Sides.{own}
use Rattle.whole_runs.specs.Outcomes.{started}
use Rattle.whole_runs.specs.Threads.{beginning, comes}
use Rattle.whole_runs.specs.declared.ending.Ending.{Ending}
use Rattle.whole_runs.specs.Ends.{Follows, IsRun}
use Rattle.whole_runs.specs.Fits.{IsFitCode}

-- ---- what is run

-- the world runs code that makes the marks of the source, and that knows each function by its type there. In
-- the source calls and returns convert values
pub record RunsSource (s : Source) (w : World) : Type 0 where
  pub code : IsFitCode w.laid
  pub placed : w.laid.placed ≡ s.placed
  pub makes : MakesTheMarks s w.laid.code
  pub sigs : (f : ℕ) (info : FuncInfo) → func_of w.laid.code f ≡ Some info →
      IsSigOf s w.laid.code (type_of s f) info.sig
  pub params : (f : ℕ) (info : FuncInfo) → func_of w.laid.code f ≡ Some info →
      info.params ≡ param_shapes s f
  pub results : ResultsAreConverted s
  pub arguments : ArgumentsAreConverted s

-- the cut is one of the source and accepted, and lets functions run wherever the world does
pub record RunsUnder (s : Source) (c : Cut) (w : World) : Type 0 where
  pub source : RunsSource s w
  pub of : IsCutOf s c
  pub accepted : IsAccepted c
  pub keeps : KeepsTo (interface w) c

-- ---- what holds of it

-- what is said of a list of marks, of both sides of the cut, by what a thread began with
abbrev pub thread_of : World → List Mark → (thread : ℕ) → Marks
thread_of w past t = λ ms. lists Split ms w.laid (beginning w past t)

-- the thread is one of the code, and stays within the cut while pointers keep to its modes; in what it made
-- they did; and what it wants next is granted
pub record ThreadKeeps (s : Source) (c : Cut) (w : World) (past : List Mark) (t : ℕ) : Type 0 where
  pub thread : IsCodeThread s w.laid.code (thread_of w past t)
  pub within : StaysWithin c (thread_of w past t)
  pub kept : ModesKept (May c) (thread_of w past t) (reverse (own w t past))
  pub granted : (side : Side) (want : Want) (to : Answer → Config) → comes w past t ≡ Wants side want to →
      WantGranted s (permits s c) side want

-- ---- by marks

-- the function that runs from an event on, and the side on which it does: what is called of the interface
-- runs below the cut, and what is called back above it
abbrev pub event_runs : EventKind → Option Reach
event_runs (Call f args ins outs prepared) = reach System f
event_runs (Ret f args result same outs commit) = None
event_runs (Up f args) = reach Replay f
event_runs (UpRet f result) = None
event_runs (Alloc at size) = None
event_runs (Free at size) = None
event_runs (Stop fault) = None

-- from a mark of a side on: a body runs from its frame on, and a builtin or external in its one step
abbrev pub runs : Side → Act → Option Reach
runs side Turn = None
runs side (Load origin at bytes) = None
runs side (Store origin at bytes) = None
runs side (Enter f args at bytes) = reach side f
runs side (Leave at size) = None
runs side (Step f args result ins pieces freed) = reach side f
runs side (Fault kind crosses ins outs access) = None
runs side (Made e) = event_runs e.kind

abbrev pub is_step : Act → Bool
is_step Turn = false
is_step (Load origin at bytes) = false
is_step (Store origin at bytes) = false
is_step (Enter f args at bytes) = false
is_step (Leave at size) = false
is_step (Step f args result ins pieces freed) = true
is_step (Fault kind crosses ins outs access) = false
is_step (Made e) = false

-- no global is loaded or stored by its name on both sides of the cut, and stored by it
abbrev pub AreApart : Cut → List Mark → Type 0
AreApart c run =
    (a b k : Mark) (g : ℕ) (name : List ℕ) → IsGlobal c.program g name →
    In a run → a.side ≡ Replay → global_of a.act ≡ Some g →
    In b run → b.side ≡ System → global_of b.act ≡ Some g →
    In k run → stored_by k.act ≡ Some g → ⊥

-- the marks of a run keep the cut: each function that runs may run there, builtins and externals make steps
-- below the cut alone, and globals are kept apart
pub record MarksKeep (c : Cut) (run : List Mark) : Type 0 where
  pub runs : (m : Mark) (r : Reach) → In m run → runs m.side m.act ≡ Some r → May c r.side r.func
  pub steps : (m : Mark) → In m run → is_step m.act ≡ true → m.side ≡ System
  pub apart : AreApart c run

-- ---- the laws

-- where the places are those of the cut, the world lets functions run where the cut does
abbrev pub PlacesKeepTheCut : World → Type 0
PlacesKeepTheCut w = (c : Cut) (ls : List Literal) → IsPlaced c ls w.laid.placed → KeepsTo (interface w) c

pub record KeepsCut (s : Source) (c : Cut) (w : World) (past : List Mark) : Type 0 where
  pub threads : (t : ℕ) → t < started past → ThreadKeeps s c w past t
  pub marks : MarksKeep c past

-- after each step of a run each thread keeps the cut, and so do all marks
abbrev pub StepsKeepTheCut : Source → Cut → World → Type 0
StepsKeepTheCut s c w = RunsUnder s c w → (past : List Mark) → Follows w past → KeepsCut s c w past

-- and the marks of the whole run, however it ends
abbrev pub RunsKeepTheCut : Source → Cut → World → Type 0
RunsKeepTheCut s c w = RunsUnder s c w → (run : List Mark) (e : Ending) → IsRun w run e → MarksKeep c run
