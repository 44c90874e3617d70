-- What the marks of a list reach, as a list; and what is shown of the source.
use Rattle.std.specs.Prelude.{◌≡◌, ℕ, Bool, if◌then◌else◌, List, [], ◌∷◌, ◌++◌, Option, Some, None}
use Rattle.marks.specs.declared.side.Side.{Side}
use Rattle.marks.specs.Marks.{Mark}
use Rattle.marks.specs.Wants.{Want, Answer}
use Rattle.c_code.specs.MarkLists.{Verdict, Ended, Expects, Open, Wrong, reply}
use Rattle.c_semantics.specs.Reading.{Marks}
use Rattle.cut_graph_reached.specs.Reached.{Reach, by_pointer, reached}
use Rattle.cut_graph_laws.specs.Granted.{WantGranted}
use Rattle.cut_graph_laws.specs.SoundCut.{permits}
use Rattle.cut_graph_laws_examples.specs.Scene.{cut, scene}
use Rattle.cut_graph_laws_examples.specs.Runs.{thread}

abbrev of_reach : Option Reach → List Reach
of_reach (Some r) = r ∷ []
of_reach None = []

-- all that is reached, or through pointers alone
abbrev of_answer : (named : Bool) → Side → Want → Option Answer → List Reach
of_answer named side want (Some x) = if named then of_reach (reached side want x) else
    if by_pointer want then of_reach (reached side want x) else []
of_answer named side want None = []

abbrev pub reached_at : (named : Bool) → Verdict → Mark → List Reach
reached_at named (Expects side want) m = of_answer named side want (reply side want m)
reached_at named (Ended v) m = []
reached_at named Open m = []
reached_at named Wrong m = []

-- after some marks
abbrev pub reaches_after : (named : Bool) → Marks → (before ms : List Mark) → List Reach
reaches_after named p before [] = []
reaches_after named p before (m ∷ ms) =
    reached_at named (p before) m ++ reaches_after named p (before ++ m ∷ []) ms

abbrev pub reaches_of : (named : Bool) → Marks → List Mark → List Reach
reaches_of named p ms = reaches_after named p [] ms

abbrev pub on : Side → (func : ℕ) → Reach
on side f = record { side = side; func = f }

-- marks after which the source's thread wants what the cut doesn't permit
pub record BreaksTheCut (ms : List Mark) : Type 0 where
  pub side : Side
  pub want : Want
  pub expected : thread ms ≡ Expects side want
  pub not_granted : WantGranted scene (permits scene cut) side want → ⊥
