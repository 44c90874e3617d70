-- Marks of right lists, and the globals that they touch.
use Rattle.std.specs.Prelude.{◌≡◌, ◌≢◌, ℕ, List, ◌∷◌, ◌++◌, Option, Some, None}
use Rattle.marks.specs.declared.side.Side.{Side}
use Rattle.marks.specs.declared.side.Side.TheVariants.{Replay, System}
use Rattle.marks.specs.Marks.{Act, Turn, Load, Store, Enter, Leave, Step, Fault, Made, Mark}
use Rattle.marks.specs.Wants.{Want, Answer}
use Rattle.c_code.specs.MarkLists.{Expects, Wrong, reply}
use Rattle.c_semantics.specs.Reading.{Marks}
use Rattle.cut_graph_rules.specs.Findings.{Cut, IsGlobal}
use Rattle.cut_graph_laws.specs.SoundCut.{Part}

-- the mark answers what was expected after those before it
pub record Answering (p : Marks) (before : List Mark) (m : Mark) : Type 0 where
  pub side : Side
  pub want : Want
  pub answer : Answer
  pub expected : p before ≡ Expects side want
  pub answers : reply side want m ≡ Some answer

-- each mark of a right list does
abbrev pub MarksAnswer : Marks → Type 0
MarksAnswer p = (before : List Mark) (m : Mark) (after : List Mark) → p (before ++ (m ∷ after)) ≢ Wrong →
    Answering p before m

-- the global with which the path of an access begins, and that of a Store
abbrev pub global_of : Act → Option ℕ
global_of (Load origin at bytes) = origin
global_of (Store origin at bytes) = origin
global_of Turn = None
global_of (Enter func args at bytes) = None
global_of (Leave at size) = None
global_of (Step func args result ins pieces freed) = None
global_of (Fault kind crosses ins outs access) = None
global_of (Made event) = None

abbrev pub stored_by : Act → Option ℕ
stored_by (Store origin at bytes) = origin
stored_by (Load origin at bytes) = None
stored_by Turn = None
stored_by (Enter func args at bytes) = None
stored_by (Leave at size) = None
stored_by (Step func args result ins pieces freed) = None
stored_by (Fault kind crosses ins outs access) = None
stored_by (Made event) = None

-- the mark stands in a right list of the thread's marks
pub record IsMarkOf (c : Cut) (Threads : Marks → Type 0) (d : Part c Threads) (m : Mark) : Type 0 where
  pub before : List Mark
  pub after : List Mark
  pub there : d.marks ≡ before ++ (m ∷ after)
  pub right : d.behaviour d.marks ≢ Wrong

-- no global is that of marks on both sides, and of one that stores it
abbrev pub MarksKeepApart : (c : Cut) (Threads : Marks → Type 0) → Type 0
MarksKeepApart c Threads =
    (d e w : Part c Threads) (a b k : Mark) (g : ℕ) (name : List ℕ) → IsGlobal c.program g name →
    IsMarkOf c Threads d a → a.side ≡ Replay → global_of a.act ≡ Some g →
    IsMarkOf c Threads e b → b.side ≡ System → global_of b.act ≡ Some g →
    IsMarkOf c Threads w k → stored_by k.act ≡ Some g → ⊥
