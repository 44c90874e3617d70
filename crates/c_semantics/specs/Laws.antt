-- What holds of the marks of any source.
use Rattle.std.specs.Prelude.{◌≡◌, ◌≢◌, ℕ, List, ◌∷◌, ◌++◌, Some}
use Rattle.marks.specs.declared.side.Side.{Side}
use Rattle.marks.specs.Marks.{Mark}
use Rattle.marks.specs.Wants.{Want, Answer}
use Rattle.c_code.specs.MarkLists.{Ended, Wrong, reply}
use Rattle.c_semantics.specs.Reading.{Marks}

-- a right list stays right when it is cut short
abbrev pub PrefixesAreRight : Marks → Type 0
PrefixesAreRight p = (ms more : List Mark) → p (ms ++ more) ≢ Wrong → p ms ≢ Wrong

-- the two marks answer one want
pub record IsOneWant (m n : Mark) : Type 0 where
  pub side : Side
  pub want : Want
  pub first : Answer
  pub second : Answer
  pub first_answers : reply side want m ≡ Some first
  pub second_answers : reply side want n ≡ Some second

-- what comes next is a function of the marks so far: those that may follow the same marks answer one want
abbrev pub NextIsOne : Marks → Type 0
NextIsOne p = (past : List Mark) (m n : Mark) (ms ns : List Mark) → p (past ++ m ∷ ms) ≢ Wrong →
    p (past ++ n ∷ ns) ≢ Wrong → IsOneWant m n

-- nothing follows the end
abbrev pub EndIsLast : Marks → Type 0
EndIsLast p = (ms : List Mark) (m : Mark) (more : List Mark) (v : ℕ) → p ms ≡ Ended v →
    p (ms ++ m ∷ more) ≡ Wrong
