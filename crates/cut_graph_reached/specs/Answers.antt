-- What the marks of a list answer, and the modes to which they keep. A behaviour says of each list of marks
-- what follows it; what it expects after the marks before a place is what the mark there may answer.
use Rattle.std.specs.Prelude.{◌≡◌, ℕ, true, List, ◌∷◌, ◌++◌, Some}
use Rattle.marks.specs.declared.side.Side.{Side}
use Rattle.marks.specs.Marks.{Mark}
use Rattle.marks.specs.Wants.{Want, Answer}
use Rattle.c_code.specs.MarkLists.{Verdict, Expects, reply}
use Rattle.cut_graph_reached.specs.Reached.{Reach, by_pointer, reached}

-- at some place of the list this was wanted, and the mark there answered so
pub record IsAnswered (p : List Mark → Verdict) (ms : List Mark) (side : Side) (want : Want) (x : Answer) :
    Type 0 where
  pub before : List Mark
  pub mark : Mark
  pub after : List Mark
  pub there : ms ≡ before ++ (mark ∷ after)
  pub wanted : p before ≡ Expects side want
  pub answers : reply side want mark ≡ Some x

-- in the list the function was reached on the side
pub record IsReached (p : List Mark → Verdict) (ms : List Mark) (r : Reach) : Type 0 where
  pub side : Side
  pub want : Want
  pub answer : Answer
  pub answered : IsAnswered p ms side want answer
  pub reaches : reached side want answer ≡ Some r

-- it was reached through a pointer, or from below the cut
pub record IsReachedByPointer (p : List Mark → Verdict) (ms : List Mark) (r : Reach) : Type 0 where
  pub reaches : IsReached p ms r
  pub pointer : by_pointer reaches.want ≡ true

-- pointers keep to the modes: what is reached through one may run there
abbrev pub ModesKept : (may : Side → (func : ℕ) → Type 0) → (List Mark → Verdict) → List Mark → Type 0
ModesKept may p ms = (r : Reach) → IsReachedByPointer p ms r → may r.side r.func

-- all that is reached may run there
abbrev pub ReachesKept : (may : Side → (func : ℕ) → Type 0) → (List Mark → Verdict) → List Mark → Type 0
ReachesKept may p ms = (r : Reach) → IsReached p ms r → may r.side r.func
