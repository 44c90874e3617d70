-- What holds of the mark lists of any code.
use Rattle.std.specs.Prelude.{ℕ, ◌*◌, ◌+◌, ◌≤◌, length, ◌≡◌, ◌≢◌, true, List, ◌∷◌, ◌++◌, Option, Some, is_some, reverse}
use Rattle.source_limits.specs.Limits.{most_values}
use Rattle.marks.specs.declared.side.Side.{Side}
use Rattle.marks.specs.declared.side.Side.TheVariants.{Replay}
use Rattle.marks.specs.Marks.{Mark}
use Rattle.marks.specs.Wants.{Want, Below, Gives, Returns, Answer, answer_to, is_below}
use Rattle.c_code.specs.Values.{is_value}
use Rattle.c_code.specs.Machine.{Laid, Config, Starting, action}
use Rattle.c_code.specs.Valid.{IsValid}
use Rattle.c_code.specs.Fits.{Fits, FitsAction, values_of, waits_of}
use Rattle.c_code.specs.MarkLists.{Reading, Split, Next, Wants, result_of, step, settled, Expects, Wrong, replay_part, reply, lists, state, want_above}

-- the mark is one that answers what is wanted
pub record IsWanted (next : Next) (m : Mark) : Type 0 where
  pub side : Side
  pub want : Want
  pub to : Answer → Config
  pub answer : Answer
  pub wants : next ≡ Wants side want to
  pub answers : reply side want m ≡ Some answer

-- a right list stays right when it is cut short
abbrev pub PrefixesAreLists : Reading → Laid → Config → Type 0
PrefixesAreLists r l c = (ms more : List Mark) → lists r (ms ++ more) l c ≢ Wrong → lists r ms l c ≢ Wrong

-- each mark of a right list answers what is wanted after those before it: what is wanted is a function of
-- the marks so far
abbrev pub EachMarkIsWanted : Reading → Laid → Config → Type 0
EachMarkIsWanted r l c = (past : List Mark) (m : Mark) (more : List Mark) →
    lists r (reverse past ++ (m ∷ more)) l c ≢ Wrong → IsWanted (step r l (state r l c past)) m

-- what is said of a list that may go on is what is wanted after its marks
abbrev pub WhatIsExpectedIsWanted : Reading → Laid → Config → Type 0
WhatIsExpectedIsWanted r l c = (past : List Mark) (side : Side) (want : Want) →
    lists r (reverse past) l c ≡ Expects side want → (to : Answer → Config) ×
    (step r l (state r l c past) ≡ Wants side want to)

-- from a configuration that fits each step leads to one that fits, none is stuck, and each function that is
-- entered has
-- at most so many values
pub record GoesOnWell (l : Laid) (height : ℕ → ℕ) (c : Config) : Type 0 where
  pub steps : FitsAction l.code height (action l c)
  pub settles : Fits l.code height (settled l c)
  pub few : length (values_of (settled l c)) ≤ most_values * (1 + length (waits_of c))

abbrev pub ValidCodeGoesOn : Laid → Type 0
ValidCodeGoesOn l = (valid : IsValid l.code) (c : Config) → Fits l.code valid.height c →
    GoesOnWell l valid.height c

-- below the cut the functions of a thread's own code return values of their results' types
abbrev pub ReturnsValues : Laid → Option ℕ → List ℕ → Type 0
ReturnsValues l f args =
    (past : List Mark) (g : ℕ) (bs : List ℕ) (v : ℕ) (to : Answer → Config) →
    lists Split (reverse past) l (Starting f args) ≢ Wrong →
    step Split l (state Split l (Starting f args) past) ≡ Wants Replay (Returns g bs v) to →
    is_value (result_of l g) v ≡ true

-- what is wanted above the cut where replay code wants this: the end of what is below a call may come, of
-- whatever result
abbrev pub seen_above : Want → Want
seen_above (Gives f args) = Below f args
seen_above (Returns f args v) = Below f args
seen_above want = want

-- what is wanted above the cut while the thread's own code is before this
abbrev pub IsSeenAbove : Next → Want → Type 0
IsSeenAbove (Wants Replay want to) above = above ≡ seen_above want
IsSeenAbove n above = is_below above ≡ true

-- what a thread wants above the cut, as a function of its marks there, is what its own code wants there,
-- whatever its marks
-- below the cut; and while its code is below the cut, it may be called back
abbrev pub AboveForgets : Laid → Option ℕ → List ℕ → Type 0
AboveForgets l f args = (past : List Mark) → lists Split (reverse past) l (Starting f args) ≢ Wrong →
    IsSeenAbove (step Split l (state Split l (Starting f args) past)) (want_above l (replay_part past))

-- each mark that a thread makes above the cut answers what is wanted there after those before it there
abbrev pub MarksAnswerAbove : Laid → Option ℕ → List ℕ → Type 0
MarksAnswerAbove l f args =
    (past : List Mark) (m : Mark) (more : List Mark) →
    lists Split (reverse past ++ (m ∷ more)) l (Starting f args) ≢ Wrong → m.side ≡ Replay →
    is_some (answer_to (want_above l (replay_part past)) m.act) ≡ true
