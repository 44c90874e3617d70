-- The thread that makes the next step, and what it wants, follow from the past.
use Rattle.std.proofs.Common.{◌≡◌, ℕ, List, Option, Some, None, sym, ap, ◌∙◌}
use Rattle.marks.specs.declared.side.Side.{Side}
use Rattle.marks.specs.declared.side.Side.TheVariants.{Replay}
use Rattle.marks.specs.Marks.{Mark}
use Rattle.marks.specs.Wants.{Want, Answer}
use Rattle.c_code.specs.Machine.{Config}
use Rattle.c_code.specs.MarkLists.{Next, Wants, want_of}
use Rattle.whole_runs.specs.World.{World}
use Rattle.whole_runs.specs.Threads.{comes}
use Rattle.whole_runs.specs.Picks.{stepping}
use Rattle.whole_runs.specs.Steps.{Picked}

abbrev some_or_zero : Option ℕ → ℕ
some_or_zero None = 0
some_or_zero (Some x) = x

abbrev side_of : Next → Side
side_of (Wants side want to) = side
side_of n = Replay

pub record IsPick (w : World) (past : List Mark) (t : ℕ) (side : Side) (want : Want) (s : Picked w past) : Type 0 where
  pub thread : s.thread ≡ t
  pub side_is : s.side ≡ side
  pub want_is : s.want ≡ want

pub picks_this : (w : World) (past : List Mark) (t : ℕ) (side : Side) (want : Want) (to : Answer → Config) → stepping w past ≡ Some t → comes w past t ≡ Wants side want to → (s : Picked w past) → IsPick w past t side want s
picks_this w past t side want to p c s =
    let same : s.thread ≡ t = ap some_or_zero (sym s.picked ∙ p) in
    let next : Wants s.side s.want s.to ≡ Wants side want to = sym s.comes_is ∙ (ap (comes w past) same ∙ c) in
    record { thread = same; side_is = ap side_of next; want_is = ap want_of next }

pub one_pick : (w : World) (past : List Mark) (s r : Picked w past) → IsPick w past r.thread r.side r.want s
one_pick w past s r = picks_this w past r.thread r.side r.want r.to r.picked r.comes_is s
