-- Code ends what is innermost.
use Rattle.std.proofs.Common.{◌≡◌, ℕ, zero, suc, List, [], ◌∷◌, Some, ap, sym, subst}
use Rattle.marks.specs.declared.side.Side.{Side}
use Rattle.marks.specs.declared.side.Side.TheVariants.{Replay, System}
use Rattle.marks.specs.declared.range.Range.{Range}
use Rattle.marks.specs.Ranges.{range}
use Rattle.marks.specs.Marks.{Mark}
use Rattle.marks.specs.Wants.{Leaves}
use Rattle.c_code.specs.MarkLists.{Split}
use Rattle.c_code.specs.Opens.{Begins, IsFirst, EndsInnermost, opens_by}
use Rattle.c_code.proofs.Open.{wants_end_innermost}
use Rattle.whole_runs.specs.World.{World}
use Rattle.whole_runs.specs.Sides.{own, frames_on}
use Rattle.whole_runs.specs.Threads.{beginning}
use Rattle.whole_runs_memory.specs.Plain.{first_of}
use Rattle.whole_runs_memory.specs.Threads.{CodeEndsInnermost, LeavesInnermost}
use Rattle.whole_runs_memory.proofs.Threads.{own_answers}

begins : (w : World) (past : List Mark) (t : ℕ) → Begins Split (beginning w past t)
begins w past zero = tt
begins w past (suc t) = tt

pub ends : (w : World) → CodeEndsInnermost w
ends w fit past follows s = wants_end_innermost Split w.laid fit.code.valid (beginning w past s.thread) (own w s.thread past) s.side s.want s.to (begins w past s.thread) (own_answers w fit.code past s.thread follows) s.comes_is

first_is : (r : Range) (fs : List Range) → IsFirst r fs → first_of fs ≡ Some r
first_is r [] h = absurd h
first_is r (f ∷ fs) h = ap (λ q. Some q) (sym h)

frame_is : (w : World) (past : List Mark) (t : ℕ) (side : Side) (at size : ℕ) →
    EndsInnermost side (Leaves at size) (opens_by (own w t past)) → first_of (frames_on w side t past) ≡ Some (range at size)
frame_is w past t Replay at size h = first_is (range at size) (frames_on w Replay t past) h
frame_is w past t System at size h = first_is (range at size) (frames_on w System t past) h

pub leaves : (w : World) → LeavesInnermost w
leaves w fit past follows s at size want = frame_is w past s.thread s.side at size (subst (λ z. EndsInnermost s.side z (opens_by (own w s.thread past))) want (ends w fit past follows s))
