-- Memory that is lent to a stretch on either side of the cut.
use Rattle.std.proofs.Common.{◌≡◌, ◌+◌, ◌-◌, ◌≤◌, List, set, refl, ◌∙◌, arith}
use Rattle.marks.specs.declared.side.Side.{Side}
use Rattle.marks.specs.declared.side.Side.TheVariants.{Replay, System}
use Rattle.marks.specs.Wants.{Answer}
use Rattle.c_code.specs.Machine.{Laid}
use Rattle.c_machine.specs.Accesses.{Makes}
use Rattle.c_machine.specs.declared.wants.Want.{Want as Shown}
use Rattle.c_machine.specs.Moves.{ThreadState}
use Rattle.c_machine.specs.Readers.{side_of}
use Rattle.steps_above_stamps.specs.State.{StampsState}
use Rattle.steps_above_stamps.specs.Stamps.{CountsSteps}
use Rattle.whole_runs.specs.World.{World}
use Rattle.recorder_threads.specs.Threads.{thread_at}
use Rattle.recorder_state.specs.declared.state.RunState.{RunState}
use Rattle.recorder_state.specs.Stands.{IsReached}
use Rattle.recorder_stretches.specs.declared.above.Above.{Above}
use Rattle.recorder_stretches.specs.declared.below.Below.{Below}
use Rattle.recorder_stretches.specs.Stretches.{IsAtAccess, IsOneMore}
use Rattle.recorder_stretches.proofs.Chains.{keeps, reached_after, with_parts, within}

-- ---- above the cut

abbrev pub MakesAbove : Above → Shown → Answer → Above → Type 0
MakesAbove old w x new = (old.memory.ghost_name ≡ new.memory.ghost_name) × IsOneMore Replay old.memory.now old.left w x new.memory.now new.left

pub same_above : (l : Laid) (side : Side) (v : Above) (t : ThreadState) (z : Above) (u : ThreadState) → Makes MakesAbove l side v t z u → v.memory.ghost_name ≡ z.memory.ghost_name
same_above l side v t z u h = keeps MakesAbove l side (λ (a b : Above). a.memory.ghost_name ≡ b.memory.ghost_name) (λ a. refl) (λ a b d y x e m. e ∙ m.0) v t z u h

pub less_above : (l : Laid) (side : Side) (v : Above) (t : ThreadState) (z : Above) (u : ThreadState) → Makes MakesAbove l side v t z u → z.left ≤ v.left
less_above l side v t z u h = keeps MakesAbove l side (λ (a b : Above). b.left ≤ a.left) (λ a. omega arith) (λ a b d y x e m. let k = m.1.less_is in omega (arith, e, k)) v t z u h

pub reached_above : (w : World) (s : RunState) (at : IsAtAccess s Replay) (r : IsReached w s) (v z : Above) (threads : List ThreadState) (stamps : StampsState)
    → Makes MakesAbove w.laid (side_of (thread_at s.threads 0).config) v (thread_at s.threads 0) z (thread_at threads 0) → v.memory.now ≡ s.memory → v.left ≡ w.file.budget - s.steps → threads ≡ set s.threads 0 (thread_at threads 0)
    → CountsSteps 0 (w.file.budget - s.steps - z.left) s.stamps stamps → IsReached w (with_parts s threads z.memory.now stamps (s.steps + (w.file.budget - s.steps - z.left)))
reached_above w s at r v z threads stamps marks same left others counted =
    let in_budget = within w s r in
    reached_after MakesAbove (λ (a : Above). a.memory.now) (λ (a : Above). a.left) Replay (λ a b y x m. m.1) w s at r v z threads stamps (w.file.budget - s.steps - z.left) (λ e. counted.there) counted.counted same
    (omega (arith, in_budget, left)) (omega (arith, left)) marks others

-- ---- below the cut

abbrev pub MakesBelow : Below → Shown → Answer → Below → Type 0
MakesBelow old w x new = (old.memory.ghost_name ≡ new.memory.ghost_name) × IsOneMore System old.memory.now old.left w x new.memory.now new.left

pub same_below : (l : Laid) (side : Side) (v : Below) (t : ThreadState) (z : Below) (u : ThreadState) → Makes MakesBelow l side v t z u → v.memory.ghost_name ≡ z.memory.ghost_name
same_below l side v t z u h = keeps MakesBelow l side (λ (a b : Below). a.memory.ghost_name ≡ b.memory.ghost_name) (λ a. refl) (λ a b d y x e m. e ∙ m.0) v t z u h

pub less_below : (l : Laid) (side : Side) (v : Below) (t : ThreadState) (z : Below) (u : ThreadState) → Makes MakesBelow l side v t z u → z.left ≤ v.left
less_below l side v t z u h = keeps MakesBelow l side (λ (a b : Below). b.left ≤ a.left) (λ a. omega arith) (λ a b d y x e m. let k = m.1.less_is in omega (arith, e, k)) v t z u h

pub reached_below : (w : World) (s : RunState) (at : IsAtAccess s System) (r : IsReached w s) (v z : Below) (threads : List ThreadState)
    → Makes MakesBelow w.laid (side_of (thread_at s.threads 0).config) v (thread_at s.threads 0) z (thread_at threads 0) → v.memory.now ≡ s.memory → v.left ≡ w.file.budget - s.steps → threads ≡ set s.threads 0 (thread_at threads 0)
    → IsReached w (with_parts s threads z.memory.now s.stamps (s.steps + (w.file.budget - s.steps - z.left)))
reached_below w s at r v z threads marks same left others =
    let in_budget = within w s r in
    reached_after MakesBelow (λ (a : Below). a.memory.now) (λ (a : Below). a.left) System (λ a b y x m. m.1) w s at r v z threads s.stamps (w.file.budget - s.steps - z.left) (λ e. absurd cc) refl same
    (omega (arith, in_budget, left)) (omega (arith, left)) marks others
