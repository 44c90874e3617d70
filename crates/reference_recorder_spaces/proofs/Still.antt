-- Marks that leave memory as it is.
use Rattle.std.proofs.Common.{◌≡◌, ℕ, ◌<◌, sym, subst, arith}
use Rattle.marks.specs.Places.{thread_count}
use Rattle.marks.specs.Marks.{Act, Turn, Load, Store, Enter, Leave, Step, Fault, Made, EventKind}
use Rattle.space_memory.specs.Spaces.{SpaceState}
use Rattle.space_memory_laws.specs.Marks.{IsQuiet, IsQuietEvent}
use Rattle.space_memory_laws.proofs.Quiet.{quiet}
use Rattle.reference_recorder_marks.specs.Marks.{without_origin}
use Rattle.reference_recorder_spaces.specs.Next.{IsDone, IsNext, MakesKind}

quiet_is : (a b : Act) → without_origin a ≡ b → IsQuiet b → IsQuiet a
quiet_is Turn b e q = tt
quiet_is (Load o at bytes) b e q = tt
quiet_is (Store o at bytes) b e q = absurd (subst IsQuiet (sym e) q)
quiet_is (Enter f args at bytes) b e q = absurd (subst IsQuiet (sym e) q)
quiet_is (Leave at size) b e q = absurd (subst IsQuiet (sym e) q)
quiet_is (Step f args v ins pieces freed) b e q = tt
quiet_is (Fault kind crosses ins outs access) b e q = tt
quiet_is (Made ev) b e q = subst IsQuiet (sym e) q

pub still : (old : SpaceState) (t : ℕ) (act : Act) → IsQuiet act → IsDone old t act old
still old t act q n = (quiet n.start n.past old n.mark n.stands (quiet_is n.mark.act act n.same q), n.untouched)

pub still_event : (old : SpaceState) (t : ℕ) (kind : EventKind) → IsQuietEvent kind → MakesKind old t kind old
still_event old t kind q e is n = still old t (Made e) (subst IsQuietEvent (sym is) q) n

-- what is done is this
pub done_as : (old : SpaceState) (t : ℕ) (a b : Act) (new : SpaceState) → a ≡ b → IsDone old t b new → IsDone old t a new
done_as old t a b new e h = subst (λ x. IsDone old t x new) (sym e) h

pub makes_as : (old : SpaceState) (t : ℕ) (k l : EventKind) (new : SpaceState) → k ≡ l → MakesKind old t l new → MakesKind old t k new
makes_as old t k l new e h = subst (λ x. MakesKind old t x new) (sym e) h

-- the thread is one of those that may be
pub few_threads : (old : SpaceState) (t : ℕ) (act : Act) → IsNext old t act → t < thread_count
few_threads old t act n = let lt = n.allowed.own.thread in let e = n.of_thread in omega (arith, lt, e)
