-- Threads, events and bytes of a run that comes to a step are few.
use Rattle.std.proofs.Common.{◌≡◌, ℕ, suc, ◌<◌, ◌≤◌, Bool, true, false, cond, List, [], ◌∷◌, length, subst, arith}
use Rattle.marks.specs.Places.{thread_count}
use Rattle.marks.specs.Marks.{Mark}
use Rattle.c_code.specs.MarkLists.{same_side}
use Rattle.marks.specs.declared.side.Side.TheVariants.{Replay}
use Rattle.steps_above_stamps.specs.State.{StampsState}
use Rattle.steps_above_stamps.specs.Stamps.{AreStampsOf}
use Rattle.steps_above_stamps.proofs.Few.{are_few}
use Rattle.whole_runs.specs.World.{World}
use Rattle.whole_runs.specs.Sides.{seen}
use Rattle.whole_runs.specs.Steps.{Picked}
use Rattle.whole_runs.specs.Ends.{Follows}
use Rattle.whole_runs.specs.Fits.{IsFit}
use Rattle.whole_runs_laws.proofs.FaultsAbove.{few_threads}
use Rattle.recorder_book.specs.Book.{BookState, IsBookOf, IsSmall}
use Rattle.recorder_book.proofs.Small.{is_small}
use Rattle.recorder_memory.specs.Stands.{placed}

seen_few : (past : List Mark) → length (seen past) ≤ length past
seen_few [] = omega arith
seen_few (m ∷ past) = go (same_side m.side Replay) (seen_few past)
  where
    go : (b : Bool) → length (seen past) ≤ length past → length (cond b (m ∷ seen past) (seen past)) ≤ suc (length past)
    go true h = omega (arith, h)
    go false h = omega (arith, h)

module _ (w : World) (fit : IsFit w) (past : List Mark) (s : Picked w past) where
  pub thread_few : (t : ℕ) → s.thread ≡ t → t < thread_count
  thread_few t e = subst (λ u. u < thread_count) e (few_threads w fit.file past s)

  pub events_few : (stamps : StampsState) → AreStampsOf (placed w) (seen past) stamps → stamps.clocks.events < 4000000000
  events_few stamps h =
      let few = are_few (placed w) (seen past) stamps h in
      omega (arith, few.events, seen_few past, s.goes_on.in_budget, fit.file.budget)

  pub book_few : (b : BookState) → Follows w past → IsBookOf w past b → IsSmall 0 b
  book_few b follows k = is_small w past [] b follows tt k
