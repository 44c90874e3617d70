-- The Stops of a run are few and short, so that its events and their bytes stay few.
use Rattle.std.proofs.Common.{ℕ, zero, suc, ◌^◌, ◌<◌, ◌≤◌, Bool, true, false, cond, List, [], ◌∷◌, ◌++◌, length, append_assoc, sym, ◌∙◌, subst, arith}
use Rattle.std.specs.List.{AllByRecursion}
use Rattle.std.proofs.lemmas.Bool.{true≢false}
use Rattle.std.proofs.lemmas.List.{length-append}
use Rattle.marks.specs.declared.side.Side.TheVariants.{Replay}
use Rattle.marks.specs.Marks.{Mark}
use Rattle.c_code.specs.MarkLists.{same_side}
use Rattle.steps_above_stamps.specs.State.{StampsState}
use Rattle.steps_above_stamps.specs.Stamps.{AreStampsOf}
use Rattle.steps_above_stamps.proofs.Few.{are_few}
use Rattle.whole_runs.specs.declared.ending.Ending.{Ending}
use Rattle.whole_runs.specs.World.{World}
use Rattle.whole_runs.specs.Sides.{seen}
use Rattle.whole_runs.specs.Threads.{in_replay_mode}
use Rattle.whole_runs.specs.Ends.{Follows, IsLast, done, budget, blocked, fault, breach, script, events, full, stop_of}
use Rattle.whole_runs.specs.Fits.{IsFit}
use Rattle.recorder_book.specs.Book.{BookState, IsBookOf, IsShort}
use Rattle.recorder_book.proofs.Lists.{all_append}
use Rattle.recorder_book.proofs.Small.{is_small}
use Rattle.recorder_memory.specs.Stands.{placed}
use Rattle.recorder_end.specs.Stops.{first_stops, with_stops}
use Rattle.recorder_end.proofs.Stopped.{first_more}
use Rattle.recorder_end.proofs.Reasons.{no_event}

-- so many marks at most, each short
record AreFew (n : ℕ) (after : List Mark) : Type 0 where
  few : length after ≤ n
  short : AllByRecursion IsShort after

seen_few : (past : List Mark) → length (seen past) ≤ length past
seen_few [] = omega arith
seen_few (m ∷ past) = go (same_side m.side Replay) (seen_few past)
  where
    go : (b : Bool) → length (seen past) ≤ length past → length (cond b (m ∷ seen past) (seen past)) ≤ suc (length past)
    go true h = omega (arith, h)
    go false h = omega (arith, h)

in_budget : (w : World) (past : List Mark) → Follows w past → length past ≤ w.file.budget
in_budget w [] f = omega arith
in_budget w (m ∷ past) f = let lt = f.0.step.goes_on.in_budget in omega (arith, lt)

stop_short : (w : World) (run : List Mark) (t : ℕ) → IsShort (stop_of w run t)
stop_short w run t made = omega arith

stops_few : (w : World) (run : List Mark) (n : ℕ) → AreFew n (first_stops w run n)
stops_few w run zero = record { few = omega arith; short = tt }
stops_few w run (suc n) = subst (AreFew (suc n)) (sym (first_more w run n)) (by (in_replay_mode w run n) (stops_few w run n))
  where
    by : (b : Bool) → AreFew n (first_stops w run n) → AreFew (suc n) (cond b (stop_of w run n ∷ first_stops w run n) (first_stops w run n))
    by true h = let le = h.few in record { few = omega (arith, le); short = (stop_short w run n, h.short) }
    by false h = let le = h.few in record { few = omega (arith, le); short = h.short }

module _ (w : World) (past : List Mark) (follows : Follows w past) where
  last_few : (last : List Mark) (e : Ending) → IsLast w past last e → AreFew 1 last
  last_few last e (done a) = record { few = omega arith; short = tt }
  last_few last e (budget a b) = record { few = omega arith; short = tt }
  last_few last e (blocked a b) = record { few = omega arith; short = tt }
  last_few last e (fault {m = m} kind s found h) = record { few = omega arith; short = (λ made. absurd (true≢false (sym made ∙ no_event m.act kind h.kind_is)), tt) }
  last_few last e (breach kind x other s found) = record { few = omega arith; short = tt }
  last_few last e (script s passes lacks) = record { few = omega arith; short = tt }
  last_few last e (events m s made many) = record { few = omega arith; short = tt }
  last_few last e (full m s made room many) = record { few = omega arith; short = tt }

  module _ (last : List Mark) (e : Ending) (ends : IsLast w past last e) (n : ℕ) (small : n < 32) where
    abbrev stops : List Mark
    stops = first_stops w (last ++ past) n

    pub stamps_few : IsFit w → (s : StampsState) → AreStampsOf (placed w) (seen (with_stops w (last ++ past) n)) s → s.clocks.events < 4000000000
    stamps_few fit s h =
        let counted = (are_few (placed w) (seen (with_stops w (last ++ past) n)) s h).events in
        let shown = seen_few (with_stops w (last ++ past) n) in
        let a = (stops_few w (last ++ past) n).few in
        let b = (last_few last e ends).few in
        let c = in_budget w past follows in
        let d = fit.file.budget in
        let p = length-append stops (last ++ past) in
        let q = length-append last past in
        omega (arith, counted, shown, a, b, c, d, p, q, small)

    pub record IsBookSmall (b : BookState) : Type 0 where
      pub events : b.events < 4000000000
      pub bytes : b.bytes < 2 ^ 63

    pub book_small : (b : BookState) → IsBookOf w (with_stops w (last ++ past) n) b → IsBookSmall b
    book_small b h =
        let first = stops_few w (last ++ past) n in
        let end = last_few last e ends in
        let it = is_small w past (stops ++ last) b follows (all_append IsShort stops last first.short end.short) (subst (λ ms. IsBookOf w ms b) (sym (append_assoc stops last past)) h) in
        let x = it.events in
        let y = it.bytes in
        let f = first.few in
        let g = end.few in
        let p = length-append stops last in
        record { events = omega (arith, x, f, g, p, small); bytes = omega (arith, y, f, g, p, small) }
