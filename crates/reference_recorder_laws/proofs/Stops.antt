-- The Stops of a run, of marks that don't say with which globals paths begin.
use Rattle.std.proofs.Common.{◌≡◌, ℕ, suc, List, [], ◌∷◌, ◌++◌, length, map, reverse, Option, refl, sym, ap, ◌∙◌}
use Rattle.std.specs.Prelude.{filter}
use Rattle.std.specs.List.{range_with_len}
use Rattle.std.proofs.lemmas.List.{map-append, reverse-append}
use Rattle.marks.specs.declared.side.Side.TheVariants.{Replay}
use Rattle.marks.specs.declared.fault.FaultKind.{FaultKind}
use Rattle.marks.specs.Marks.{Stop, Made, Mark}
use Rattle.replay_runs.specs.Runs.{OfThread, last_clock, marks_of, new_events, steps_since}
use Rattle.replay_runs.specs.Threads.{fault_of}
use Rattle.whole_runs.specs.World.{World, begin}
use Rattle.whole_runs.specs.Sides.{seen}
use Rattle.whole_runs.specs.Outcomes.{started}
use Rattle.whole_runs.specs.Threads.{in_replay_mode}
use Rattle.whole_runs.specs.Ends.{stop_of, stops}
use Rattle.recorder_book.proofs.Lists.{map_reverse}
use Rattle.reference_recorder_marks.specs.declared.mark.Mark.{Mark as Told}
use Rattle.reference_recorder_marks.specs.Marks.{mark_of, past, without_origins}
use Rattle.reference_recorder_origins.proofs.Blind.{blank}
use Rattle.reference_recorder_origins.proofs.Memory.{fault_mine, steps_mine}
use Rattle.reference_recorder_origins.proofs.Parts.{new_without}
use Rattle.reference_recorder_laws.specs.AtEnd.{IsPastAtEnd, IsWholeRun}

-- a Stop, by the thread's events, its fault and its steps
abbrev stop_from : (t : ℕ) → List Mark → Option FaultKind → (steps : ℕ) → Mark
stop_from t events fault steps = record {
  thread = t;
  side = Replay;
  index = length events;
  act = Made (record { kind = Stop fault; steps = steps; keys = []; clock = suc (last_clock events) });
}

module _ (w : World) (run : List Mark) (t : ℕ) where
  abbrev mine : List Mark → List Mark
  mine ms = marks_of (begin w) t (seen ms)

  abbrev bare : List Mark
  bare = without_origins run

  pub stop_without : stop_of w bare t ≡ stop_of w run t
  stop_without =
      ap (λ es. stop_from t es (fault_of (mine bare)) (steps_since (mine bare))) (new_without (OfThread t) run)
      ∙ ap (λ k. stop_from t (new_events (OfThread t) run) k (steps_since (mine bare))) (fault_mine w t run)
      ∙ ap (stop_from t (new_events (OfThread t) run) (fault_of (mine run))) (steps_mine w t run)

-- ---- Stops have no origins

each_without : (w : World) (run : List Mark) (ts : List ℕ) → without_origins (map (stop_of w run) ts) ≡ map (stop_of w run) ts
each_without w run [] = refl
each_without w run (t ∷ ts) = ap (λ ms. stop_of w run t ∷ ms) (each_without w run ts)

pub stops_without : (w : World) (run : List Mark) → without_origins (stops w run) ≡ stops w run
stops_without w run =
    let ts = filter (in_replay_mode w run) (range_with_len 0 (started run)) in
    map_reverse blank (map (stop_of w run) ts) ∙ ap reverse (each_without w run ts)

pub past_append : (marks added : List Told) → past (marks ++ added) ≡ past added ++ past marks
past_append marks added = ap reverse (map-append mark_of marks added) ∙ reverse-append (map mark_of marks) (map mark_of added)

module _ (w : World) (marks added : List Told) (p : IsPastAtEnd w marks) (are : past added ≡ stops w (p.last ++ p.past)) where
  abbrev now : List Mark
  now = p.last ++ p.past

  same : without_origins (stops w now ++ now) ≡ past (marks ++ added)
  same =
      map-append blank (stops w now) now
      ∙ ap (λ ms. ms ++ without_origins now) (stops_without w now ∙ sym are)
      ∙ ap (λ ms. past added ++ ms) p.same
      ∙ sym (past_append marks added)

  pub with_stops : IsWholeRun w (marks ++ added)
  with_stops = record {
    fit = p.fit;
    run = stops w now ++ now;
    ending = p.ending;
    is_run = record { past = p.past; follows = p.follows; last = p.last; ends = p.ends; run_is = refl };
    same = same;
  }
