-- How many marks a whole run has.
use Rattle.std.proofs.Common.{ℕ, suc, ◌≤◌, Bool, true, false, cond, List, [], ◌∷◌, ◌++◌, length, map, ap, arith}
use Rattle.std.specs.Prelude.{filter}
use Rattle.std.specs.List.{range_with_len}
use Rattle.std.proofs.lemmas.List.{length-append, length-map, length-reverse}
use Rattle.std.proofs.lemmas.List.FromFn.{length-range_with_len}
use Rattle.marks.specs.Marks.{Mark}
use Rattle.whole_runs.specs.declared.ending.Ending.{Ending}
use Rattle.whole_runs.specs.World.{World}
use Rattle.whole_runs.specs.Outcomes.{started}
use Rattle.whole_runs.specs.Threads.{in_replay_mode}
use Rattle.whole_runs.specs.Ends.{IsRun, stop_of, stops}
use Rattle.whole_runs.specs.Fits.{IsFit}
use Rattle.whole_runs_seen.proofs.BeforeStops.{after_last}
use Rattle.reference_recorder_laws.proofs.Short.{few_marks}
use Rattle.reference_recorder_laws.proofs.Stamped.{length_at_end}

filter_shorter : (p : ℕ → Bool) (ts : List ℕ) → length (filter p ts) ≤ length ts
filter_shorter p [] = omega arith
filter_shorter p (t ∷ ts) = by (p t) (filter_shorter p ts)
  where
    by : (b : Bool) → length (filter p ts) ≤ length ts → length (cond b (t ∷ filter p ts) (filter p ts)) ≤ suc (length ts)
    by true h = omega (arith, h)
    by false h = omega (arith, h)

-- one Stop of each thread at most
stops_few : (w : World) (now : List Mark) → length (stops w now) ≤ started now
stops_few w now =
    let a = length-reverse (map (stop_of w now) (filter (in_replay_mode w now) (range_with_len 0 (started now)))) in
    let b = length-map (filter (in_replay_mode w now) (range_with_len 0 (started now))) (stop_of w now) in
    let c = filter_shorter (in_replay_mode w now) (range_with_len 0 (started now)) in
    let d = length-range_with_len 0 (started now) in
    omega (arith, a, b, c, d)

pub length_whole : (w : World) → IsFit w → (run : List Mark) (e : Ending) → IsRun w run e → length run ≤ 100_000_033
length_whole w fit run e r =
    let now : List Mark = r.last ++ r.past in
    let a = ap length r.run_is in
    let b = length-append (stops w now) now in
    let c = stops_few w now in
    let d = (after_last w fit r.past r.follows r.last e r.ends).few in
    let f = length_at_end w r.past r.last e r.ends in
    let g = few_marks w fit r.past r.follows in
    omega (arith, a, b, c, d, f, g)
