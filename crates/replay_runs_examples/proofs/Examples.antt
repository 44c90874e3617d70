-- The examples, by computation.
use Rattle.std.proofs.Common.{◌≡◌, [], ◌∷◌, refl}
use Rattle.marks.specs.Wants.{answer_to}
use Rattle.replay_runs.specs.Laws.{IsReplayRun}
use Rattle.replay_runs_examples.specs.Programs.{run_of, here, clocks, whole, without_mutex, without_thread}
use Rattle.replay_runs_examples.specs.Locks.{locking, locked}
use Rattle.replay_runs_examples.specs.Regions as regions
use Rattle.replay_runs_examples.specs.Faults as faults
use Rattle.replay_runs_examples.proofs.Bytes.{all_from, all_in, some_from, access_ranges, event_ranges, ranges_of, for_touched}
use Rattle.replay_runs_examples.proofs.Decide.{all_keys, some_key, all_past, is_run, is_race_free, is_disciplined, disciplined}
use Rattle.replay_runs_examples.proofs.Refuse.{refused}

pub locked_holds : IsReplayRun (locking whole) here (run_of (locking whole) here locked)
unfolding answer_to all_from all_in some_from access_ranges event_ranges ranges_of for_touched all_keys some_key all_past is_run is_race_free is_disciplined
locked_holds = disciplined (locking whole) here (run_of (locking whole) here locked) refl

pub locked_clocks : (clocks 0 (run_of (locking whole) here locked) ≡ 12 ∷ 11 ∷ 10 ∷ 9 ∷ 6 ∷ 5 ∷ 4 ∷ 3 ∷ 2 ∷ 1 ∷ []) × (clocks 1 (run_of (locking whole) here locked) ≡ 8 ∷ 7 ∷ 6 ∷ 5 ∷ 4 ∷ 3 ∷ []) × (clocks 2 (run_of (locking whole) here locked) ≡ 10 ∷ 9 ∷ 8 ∷ 7 ∷ 6 ∷ 5 ∷ [])
locked_clocks = (refl, refl, refl)

pub unkeyed_races : IsReplayRun (locking without_mutex) here (run_of (locking without_mutex) here locked) → ⊥
unkeyed_races h = refused (locking without_mutex) here [] (run_of (locking without_mutex) here locked) 13 4 0x10000000 refl h

pub later_holds : IsReplayRun (regions.filling_later whole) here (run_of (regions.filling_later whole) here regions.filled_later)
unfolding answer_to all_from all_in some_from access_ranges event_ranges ranges_of for_touched all_keys some_key all_past is_run is_race_free is_disciplined
later_holds = disciplined (regions.filling_later whole) here (run_of (regions.filling_later whole) here regions.filled_later) refl

pub later_unjoined : IsReplayRun (regions.filling_later without_thread) here (run_of (regions.filling_later without_thread) here regions.filled_later) → ⊥
later_unjoined h = refused (regions.filling_later without_thread) here [] (run_of (regions.filling_later without_thread) here regions.filled_later) 2 5 0x10000000 refl h

pub freed_holds : IsReplayRun (faults.freeing whole) here (run_of (faults.freeing whole) here faults.freed)
unfolding answer_to all_from all_in some_from access_ranges event_ranges ranges_of for_touched all_keys some_key all_past is_run is_race_free is_disciplined
freed_holds = disciplined (faults.freeing whole) here (run_of (faults.freeing whole) here faults.freed) refl

pub freed_unjoined : IsReplayRun (faults.freeing without_thread) here (run_of (faults.freeing without_thread) here faults.freed) → ⊥
freed_unjoined h = refused (faults.freeing without_thread) here [] (run_of (faults.freeing without_thread) here faults.freed) 1 6 0x30000000 refl h

pub asked_holds : IsReplayRun faults.asking here (run_of faults.asking here faults.asked)
unfolding answer_to all_from all_in some_from access_ranges event_ranges ranges_of for_touched all_keys some_key all_past is_run is_race_free is_disciplined
asked_holds = disciplined faults.asking here (run_of faults.asking here faults.asked) refl

pub write_refused_holds : IsReplayRun faults.refused here (run_of faults.refused here faults.write_refused)
unfolding answer_to all_from all_in some_from access_ranges event_ranges ranges_of for_touched all_keys some_key all_past is_run is_race_free is_disciplined
write_refused_holds = disciplined faults.refused here (run_of faults.refused here faults.write_refused) refl

pub print_refused_holds : IsReplayRun faults.refused here (run_of faults.refused here faults.print_refused)
unfolding answer_to all_from all_in some_from access_ranges event_ranges ranges_of for_touched all_keys some_key all_past is_run is_race_free is_disciplined
print_refused_holds = disciplined faults.refused here (run_of faults.refused here faults.print_refused) refl
