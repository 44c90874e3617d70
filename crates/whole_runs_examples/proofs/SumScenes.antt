-- The runs of one thread.
use Rattle.std.proofs.Common.{◌≡◌, [], ◌∷◌, refl}
use Rattle.marks.specs.declared.side.Side.TheVariants.{Replay, System}
use Rattle.marks.specs.declared.fault.FaultKind.TheVariants.{Divide}
use Rattle.marks.specs.Marks.{UpRet}
use Rattle.marks.specs.Wants.{answer_to}
use Rattle.c_code.specs.MarkLists.{reply}
use Rattle.replay_runs.proofs.Tested.{all_from, first_bad}
use Rattle.replay_runs.proofs.Racing.{all_marks, threads_of}
use Rattle.replay_runs_examples.proofs.Bytes.{all_in, some_from, access_ranges, event_ranges, ranges_of, for_touched}
use Rattle.replay_runs_examples.proofs.Decide.{all_keys, some_key}
use Rattle.whole_runs.specs.declared.ending.Ending.TheVariants as ending
use Rattle.whole_runs.specs.declared.ending.Halt.TheVariants as halt
use Rattle.whole_runs.specs.Ends.{fault_end}
use Rattle.whole_runs.specs.Log.{log_of}
use Rattle.whole_runs_examples.specs.Play.{FaultsTo, IsNoStep, RunsTo, clocks, event_at, faulted, play, whole}
use Rattle.whole_runs_examples.specs.Sums.{dividing, dividing_below, division, doing_nothing, sum_log, summing, within}
use Rattle.whole_runs_examples.proofs.Ending.{is_done, used_up, is_fault, is_system_fault}
use Rattle.whole_runs_examples.proofs.Refusing.{not_wanted}

pub adds_up_run : RunsTo summing 6 ending.Done
unfolding reply answer_to all_from all_in some_from access_ranges event_ranges ranges_of for_touched all_keys some_key all_marks threads_of first_bad
adds_up_run = is_done summing 6 refl refl

pub adds_up_log : log_of summing (whole summing 6) ≡ sum_log
unfolding reply answer_to
adds_up_log = refl

pub adds_up_refused : IsNoStep summing 5 0 Replay (event_at summing 5 0 (UpRet 16 6))
unfolding reply answer_to
adds_up_refused h = not_wanted summing (play summing 5) _ 0 _ _ _ refl refl refl h

pub divides_fault : FaultsTo (dividing (within 9)) 3 0 Replay division (fault_end Replay Divide 0)
unfolding reply answer_to all_from all_in some_from access_ranges event_ranges ranges_of for_touched all_keys some_key all_marks threads_of first_bad
divides_fault = is_fault (dividing (within 9)) 3 refl 0 division _ _ Divide refl refl refl refl refl refl refl refl refl

pub divides_stop : clocks 0 (faulted (dividing (within 9)) 3 0 Replay division) ≡ 1 ∷ 2 ∷ []
unfolding reply answer_to
divides_stop = refl

pub divides_budget : RunsTo (dividing (within 1)) 1 (ending.Halted halt.Budget)
unfolding reply answer_to all_from all_in some_from access_ranges event_ranges ranges_of for_touched all_keys some_key all_marks threads_of first_bad
divides_budget = used_up (dividing (within 1)) 1 refl refl refl

pub divides_below : FaultsTo dividing_below 5 0 System division (fault_end System Divide 0)
unfolding reply answer_to all_from all_in some_from access_ranges event_ranges ranges_of for_touched all_keys some_key all_marks threads_of first_bad
divides_below = is_system_fault dividing_below 5 refl 0 division _ _ Divide refl refl refl refl refl refl refl refl refl

pub divides_no_stop : clocks 0 (faulted dividing_below 5 0 System division) ≡ 1 ∷ 2 ∷ []
unfolding reply answer_to
divides_no_stop = refl

pub halts_budget : RunsTo (doing_nothing 3) 3 (ending.Halted halt.Budget)
unfolding reply answer_to all_from all_in some_from access_ranges event_ranges ranges_of for_touched all_keys some_key all_marks threads_of first_bad
halts_budget = used_up (doing_nothing 3) 3 refl refl refl

pub halts_stop : clocks 0 (whole (doing_nothing 3) 3) ≡ 1 ∷ 2 ∷ []
unfolding reply answer_to
halts_stop = refl

pub halts_done : RunsTo (doing_nothing 4) 4 ending.Done
unfolding reply answer_to all_from all_in some_from access_ranges event_ranges ranges_of for_touched all_keys some_key all_marks threads_of first_bad
halts_done = is_done (doing_nothing 4) 4 refl refl
