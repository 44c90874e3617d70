-- The runs that cross the cut in both directions.
use Rattle.std.proofs.Common.{◌≡◌, [], ◌∷◌, length, Some, None, refl, ap, arith}
use Rattle.std.specs.Prelude.{codes, replicate}
use Rattle.run_events.specs.declared.key.Class.TheVariants.{Callback, Thread}
use Rattle.marks.specs.declared.side.Side.TheVariants.{Replay, System}
use Rattle.marks.specs.declared.fault.FaultKind.TheVariants.{NotLive, BadCall}
use Rattle.marks.specs.declared.breach.BreachKind.TheVariants.{Race, Pending, OtherSpace, Mode}
use Rattle.marks.specs.Marks.{Enter, Step}
use Rattle.marks.specs.Wants.{answer_to}
use Rattle.c_code.specs.MarkLists.{reply}
use Rattle.replay_runs.proofs.Tested.{all_from, first_bad}
use Rattle.replay_runs.proofs.Racing.{all_marks, threads_of}
use Rattle.replay_runs_examples.proofs.Bytes.{all_in, some_from, access_ranges, event_ranges, ranges_of, for_touched}
use Rattle.replay_runs_examples.proofs.Decide.{all_keys, some_key}
use Rattle.whole_runs.specs.declared.ending.Ending.TheVariants as ending
use Rattle.whole_runs.specs.declared.ending.Halt.TheVariants as halt
use Rattle.whole_runs.specs.Ends.{fault_end, breach_end}
use Rattle.whole_runs.specs.Log.{replay_output, system_output}
use Rattle.whole_runs_examples.specs.Play.{FaultsTo, IsNoStep, RunsTo, clocks, play, ticketed_key, tickets, whole}
use Rattle.whole_runs_examples.specs.Worlds.{answer}
use Rattle.whole_runs_examples.specs.Crossings.{asking, call_of_none, calling_back, doubling, freed_and_read, freeing_held, handing_down, keyless, main_again, no_function, peeking, pointing, pointing_below, pointing_nowhere, read_of_none, reading_freed, spawning, spawning_below, writing_after, writing_in}
use Rattle.whole_runs_examples.proofs.Ending.{is_done, lacks_answer, is_breach, is_fault, is_system_fault}
use Rattle.whole_runs_examples.proofs.Refusing.{placed_by}

pub doubles_run : RunsTo doubling 15 ending.Done
unfolding reply answer_to all_from all_in some_from access_ranges event_ranges ranges_of for_touched all_keys some_key all_marks threads_of first_bad
doubles_run = is_done doubling 15 refl refl

pub doubles_above : replay_output doubling (whole doubling 15) ≡ codes "m"
unfolding reply answer_to
doubles_above = refl

pub doubles_below : system_output (whole doubling 15) ≡ codes "t"
unfolding reply answer_to
doubles_below = refl

pub doubles_refused : IsNoStep doubling 6 0 System (Step 16 [] 8 [] [] [])
unfolding reply answer_to
doubles_refused h = let e : 8 ≡ 7 = h.0.made.agrees.result_is in absurd (omega (arith, e))

pub asks_in_order_run : RunsTo asking 13 ending.Done
unfolding reply answer_to all_from all_in some_from access_ranges event_ranges ranges_of for_touched all_keys some_key all_marks threads_of first_bad
asks_in_order_run = is_done asking 13 refl refl

pub asks_in_order_refused : IsNoStep asking 6 0 System (Step 16 [] 1 [] [] [])
unfolding reply answer_to
asks_in_order_refused h = let e : 1 ≡ 2 = h.0.made.agrees.result_is in absurd (omega (arith, e))

pub peeks_run : RunsTo peeking 9 (breach_end Pending 0 0x10000000 None)
unfolding reply answer_to all_from all_in some_from access_ranges event_ranges ranges_of for_touched all_keys some_key all_marks threads_of first_bad
peeks_run = is_breach peeking 9 refl 0 _ _ _ Pending 0x10000000 None refl refl refl refl

pub peeks_stop : clocks 0 (whole peeking 9) ≡ 1 ∷ 2 ∷ 3 ∷ 4 ∷ []
unfolding reply answer_to
peeks_stop = refl

pub peeks_frame : IsNoStep peeking 8 0 Replay (Enter 17 [] 0x60000010 (replicate 16 0))
unfolding reply answer_to
peeks_frame h = let e : 0x60000010 ≡ 0x20000010 = placed_by peeking (play peeking 8) 0 Replay 0 Replay _ _ 17 [] 0x60000010 (replicate 16 0) refl refl h in absurd (omega (arith, e))

pub points_above_run : RunsTo pointing 2 (breach_end Mode 0 0x1100 None)
unfolding reply answer_to all_from all_in some_from access_ranges event_ranges ranges_of for_touched all_keys some_key all_marks threads_of first_bad
points_above_run = is_breach pointing 2 refl 0 _ _ _ Mode 0x1100 None refl refl refl refl

pub points_above_stop : clocks 0 (whole pointing 2) ≡ 1 ∷ 2 ∷ []
unfolding reply answer_to
points_above_stop = refl

pub points_below_run : RunsTo (pointing_below (answer 16 7 [] ∷ [])) 9 ending.Done
unfolding reply answer_to all_from all_in some_from access_ranges event_ranges ranges_of for_touched all_keys some_key all_marks threads_of first_bad
points_below_run = is_done (pointing_below (answer 16 7 [] ∷ [])) 9 refl refl

pub points_below_none : RunsTo (pointing_below []) 4 (ending.Halted (halt.Script 16))
unfolding reply answer_to all_from all_in some_from access_ranges event_ranges ranges_of for_touched all_keys some_key all_marks threads_of first_bad
points_below_none = lacks_answer (pointing_below []) 4 refl 0 _ _ _ 16 _ refl refl refl refl refl refl

pub points_below_nowhere : RunsTo pointing_nowhere 4 (breach_end Mode 0 0x1100 None)
unfolding reply answer_to all_from all_in some_from access_ranges event_ranges ranges_of for_touched all_keys some_key all_marks threads_of first_bad
points_below_nowhere = is_breach pointing_nowhere 4 refl 0 _ _ _ Mode 0x1100 None refl refl refl refl

pub forbids_writes : RunsTo writing_in 5 (breach_end OtherSpace 0 0x10000000 None)
unfolding reply answer_to all_from all_in some_from access_ranges event_ranges ranges_of for_touched all_keys some_key all_marks threads_of first_bad
forbids_writes = is_breach writing_in 5 refl 0 _ _ _ OtherSpace 0x10000000 None refl refl refl refl

pub forbids_later : RunsTo writing_after 10 (breach_end OtherSpace 0 0x10000000 None)
unfolding reply answer_to all_from all_in some_from access_ranges event_ranges ranges_of for_touched all_keys some_key all_marks threads_of first_bad
forbids_later = is_breach writing_after 10 refl 0 _ _ _ OtherSpace 0x10000000 None refl refl refl refl

pub forbids_frees : RunsTo freeing_held 6 (breach_end OtherSpace 0 0x30000000 None)
unfolding reply answer_to all_from all_in some_from access_ranges event_ranges ranges_of for_touched all_keys some_key all_marks threads_of first_bad
forbids_frees = is_breach freeing_held 6 refl 0 _ _ _ OtherSpace 0x30000000 None refl refl refl refl

pub hands_down_mode : RunsTo (handing_down 0x1110) 2 (breach_end Mode 0 0x1110 None)
unfolding reply answer_to all_from all_in some_from access_ranges event_ranges ranges_of for_touched all_keys some_key all_marks threads_of first_bad
hands_down_mode = is_breach (handing_down 0x1110) 2 refl 0 _ _ _ Mode 0x1110 None refl refl refl refl

pub hands_down_bytes : FaultsTo (handing_down 0) 2 0 Replay call_of_none (fault_end Replay NotLive 0)
unfolding reply answer_to all_from all_in some_from access_ranges event_ranges ranges_of for_touched all_keys some_key all_marks threads_of first_bad
hands_down_bytes = is_fault (handing_down 0) 2 refl 0 call_of_none _ _ NotLive refl refl refl refl refl refl refl refl refl

pub calls_main_back_run : RunsTo main_again 15 ending.Done
unfolding reply answer_to all_from all_in some_from access_ranges event_ranges ranges_of for_touched all_keys some_key all_marks threads_of first_bad
calls_main_back_run = is_done main_again 15 refl refl

pub calls_main_back_clocks : clocks 0 (whole main_again 15) ≡ 1 ∷ 2 ∷ 3 ∷ 4 ∷ 5 ∷ 6 ∷ []
unfolding reply answer_to
calls_main_back_clocks = refl

pub calls_back_twice_run : RunsTo calling_back 19 ending.Done
unfolding reply answer_to all_from all_in some_from access_ranges event_ranges ranges_of for_touched all_keys some_key all_marks threads_of first_bad
calls_back_twice_run = is_done calling_back 19 refl refl

pub calls_back_twice_keys : tickets 1 (whole calling_back 19) ≡ (ticketed_key Callback 18 1 ∷ []) ∷ (ticketed_key Thread 1 0 ∷ []) ∷ (ticketed_key Callback 18 2 ∷ []) ∷ (ticketed_key Thread 1 1 ∷ []) ∷ []
unfolding reply answer_to
calls_back_twice_keys = refl

pub calls_back_twice_keyless : IsNoStep calling_back 13 1 Replay keyless
unfolding reply answer_to
calls_back_twice_keyless h = let e : 0 ≡ 1 = ap length (h.0.made.mark.above refl).own.0 in absurd (omega (arith, e))

pub spawns_wrong : FaultsTo (spawning 0x1100) 4 1 System no_function (fault_end System BadCall 1)
unfolding reply answer_to all_from all_in some_from access_ranges event_ranges ranges_of for_touched all_keys some_key all_marks threads_of first_bad
spawns_wrong = is_system_fault (spawning 0x1100) 4 refl 1 no_function _ _ BadCall refl refl refl refl refl refl refl refl refl

pub spawns_null : FaultsTo (spawning 0) 4 1 System no_function (fault_end System BadCall 1)
unfolding reply answer_to all_from all_in some_from access_ranges event_ranges ranges_of for_touched all_keys some_key all_marks threads_of first_bad
spawns_null = is_system_fault (spawning 0) 4 refl 1 no_function _ _ BadCall refl refl refl refl refl refl refl refl refl

pub spawns_below_run : RunsTo spawning_below 14 ending.Done
unfolding reply answer_to all_from all_in some_from access_ranges event_ranges ranges_of for_touched all_keys some_key all_marks threads_of first_bad
spawns_below_run = is_done spawning_below 14 refl refl

pub spawns_below_no_events : clocks 1 (whole spawning_below 14) ≡ []
unfolding reply answer_to
spawns_below_no_events = refl

pub frees_fault : FaultsTo freed_and_read 17 0 Replay read_of_none (fault_end Replay NotLive 0)
unfolding reply answer_to all_from all_in some_from access_ranges event_ranges ranges_of for_touched all_keys some_key all_marks threads_of first_bad
frees_fault = is_fault freed_and_read 17 refl 0 read_of_none _ _ NotLive refl refl refl refl refl refl refl refl refl

pub races_with_a_free_race : RunsTo reading_freed 14 (breach_end Race 0 0x30000000 (Some 1))
unfolding reply answer_to all_from all_in some_from access_ranges event_ranges ranges_of for_touched all_keys some_key all_marks threads_of first_bad
races_with_a_free_race = is_breach reading_freed 14 refl 0 _ _ _ Race 0x30000000 (Some 1) refl refl refl refl
