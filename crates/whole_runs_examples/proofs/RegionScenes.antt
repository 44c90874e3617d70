-- The runs in which calls hand down regions.
use Rattle.std.proofs.Common.{◌≡◌, true, false, [], ◌∷◌, length, Some, None, refl, sym, arith}
use Rattle.std.specs.Prelude.{codes}
use Rattle.std.proofs.lemmas.Bool.{true≢false}
use Rattle.marks.specs.declared.side.Side.TheVariants.{Replay}
use Rattle.marks.specs.declared.breach.BreachKind.TheVariants.{Pending, Size, KeyInUse, NoKey}
use Rattle.marks.specs.Marks.{Load}
use Rattle.marks.specs.Wants.{answer_to}
use Rattle.c_code.specs.MarkLists.{reply}
use Rattle.replay_runs.proofs.Tested.{all_from, first_bad}
use Rattle.replay_runs.proofs.Racing.{all_marks, threads_of}
use Rattle.replay_runs_examples.proofs.Bytes.{all_in, some_from, access_ranges, event_ranges, ranges_of, for_touched}
use Rattle.replay_runs_examples.proofs.Decide.{all_keys, some_key}
use Rattle.whole_runs.specs.declared.ending.Ending.TheVariants as ending
use Rattle.whole_runs.specs.declared.ending.Halt.TheVariants as halt
use Rattle.whole_runs.specs.Ends.{breach_end}
use Rattle.whole_runs.specs.Log.{log_of}
use Rattle.whole_runs_examples.specs.Play.{IsNoStep, RunsTo, byte_after, whole}
use Rattle.whole_runs_examples.specs.Regions.{caching, caching_twice, committing_below, hello_in_full, leaving, now_ret, preparing_below, preparing_none, preparing_twice, reading, received, receiving, receiving_hello, restoring, taking_none, too_long, too_much, withheld}
use Rattle.whole_runs_examples.proofs.Ending.{is_done, lacks_answer, is_breach}
use Rattle.whole_runs_examples.proofs.Refusing.{same_some}

pub receives_run : RunsTo receiving_hello 6 ending.Done
unfolding reply answer_to all_from all_in some_from access_ranges event_ranges ranges_of for_touched all_keys some_key all_marks threads_of first_bad
receives_run = is_done receiving_hello 6 refl refl

pub receives_too_large : RunsTo (receiving (received 9 [])) 3 (breach_end Size 0 0x10000000 None)
unfolding reply answer_to all_from all_in some_from access_ranges event_ranges ranges_of for_touched all_keys some_key all_marks threads_of first_bad
receives_too_large = is_breach (receiving (received 9 [])) 3 refl 0 _ _ _ Size 0x10000000 None refl refl refl refl

pub receives_none : RunsTo (receiving []) 3 (ending.Halted (halt.Script 16))
unfolding reply answer_to all_from all_in some_from access_ranges event_ranges ranges_of for_touched all_keys some_key all_marks threads_of first_bad
receives_none = lacks_answer (receiving []) 3 refl 0 _ _ _ 16 _ refl refl refl refl refl refl

pub receives_whole_region : IsNoStep receiving_hello 3 0 Replay hello_in_full
unfolding reply answer_to
receives_whole_region h = let e : 8 ≡ 5 = (h.0.made.mark.above refl).own.1.used.0.0 in absurd (omega (arith, e))

pub reads_short : RunsTo (reading 0x10000000 (received 3 (codes "A"))) 6 ending.Done
unfolding reply answer_to all_from all_in some_from access_ranges event_ranges ranges_of for_touched all_keys some_key all_marks threads_of first_bad
reads_short = is_done (reading 0x10000000 (received 3 (codes "A"))) 6 refl refl

pub reads_kept : byte_after (reading 0x10000000 (received 3 (codes "A"))) 4 0x10000001 ≡ Some 2
unfolding reply answer_to
reads_kept = refl

pub reads_nothing_null : RunsTo (reading 0 (received 9 [])) 6 ending.Done
unfolding reply answer_to all_from all_in some_from access_ranges event_ranges ranges_of for_touched all_keys some_key all_marks threads_of first_bad
reads_nothing_null = is_done (reading 0 (received 9 [])) 6 refl refl

pub reads_nothing_no_room : RunsTo (reading 0 (received 1 (codes "A"))) 3 (breach_end Size 0 0 None)
unfolding reply answer_to all_from all_in some_from access_ranges event_ranges ranges_of for_touched all_keys some_key all_marks threads_of first_bad
reads_nothing_no_room = is_breach (reading 0 (received 1 (codes "A"))) 3 refl 0 _ _ _ Size 0 None refl refl refl refl

pub names_the_first_first : RunsTo too_long 3 (breach_end Size 0 0x10000000 None)
unfolding reply answer_to all_from all_in some_from access_ranges event_ranges ranges_of for_touched all_keys some_key all_marks threads_of first_bad
names_the_first_first = is_breach too_long 3 refl 0 _ _ _ Size 0x10000000 None refl refl refl refl

pub names_the_first_second : RunsTo too_much 3 (breach_end Size 0 0x10000004 None)
unfolding reply answer_to all_from all_in some_from access_ranges event_ranges ranges_of for_touched all_keys some_key all_marks threads_of first_bad
names_the_first_second = is_breach too_much 3 refl 0 _ _ _ Size 0x10000004 None refl refl refl refl

pub restores_run : RunsTo restoring 15 ending.Done
unfolding reply answer_to all_from all_in some_from access_ranges event_ranges ranges_of for_touched all_keys some_key all_marks threads_of first_bad
restores_run = is_done restoring 15 refl refl

pub restores_poked : byte_after restoring 11 0x10000003 ≡ Some 9
unfolding reply answer_to
restores_poked = refl

pub restores_restored : byte_after restoring 12 0x10000003 ≡ Some 0
unfolding reply answer_to
restores_restored = refl

pub restores_unseen : IsNoStep restoring 12 0 Replay (Load (Some 0) 0x10000003 (9 ∷ []))
unfolding reply answer_to
restores_unseen h = absurd (omega (arith, same_some 0 9 (h.0.made.agrees 0x10000003 refl)))

pub leaves_no_change_changed : RunsTo leaving 11 (breach_end Size 0 0x10000000 None)
unfolding reply answer_to all_from all_in some_from access_ranges event_ranges ranges_of for_touched all_keys some_key all_marks threads_of first_bad
leaves_no_change_changed = is_breach leaving 11 refl 0 _ _ _ Size 0x10000000 None refl refl refl refl

pub commits_run : RunsTo withheld 10 ending.Done
unfolding reply answer_to all_from all_in some_from access_ranges event_ranges ranges_of for_touched all_keys some_key all_marks threads_of first_bad
commits_run = is_done withheld 10 refl refl

pub commits_unwritten : byte_after withheld 6 0x10000000 ≡ Some 0
unfolding reply answer_to
commits_unwritten = refl

pub commits_committed : byte_after withheld 8 0x10000001 ≡ Some 0x44
unfolding reply answer_to
commits_committed = refl

pub commits_no_key : RunsTo taking_none 3 (breach_end NoKey 0 9 None)
unfolding reply answer_to all_from all_in some_from access_ranges event_ranges ranges_of for_touched all_keys some_key all_marks threads_of first_bad
commits_no_key = is_breach taking_none 3 refl 0 _ _ _ NoKey 9 None refl refl refl refl

pub prepares_key : RunsTo (preparing_twice 0x10000004) 4 (breach_end KeyInUse 0 9 None)
unfolding reply answer_to all_from all_in some_from access_ranges event_ranges ranges_of for_touched all_keys some_key all_marks threads_of first_bad
prepares_key = is_breach (preparing_twice 0x10000004) 4 refl 0 _ _ _ KeyInUse 9 None refl refl refl refl

pub prepares_empty : RunsTo preparing_none 4 (breach_end KeyInUse 0 9 None)
unfolding reply answer_to all_from all_in some_from access_ranges event_ranges ranges_of for_touched all_keys some_key all_marks threads_of first_bad
prepares_empty = is_breach preparing_none 4 refl 0 _ _ _ KeyInUse 9 None refl refl refl refl

pub prepares_bytes : RunsTo (preparing_twice 0x10000002) 4 (breach_end Pending 0 0x10000002 None)
unfolding reply answer_to all_from all_in some_from access_ranges event_ranges ranges_of for_touched all_keys some_key all_marks threads_of first_bad
prepares_bytes = is_breach (preparing_twice 0x10000002) 4 refl 0 _ _ _ Pending 0x10000002 None refl refl refl refl

pub prepares_below_run : RunsTo preparing_below 11 ending.Done
unfolding reply answer_to all_from all_in some_from access_ranges event_ranges ranges_of for_touched all_keys some_key all_marks threads_of first_bad
prepares_below_run = is_done preparing_below 11 refl refl

pub prepares_below_first : byte_after preparing_below 7 0x50000000 ≡ Some 0
unfolding reply answer_to
prepares_below_first = refl

pub prepares_below_last : byte_after preparing_below 7 0x50000004 ≡ Some 7
unfolding reply answer_to
prepares_below_last = refl

pub commits_below_run : RunsTo (committing_below 3) 13 ending.Done
unfolding reply answer_to all_from all_in some_from access_ranges event_ranges ranges_of for_touched all_keys some_key all_marks threads_of first_bad
commits_below_run = is_done (committing_below 3) 13 refl refl

pub commits_below_changed : RunsTo (committing_below 2) 10 (breach_end Size 0 0x10000000 None)
unfolding reply answer_to all_from all_in some_from access_ranges event_ranges ranges_of for_touched all_keys some_key all_marks threads_of first_bad
commits_below_changed = is_breach (committing_below 2) 10 refl 0 _ _ _ Size 0x10000000 None refl refl refl refl

pub repeats_run : RunsTo (caching 7 7) 8 ending.Done
unfolding reply answer_to all_from all_in some_from access_ranges event_ranges ranges_of for_touched all_keys some_key all_marks threads_of first_bad
repeats_run = is_done (caching 7 7) 8 refl refl

pub repeats_bytes : length (log_of (caching 7 7) (whole (caching 7 7) 8)) ≡ 129
unfolding reply answer_to
repeats_bytes = refl

pub repeats_in_full : IsNoStep (caching 7 7) 5 0 Replay (now_ret (caching 7 7) 5 0 7 false)
unfolding reply answer_to
repeats_in_full h = true≢false (sym (h.0.made.mark.above refl).own.1.repeats)

pub repeats_differs : IsNoStep (caching 7 8) 5 0 Replay (now_ret (caching 7 8) 5 0 8 true)
unfolding reply answer_to
repeats_differs h = true≢false (h.0.made.mark.above refl).own.1.repeats

pub repeats_its_own_run : RunsTo caching_twice 16 ending.Done
unfolding reply answer_to all_from all_in some_from access_ranges event_ranges ranges_of for_touched all_keys some_key all_marks threads_of first_bad
repeats_its_own_run = is_done caching_twice 16 refl refl

pub repeats_its_own_other : IsNoStep caching_twice 9 1 Replay (now_ret caching_twice 9 1 7 true)
unfolding reply answer_to
repeats_its_own_other h = true≢false (h.0.made.mark.above refl).own.1.repeats

pub repeats_its_own_again : IsNoStep caching_twice 11 0 Replay (now_ret caching_twice 11 0 7 false)
unfolding reply answer_to
repeats_its_own_again h = true≢false (sym (h.0.made.mark.above refl).own.1.repeats)
