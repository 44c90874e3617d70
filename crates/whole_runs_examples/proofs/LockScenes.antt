-- The runs of several threads.
use Rattle.std.proofs.Common.{◌≡◌, [], ◌∷◌, length, Some, refl}
use Rattle.run_events.specs.declared.key.Class.TheVariants.{Pool}
use Rattle.marks.specs.declared.side.Side.TheVariants.{Replay}
use Rattle.marks.specs.declared.breach.BreachKind.TheVariants.{Race}
use Rattle.marks.specs.Marks.{Alloc}
use Rattle.marks.specs.Wants.{answer_to}
use Rattle.c_code.specs.MarkLists.{reply}
use Rattle.replay_runs.specs.Runs.{OfKey}
use Rattle.replay_runs.specs.Keys.{key}
use Rattle.replay_runs.specs.Pool.{blocks}
use Rattle.replay_runs.proofs.Tested.{all_from, first_bad}
use Rattle.replay_runs.proofs.Racing.{all_marks, threads_of}
use Rattle.replay_runs_examples.proofs.Bytes.{all_in, some_from, access_ranges, event_ranges, ranges_of, for_touched}
use Rattle.replay_runs_examples.proofs.Decide.{all_keys, some_key}
use Rattle.whole_runs.specs.declared.ending.Ending.TheVariants as ending
use Rattle.whole_runs.specs.declared.ending.Halt.TheVariants as halt
use Rattle.whole_runs.specs.World.{begin}
use Rattle.whole_runs.specs.Sides.{seen}
use Rattle.whole_runs.specs.Ends.{breach_end}
use Rattle.whole_runs.specs.Log.{log_of}
use Rattle.whole_runs_examples.specs.Play.{IsNoStep, RunsTo, chunk_sizes, clocks, event_at, play, whole}
use Rattle.whole_runs_examples.specs.Locks.{adding, chunking, crowded, neighbours, pooling, racing, reading_first, waiting}
use Rattle.whole_runs_examples.proofs.Ending.{is_done, used_up, is_blocked, is_breach}
use Rattle.whole_runs_examples.proofs.Refusing.{not_first}

pub adds_run : RunsTo (adding 36) 36 ending.Done
unfolding reply answer_to all_from all_in some_from access_ranges event_ranges ranges_of for_touched all_keys some_key all_marks threads_of first_bad
adds_run = is_done (adding 36) 36 refl refl

pub adds_first : clocks 0 (whole (adding 36) 36) ≡ 1 ∷ 2 ∷ 3 ∷ 4 ∷ 5 ∷ 6 ∷ 9 ∷ 10 ∷ 11 ∷ 12 ∷ []
unfolding reply answer_to
adds_first = refl

pub adds_second : clocks 1 (whole (adding 36) 36) ≡ 3 ∷ 4 ∷ 5 ∷ 6 ∷ 7 ∷ 8 ∷ []
unfolding reply answer_to
adds_second = refl

pub adds_third : clocks 2 (whole (adding 36) 36) ≡ 5 ∷ 6 ∷ 7 ∷ 8 ∷ 9 ∷ 10 ∷ []
unfolding reply answer_to
adds_third = refl

pub adds_bytes : length (log_of (adding 36) (whole (adding 36) 36)) ≡ 658
unfolding reply answer_to
adds_bytes = refl

pub is_cut_short_cut : RunsTo (adding 35) 35 (ending.Halted halt.Budget)
unfolding reply answer_to all_from all_in some_from access_ranges event_ranges ranges_of for_touched all_keys some_key all_marks threads_of first_bad
is_cut_short_cut = used_up (adding 35) 35 refl refl refl

pub races_run : RunsTo racing 17 (breach_end Race 2 0x10000000 (Some 1))
unfolding reply answer_to all_from all_in some_from access_ranges event_ranges ranges_of for_touched all_keys some_key all_marks threads_of first_bad
races_run = is_breach racing 17 refl 2 _ _ _ Race 0x10000000 (Some 1) refl refl refl refl

pub races_first : clocks 0 (whole racing 17) ≡ 1 ∷ 2 ∷ 3 ∷ 4 ∷ 5 ∷ 6 ∷ []
unfolding reply answer_to
races_first = refl

pub races_second : clocks 1 (whole racing 17) ≡ 3 ∷ 4 ∷ []
unfolding reply answer_to
races_second = refl

pub races_third : clocks 2 (whole racing 17) ≡ 5 ∷ 6 ∷ []
unfolding reply answer_to
races_third = refl

pub names_the_least_run : RunsTo crowded 28 (breach_end Race 3 0x10000000 (Some 1))
unfolding reply answer_to all_from all_in some_from access_ranges event_ranges ranges_of for_touched all_keys some_key all_marks threads_of first_bad
names_the_least_run = is_breach crowded 28 refl 3 _ _ _ Race 0x10000000 (Some 1) refl refl refl refl

pub races_with_reads_run : RunsTo reading_first 16 (breach_end Race 2 0x10000000 (Some 1))
unfolding reply answer_to all_from all_in some_from access_ranges event_ranges ranges_of for_touched all_keys some_key all_marks threads_of first_bad
races_with_reads_run = is_breach reading_first 16 refl 2 _ _ _ Race 0x10000000 (Some 1) refl refl refl refl

pub keeps_bytes_apart_run : RunsTo neighbours 12 ending.Done
unfolding reply answer_to all_from all_in some_from access_ranges event_ranges ranges_of for_touched all_keys some_key all_marks threads_of first_bad
keeps_bytes_apart_run = is_done neighbours 12 refl refl

pub waits_run : RunsTo waiting 5 (ending.Halted halt.Blocked)
unfolding reply answer_to all_from all_in some_from access_ranges event_ranges ranges_of for_touched all_keys some_key all_marks threads_of first_bad
waits_run = is_blocked waiting 5 refl refl refl

pub waits_none : clocks 0 (whole waiting 5) ≡ 1 ∷ 2 ∷ 3 ∷ 4 ∷ []
unfolding reply answer_to
waits_none = refl

pub shares_the_pool_run : RunsTo pooling 18 ending.Done
unfolding reply answer_to all_from all_in some_from access_ranges event_ranges ranges_of for_touched all_keys some_key all_marks threads_of first_bad
shares_the_pool_run = is_done pooling 18 refl refl

pub shares_the_pool_clocks : clocks 0 (whole pooling 18) ≡ 1 ∷ 2 ∷ 3 ∷ 6 ∷ 7 ∷ 8 ∷ []
unfolding reply answer_to
shares_the_pool_clocks = refl

pub shares_the_pool_refused : IsNoStep pooling 12 0 Replay (event_at pooling 12 0 (Alloc 0x30000010 16))
unfolding reply answer_to
shares_the_pool_refused h = not_first (blocks (begin pooling) (seen (play pooling 12))) 16 0x30000010 refl refl refl ((h.0.made.mark.above refl).shared (OfKey (key Pool 0)) refl)

pub puts_out_chunks_run : RunsTo chunking 6 (ending.Halted halt.Budget)
unfolding reply answer_to all_from all_in some_from access_ranges event_ranges ranges_of for_touched all_keys some_key all_marks threads_of first_bad
puts_out_chunks_run = used_up chunking 6 refl refl refl

pub puts_out_chunks_chunks : chunk_sizes chunking (whole chunking 6) ≡ (0, 2) ∷ (0, 2) ∷ (1, 2) ∷ (0, 1) ∷ []
unfolding reply answer_to
puts_out_chunks_chunks = refl
