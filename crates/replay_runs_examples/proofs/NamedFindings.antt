-- The findings, by computation.
use Rattle.std.proofs.Common.{◌≡◌, ℕ, true, false, [], ◌∷◌, Some, None, refl}
use Rattle.marks.specs.declared.breach.BreachKind.TheVariants.{KeyInUse, Mode, NoKey, OtherSpace, Pending, Size}
use Rattle.marks.specs.declared.fault.FaultKind.TheVariants.{NotLive, ReadOnly, StackFull}
use Rattle.marks.specs.Ranges.{range}
use Rattle.marks.specs.Marks.{Enter, Load, Store}
use Rattle.marks.specs.Wants.{Calls, Enters, Loads, Stores, answer_to}
use Rattle.replay_runs.specs.Interface.{Program}
use Rattle.replay_runs.specs.Checks.{Finding, BreachFound, FaultFound, Answered, Finds, checks, replayed}
use Rattle.replay_runs.specs.Laws.{IsReplayRun}
use Rattle.replay_runs.proofs.Tested.{all_from, first_bad}
use Rattle.replay_runs.proofs.Racing.{all_marks, threads_of}
use Rattle.replay_runs.proofs.Deciding.{checks_tested, return_tested}
use Rattle.replay_runs_examples.specs.Programs.{Steps, here, main, mark, now, read_later, spawn, to_worker, worker, zeros}
use Rattle.replay_runs_examples.specs.Findings.{Example, Return, Allows, Gives, Goes, Meets, Returned, awaiting, called, changed, deep, filled, first, later, moved, moves, past, prepares, reading, recursing, scripted, unprepared}
use Rattle.replay_runs_examples.proofs.Bytes.{all_in, some_from, access_ranges, event_ranges, ranges_of, for_touched}
use Rattle.replay_runs_examples.proofs.Decide.{all_keys, some_key, all_past, is_run, is_race_free, is_disciplined, disciplined}

abbrev program_of : Example → Program
program_of x = x.program

found_at : (x : Example) (f : Finding) → (checks_tested here (past x) 0 x.program.interface x.want).found ≡ Some f → Meets x f
found_at x f e = (checks_tested here (past x) 0 x.program.interface x.want).finds f e

gives_at : (r : Return) (below : Answered) (v : ℕ) (f : Finding) → (return_tested below here (called r) r.program.interface r.func r.args v).found ≡ Some f → Gives r below v f
gives_at r below v f e = (return_tested below here (called r) r.program.interface r.func r.args v).finds f e

allows_at : (r : Return) (below : Answered) (v : ℕ) → (return_tested below here (called r) r.program.interface r.func r.args v).test ≡ true → Allows r below v
allows_at r below v e = (return_tested below here (called r) r.program.interface r.func r.args v).passes e

pub memory_of_the_system-found : Meets (first (Loads None 0x4ffffffc 8)) (BreachFound OtherSpace 0x50000000 None)
unfolding all_from first_bad all_marks threads_of
memory_of_the_system-found = found_at (first (Loads None 0x4ffffffc 8)) (BreachFound OtherSpace 0x50000000 None) refl

pub memory_of_the_system-beside : Meets (first (Loads None 0x4ffffffc 4)) (FaultFound NotLive)
unfolding all_from first_bad all_marks threads_of
memory_of_the_system-beside = found_at (first (Loads None 0x4ffffffc 4)) (FaultFound NotLive) refl

pub a_byte_that_is_not_there-found : Meets (first (Loads None 0x1000000d 4)) (FaultFound NotLive)
unfolding all_from first_bad all_marks threads_of
a_byte_that_is_not_there-found = found_at (first (Loads None 0x1000000d 4)) (FaultFound NotLive) refl

pub a_byte_that_is_not_there-kept : Goes (first (Loads None 0x1000000c 4)) (Steps 0 (Load None 0x1000000c (zeros 4)))
unfolding answer_to all_from all_in some_from access_ranges event_ranges ranges_of for_touched all_keys some_key all_past is_run is_race_free is_disciplined
a_byte_that_is_not_there-kept = disciplined (program_of (first (Loads None 0x1000000c 4))) here (mark (program_of (first (Loads None 0x1000000c 4))) here (past (first (Loads None 0x1000000c 4))) (Steps 0 (Load None 0x1000000c (zeros 4))) ∷ past (first (Loads None 0x1000000c 4))) refl

pub a_constant-found : Meets (first (Stores None 0x10000c (zeros 4))) (FaultFound ReadOnly)
unfolding all_from first_bad all_marks threads_of
a_constant-found = found_at (first (Stores None 0x10000c (zeros 4))) (FaultFound ReadOnly) refl

pub a_constant-read : Goes (first (Loads None 0x10000c 4)) (Steps 0 (Load None 0x10000c (zeros 4)))
unfolding answer_to all_from all_in some_from access_ranges event_ranges ranges_of for_touched all_keys some_key all_past is_run is_race_free is_disciplined
a_constant-read = disciplined (program_of (first (Loads None 0x10000c 4))) here (mark (program_of (first (Loads None 0x10000c 4))) here (past (first (Loads None 0x10000c 4))) (Steps 0 (Load None 0x10000c (zeros 4))) ∷ past (first (Loads None 0x10000c 4))) refl

pub a_constant-kept : Goes (first (Stores None 0x1000000c (zeros 4))) (Steps 0 (Store None 0x1000000c (zeros 4)))
unfolding answer_to all_from all_in some_from access_ranges event_ranges ranges_of for_touched all_keys some_key all_past is_run is_race_free is_disciplined
a_constant-kept = disciplined (program_of (first (Stores None 0x1000000c (zeros 4)))) here (mark (program_of (first (Stores None 0x1000000c (zeros 4)))) here (past (first (Stores None 0x1000000c (zeros 4)))) (Steps 0 (Store None 0x1000000c (zeros 4))) ∷ past (first (Stores None 0x1000000c (zeros 4)))) refl

pub a_function_in_the_wrong_mode-entered : Meets (first (Enters true now [] (zeros 16))) (BreachFound Mode 0x1150 None)
unfolding all_from first_bad all_marks threads_of
a_function_in_the_wrong_mode-entered = found_at (first (Enters true now [] (zeros 16))) (BreachFound Mode 0x1150 None) refl

pub a_function_in_the_wrong_mode-registered : Meets (first (Calls false spawn (0x1150 ∷ 0 ∷ []))) (BreachFound Mode 0x1150 None)
unfolding all_from first_bad all_marks threads_of
a_function_in_the_wrong_mode-registered = found_at (first (Calls false spawn (0x1150 ∷ 0 ∷ []))) (BreachFound Mode 0x1150 None) refl

pub a_function_in_the_wrong_mode-called : Meets (first (Calls true worker [])) (BreachFound Mode to_worker None)
unfolding all_from first_bad all_marks threads_of
a_function_in_the_wrong_mode-called = found_at (first (Calls true worker [])) (BreachFound Mode to_worker None) refl

pub a_function_in_the_wrong_mode-kept : Goes (first (Enters true worker (0 ∷ []) (zeros 16))) (Steps 0 (Enter worker (0 ∷ []) 0x20000010 (zeros 16)))
unfolding answer_to all_from all_in some_from access_ranges event_ranges ranges_of for_touched all_keys some_key all_past is_run is_race_free is_disciplined
a_function_in_the_wrong_mode-kept = disciplined (program_of (first (Enters true worker (0 ∷ []) (zeros 16)))) here (mark (program_of (first (Enters true worker (0 ∷ []) (zeros 16)))) here (past (first (Enters true worker (0 ∷ []) (zeros 16)))) (Steps 0 (Enter worker (0 ∷ []) 0x20000010 (zeros 16))) ∷ past (first (Enters true worker (0 ∷ []) (zeros 16)))) refl

pub two_bad_ranges-first : Meets (first (moves 0x10000010 0x50000000)) (FaultFound NotLive)
unfolding all_from first_bad all_marks threads_of
two_bad_ranges-first = found_at (first (moves 0x10000010 0x50000000)) (FaultFound NotLive) refl

pub two_bad_ranges-second : Meets (first (moves 0x10000000 0x50000000)) (BreachFound OtherSpace 0x50000000 None)
unfolding all_from first_bad all_marks threads_of
two_bad_ranges-second = found_at (first (moves 0x10000000 0x50000000)) (BreachFound OtherSpace 0x50000000 None) refl

pub two_bad_ranges-written : Meets (first (moves 0x10000000 0x100000)) (FaultFound ReadOnly)
unfolding all_from first_bad all_marks threads_of
two_bad_ranges-written = found_at (first (moves 0x10000000 0x100000)) (FaultFound ReadOnly) refl

pub two_bad_ranges-kept : Goes (first (moves 0x10000000 0x10000008)) moved
unfolding answer_to all_from all_in some_from access_ranges event_ranges ranges_of for_touched all_keys some_key all_past is_run is_race_free is_disciplined
two_bad_ranges-kept = disciplined (program_of (first (moves 0x10000000 0x10000008))) here (mark (program_of (first (moves 0x10000000 0x10000008))) here (past (first (moves 0x10000000 0x10000008))) moved ∷ past (first (moves 0x10000000 0x10000008))) refl

pub a_key_that_is_in_use-found : Meets (later (Calls false read_later (0x10000004 ∷ 4 ∷ 9 ∷ []))) (BreachFound KeyInUse 9 None)
unfolding all_from first_bad all_marks threads_of
a_key_that_is_in_use-found = found_at (later (Calls false read_later (0x10000004 ∷ 4 ∷ 9 ∷ []))) (BreachFound KeyInUse 9 None) refl

pub a_key_that_is_in_use-kept : Goes (later (Calls false read_later (0x10000004 ∷ 4 ∷ 10 ∷ []))) (prepares (0x10000004 ∷ 4 ∷ 10 ∷ []) 10 (range 0x10000004 4))
unfolding answer_to all_from all_in some_from access_ranges event_ranges ranges_of for_touched all_keys some_key all_past is_run is_race_free is_disciplined
a_key_that_is_in_use-kept = disciplined (program_of (later (Calls false read_later (0x10000004 ∷ 4 ∷ 10 ∷ [])))) here (mark (program_of (later (Calls false read_later (0x10000004 ∷ 4 ∷ 10 ∷ [])))) here (past (later (Calls false read_later (0x10000004 ∷ 4 ∷ 10 ∷ [])))) (prepares (0x10000004 ∷ 4 ∷ 10 ∷ []) 10 (range 0x10000004 4)) ∷ past (later (Calls false read_later (0x10000004 ∷ 4 ∷ 10 ∷ [])))) refl

pub a_byte_that_waits-found : Meets (later (Loads None 0x10000002 4)) (BreachFound Pending 0x10000002 None)
unfolding all_from first_bad all_marks threads_of
a_byte_that_waits-found = found_at (later (Loads None 0x10000002 4)) (BreachFound Pending 0x10000002 None) refl

pub a_byte_that_waits-kept : Goes (later (Loads None 0x10000004 4)) (Steps 0 (Load None 0x10000004 (zeros 4)))
unfolding answer_to all_from all_in some_from access_ranges event_ranges ranges_of for_touched all_keys some_key all_past is_run is_race_free is_disciplined
a_byte_that_waits-kept = disciplined (program_of (later (Loads None 0x10000004 4))) here (mark (program_of (later (Loads None 0x10000004 4))) here (past (later (Loads None 0x10000004 4))) (Steps 0 (Load None 0x10000004 (zeros 4))) ∷ past (later (Loads None 0x10000004 4))) refl

pub a_key_that_is_not_in_use-found : Gives unprepared replayed 2 (BreachFound NoKey 9 None)
unfolding all_from first_bad all_marks threads_of
a_key_that_is_not_in_use-found = gives_at unprepared replayed 2 (BreachFound NoKey 9 None) refl

pub a_key_that_is_not_in_use-kept : Allows awaiting replayed 4
unfolding all_from first_bad all_marks threads_of
a_key_that_is_not_in_use-kept = allows_at awaiting replayed 4 refl

pub a_region_of_the_wrong_size-piece : Gives reading (scripted 5) 4 (BreachFound Size 0x10000000 None)
unfolding all_from first_bad all_marks threads_of
a_region_of_the_wrong_size-piece = gives_at reading (scripted 5) 4 (BreachFound Size 0x10000000 None) refl

pub a_region_of_the_wrong_size-used : Gives reading replayed 5 (BreachFound Size 0x10000000 None)
unfolding all_from first_bad all_marks threads_of
a_region_of_the_wrong_size-used = gives_at reading replayed 5 (BreachFound Size 0x10000000 None) refl

pub a_region_of_the_wrong_size-past : Gives reading (changed 0x10000003) 3 (BreachFound Size 0x10000000 None)
unfolding all_from first_bad all_marks threads_of
a_region_of_the_wrong_size-past = gives_at reading (changed 0x10000003) 3 (BreachFound Size 0x10000000 None) refl

pub a_region_of_the_wrong_size-committed : Gives awaiting replayed 5 (BreachFound Size 0x10000000 None)
unfolding all_from first_bad all_marks threads_of
a_region_of_the_wrong_size-committed = gives_at awaiting replayed 5 (BreachFound Size 0x10000000 None) refl

pub a_region_of_the_wrong_size-whole : Allows reading (scripted 4) 4
unfolding all_from first_bad all_marks threads_of
a_region_of_the_wrong_size-whole = allows_at reading (scripted 4) 4 refl

pub a_region_of_the_wrong_size-unchanged : Allows reading (changed 0x10000003) 4
unfolding all_from first_bad all_marks threads_of
a_region_of_the_wrong_size-unchanged = allows_at reading (changed 0x10000003) 4 refl

pub a_region_of_the_wrong_size-kept : Returned reading (filled (1 ∷ 2 ∷ 3 ∷ 4 ∷ []))
unfolding answer_to all_from all_in some_from access_ranges event_ranges ranges_of for_touched all_keys some_key all_past is_run is_race_free is_disciplined
a_region_of_the_wrong_size-kept = disciplined reading.program here (mark reading.program here (called reading) (filled (1 ∷ 2 ∷ 3 ∷ 4 ∷ [])) ∷ called reading) refl

pub a_stack_that_is_full-found : Finds (checks recursing.interface (deep 256) [] 0 (Enters false main [] (zeros 16))) (FaultFound StackFull)
unfolding all_from first_bad all_marks threads_of
a_stack_that_is_full-found = (checks_tested (deep 256) [] 0 recursing.interface (Enters false main [] (zeros 16))).finds (FaultFound StackFull) refl

pub a_stack_that_is_full-kept : IsReplayRun recursing (deep 255) (mark recursing (deep 255) [] (Steps 0 (Enter main [] 0x20000ff0 (zeros 16))) ∷ [])
unfolding answer_to all_from all_in some_from access_ranges event_ranges ranges_of for_touched all_keys some_key all_past is_run is_race_free is_disciplined
a_stack_that_is_full-kept = disciplined recursing (deep 255) (mark recursing (deep 255) [] (Steps 0 (Enter main [] 0x20000ff0 (zeros 16))) ∷ []) refl
