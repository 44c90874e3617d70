-- The marks, computed.
use Rattle.std.proofs.Common.{◌≡◌, false, [], ◌∷◌, ◌++◌, Some, refl}
use Rattle.marks.specs.declared.fault.FaultKind.TheVariants.{BadCall, Divide}
use Rattle.marks.specs.declared.side.Side.TheVariants.{Replay, System}
use Rattle.marks.specs.Marks.{Alloc, Fault, Free, Nowhere, Up, UpRet}
use Rattle.marks.specs.Places.{function_address}
use Rattle.marks.specs.Wants.{Loads, answer_to}
use Rattle.c_code.specs.MarkLists.{Above, Ended, Expects, Open, Split, Wrong, replay_part, reply}
use Rattle.c_semantics.specs.Calls.{behaviour, thread_behaviour}
use Rattle.c_semantics_examples.specs.Programs.{applied, applying, asking, below, call, called_back, compound, crossed, crossing, dividing, doubles_below, enter, enter_below, event, fault, freeing, jumped, leave, leave_below, load, loop, pointing, polling, reads, ret, step, store, sum, thread_type, turn, turned, working, works}

pub two_and_three : behaviour Split sum Replay 16 [] (enter 16 ∷ load 0 0x10000000 2 ∷ load 1 0x10000004 3 ∷ leave ∷ []) ≡ Ended 5
unfolding reply answer_to
two_and_three = refl

pub others : behaviour Split sum Replay 16 [] (enter 16 ∷ load 0 0x10000000 7 ∷ load 1 0x10000004 1 ∷ leave ∷ []) ≡ Ended 8
unfolding reply answer_to
others = refl

pub cut_short : behaviour Split sum Replay 16 [] (enter 16 ∷ load 0 0x10000000 2 ∷ []) ≡ Expects Replay (Loads (Some 1) 0x10000004 4)
unfolding reply answer_to
cut_short = refl

pub in_order : behaviour Split sum Replay 16 [] (enter 16 ∷ load 1 0x10000004 3 ∷ []) ≡ Wrong
unfolding reply answer_to
in_order = refl

pub compounds : behaviour Split compound Replay 16 [] (enter 16 ∷ load 0 0x10000000 0 ∷ load 0 0x10000000 0 ∷ store 0 0x10000000 1 ∷ store 0 0x10000000 0 ∷ load 0 0x10000000 0 ∷ leave ∷ []) ≡ Ended 0
unfolding reply answer_to
compounds = refl

pub loops : behaviour Split loop Replay 16 [] (enter 16 ∷ store 0 0x10000000 0 ∷ turn ∷ load 0 0x10000000 0 ∷ load 0 0x10000000 0 ∷ store 0 0x10000000 1 ∷ turn ∷ load 0 0x10000000 1 ∷ leave ∷ []) ≡ Ended 7
unfolding reply answer_to
loops = refl

pub split : behaviour Split asking Replay 17 [] (enter 17 ∷ call 16 ∷ ret 16 9 ∷ leave ∷ []) ≡ Ended 9
unfolding reply answer_to
split = refl

pub above : behaviour Above asking Replay 17 [] (enter 17 ∷ call 16 ∷ ret 16 9 ∷ leave ∷ []) ≡ Ended 9
unfolding reply answer_to
above = refl

pub too_large : behaviour Split asking Replay 17 [] (enter 17 ∷ call 16 ∷ ret 16 2147483648 ∷ []) ≡ Wrong
unfolding reply answer_to
too_large = refl

pub crosses : behaviour Split crossing Replay 17 [] (crossed (4 ∷ []) 5) ≡ Ended 5
unfolding reply answer_to
crosses = refl

pub other_arguments : behaviour Split crossing Replay 17 [] (crossed (3 ∷ []) 5) ≡ Wrong
unfolding reply answer_to
other_arguments = refl

pub seen_above : behaviour Above crossing Replay 17 [] (replay_part (crossed (4 ∷ []) 5)) ≡ Ended 5
unfolding reply answer_to
seen_above = refl

pub before_its_array : behaviour Split turned Replay 16 [] (enter 16 ∷ store 0 0x10000000 1 ∷ leave ∷ []) ≡ Ended 0
unfolding reply answer_to
before_its_array = refl

pub system_runs : behaviour Split polling System 17 [] (enter_below 17 ∷ (reads 5 ++ leave_below ∷ [])) ≡ Ended 5
unfolding reply answer_to
system_runs = refl

pub system_no_event : behaviour Split polling System 17 [] (enter_below 17 ∷ call 16 ∷ (reads 5 ++ ret 16 5 ∷ leave_below ∷ [])) ≡ Wrong
unfolding reply answer_to
system_no_event = refl

pub system_not_above : behaviour Split polling System 17 [] (enter 17 ∷ []) ≡ Wrong
unfolding reply answer_to
system_not_above = refl

pub back_above : behaviour Split applying Replay 18 [] (applied (called_back 3 6)) ≡ Ended 6
unfolding reply answer_to
back_above = refl

pub back_below : behaviour Split applying Replay 18 [] (applied (doubles_below 3)) ≡ Ended 6
unfolding reply answer_to
back_below = refl

pub back_other_arguments : behaviour Split applying Replay 18 [] (applied (called_back 4 6)) ≡ Wrong
unfolding reply answer_to
back_other_arguments = refl

pub back_other_result : behaviour Split applying Replay 18 [] (applied (called_back 3 7)) ≡ Wrong
unfolding reply answer_to
back_other_result = refl

pub bad_no_function : behaviour Split pointing Replay 17 [] (jumped 7 (fault BadCall ∷ [])) ≡ Open
unfolding reply answer_to
bad_no_function = refl

pub bad_other_type : behaviour Split pointing Replay 17 [] (jumped (function_address 16) (fault BadCall ∷ [])) ≡ Open
unfolding reply answer_to
bad_other_type = refl

pub bad_of_its_type : behaviour Split pointing Replay 17 [] (jumped (function_address 17) (fault BadCall ∷ [])) ≡ Wrong
unfolding reply answer_to
bad_of_its_type = refl

pub bad_goes_on : behaviour Split pointing Replay 17 [] (jumped 7 (fault BadCall ∷ leave ∷ [])) ≡ Wrong
unfolding reply answer_to
bad_goes_on = refl

pub divisor_zero : behaviour Split dividing Replay 16 [] (enter 16 ∷ load 0 0x10000000 0 ∷ fault Divide ∷ []) ≡ Open
unfolding reply answer_to
divisor_zero = refl

pub divisor_two : behaviour Split dividing Replay 16 [] (enter 16 ∷ load 0 0x10000000 2 ∷ leave ∷ []) ≡ Ended 3
unfolding reply answer_to
divisor_two = refl

pub divisor_no_fault : behaviour Split dividing Replay 16 [] (enter 16 ∷ load 0 0x10000000 0 ∷ leave ∷ []) ≡ Wrong
unfolding reply answer_to
divisor_no_fault = refl

pub divisor_needless : behaviour Split dividing Replay 16 [] (enter 16 ∷ load 0 0x10000000 2 ∷ fault Divide ∷ []) ≡ Wrong
unfolding reply answer_to
divisor_needless = refl

pub step_external : behaviour Split asking System 17 [] (enter_below 17 ∷ step 16 [] 9 ∷ leave_below ∷ []) ≡ Ended 9
unfolding reply answer_to
step_external = refl

pub step_too_large : behaviour Split asking System 17 [] (enter_below 17 ∷ step 16 [] 2147483648 ∷ leave_below ∷ []) ≡ Wrong
unfolding reply answer_to
step_too_large = refl

pub step_no_event : behaviour Split asking System 17 [] (enter_below 17 ∷ call 16 ∷ ret 16 9 ∷ leave_below ∷ []) ≡ Wrong
unfolding reply answer_to
step_no_event = refl

pub step_builtins : behaviour Split freeing System 16 [] (enter_below 16 ∷ step 0 (4 ∷ []) 0x70000000 ∷ step 1 (0x70000000 ∷ []) 0 ∷ leave_below ∷ []) ≡ Ended 1
unfolding reply answer_to
step_builtins = refl

pub step_no_pool : behaviour Split freeing System 16 [] (enter_below 16 ∷ event (Alloc 0x70000000 4) ∷ []) ≡ Wrong
unfolding reply answer_to
step_no_pool = refl

pub step_pool_above : behaviour Split freeing Replay 16 [] (enter 16 ∷ event (Alloc 0x30000000 4) ∷ event (Free 0x30000000 4) ∷ leave ∷ []) ≡ Ended 1
unfolding reply answer_to
step_pool_above = refl

pub thread_above : thread_behaviour working thread_type (function_address 16) (0 ∷ []) (event (Up 16 (0 ∷ [])) ∷ (works ++ event (UpRet 16 5) ∷ [])) ≡ Ended 5
unfolding reply answer_to
thread_above = refl

pub thread_no_up : thread_behaviour working thread_type (function_address 16) (0 ∷ []) works ≡ Wrong
unfolding reply answer_to
thread_no_up = refl

pub thread_other_type : thread_behaviour working thread_type (function_address 17) (0 ∷ []) (below (Fault BadCall false [] [] Nowhere) ∷ []) ≡ Open
unfolding reply answer_to
thread_other_type = refl

pub thread_no_function : thread_behaviour working thread_type (function_address 17) (0 ∷ []) (event (Up 17 (0 ∷ [])) ∷ []) ≡ Wrong
unfolding reply answer_to
thread_no_function = refl
