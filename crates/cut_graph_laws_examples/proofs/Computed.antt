-- The marks, computed.
use Rattle.std.proofs.Common.{◌≡◌, true, false, [], ◌∷◌, Some, refl}
use Rattle.marks.specs.declared.side.Side.TheVariants.{Replay, System}
use Rattle.marks.specs.Places.{function_address}
use Rattle.marks.specs.Wants.{Below, Enters, Loads, answer_to}
use Rattle.c_code.specs.MarkLists.{Expects, replay_part, reply}
use Rattle.c_semantics.specs.Context.{frame_of}
use Rattle.c_semantics.specs.Calls.{thread_above}
use Rattle.cut_graph_laws_examples.specs.Scene.{scene}
use Rattle.cut_graph_laws_examples.specs.Runs.{broken, thread, whole}
use Rattle.cut_graph_laws_examples.specs.Listed.{on, reaches_of}

pub goes_on : thread whole ≡ Expects System (Enters false 19 (function_address 17 ∷ []) (frame_of scene 19 (function_address 17 ∷ [])))
unfolding reply answer_to
goes_on = refl

pub all_reaches : reaches_of true thread whole ≡ on Replay 20 ∷ on Replay 20 ∷ on Replay 17 ∷ on Replay 17 ∷ on System 19 ∷ on System 19 ∷ on System 16 ∷ on System 18 ∷ on System 18 ∷ on Replay 17 ∷ on Replay 17 ∷ on System 19 ∷ []
unfolding reply answer_to
all_reaches = refl

pub by_pointers : reaches_of false thread whole ≡ on Replay 20 ∷ on Replay 17 ∷ on System 18 ∷ on Replay 17 ∷ on System 19 ∷ []
unfolding reply answer_to
by_pointers = refl

pub goes_wrong : thread broken ≡ Expects Replay (Loads (Some 1) 0x50000000 4)
unfolding reply answer_to
goes_wrong = refl

pub goes_on_above : thread_above scene (replay_part whole) ≡ Expects Replay (Below 19 (function_address 17 ∷ []))
unfolding reply answer_to
goes_on_above = refl

pub all_above : reaches_of true (thread_above scene) (replay_part whole) ≡ on Replay 20 ∷ on Replay 20 ∷ on Replay 17 ∷ on Replay 17 ∷ on System 19 ∷ on Replay 17 ∷ on Replay 17 ∷ on System 19 ∷ []
unfolding reply answer_to
all_above = refl

pub by_pointers_above : reaches_of false (thread_above scene) (replay_part whole) ≡ on Replay 20 ∷ on Replay 17 ∷ on Replay 17 ∷ on System 19 ∷ []
unfolding reply answer_to
by_pointers_above = refl
