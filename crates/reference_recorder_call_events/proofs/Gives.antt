-- The Ret of a builtin or external, whose call is given a result.
use Rattle.std.proofs.Common.{◌≡◌, ℕ, true, ◌&&◌, List, Option, refl, sym, ap, ◌∙◌, subst, eq-eqb}
use Rattle.std.specs.Prelude.{is_some}
use Rattle.marks.specs.declared.side.Side.TheVariants.{Replay}
use Rattle.marks.specs.Marks.{Mark, Ret}
use Rattle.marks.specs.Wants.{Gives, Value, answer_if, event_answer}
use Rattle.c_code.specs.Machine.{func_of}
use Rattle.c_code.specs.MarkLists.{result_of}
use Rattle.c_code.specs.Values.{is_value}
use Rattle.replay_runs.specs.Checks.{Passes}
use Rattle.steps_above_memory.proofs.Accesses.{same_numbers_self}
use Rattle.whole_runs.specs.World.{World, begin, interface}
use Rattle.whole_runs.specs.Sides.{seen}
use Rattle.whole_runs.specs.Memory.{filled, real}
use Rattle.whole_runs.specs.Below.{Given, Says, given, pieces_for, targets}
use Rattle.whole_runs.specs.Tests.{comes_up, give_checks, ret_checks, tests, with_answer}
use Rattle.whole_runs.specs.Steps.{Brings, BringsGiven, Picked}
use Rattle.whole_runs_seen.proofs.Threads.{threads_known}
use Rattle.whole_runs_threads.proofs.Values.{given_suits}
use Rattle.recorder_state.specs.Inputs.{world_of}
use Rattle.reference_recorder_marks.specs.declared.mark.Mark.{Mark as Told}
use Rattle.reference_recorder_marks.specs.Marks.{past}
use Rattle.reference_recorder_scans.specs.Found.{IsLow}
use Rattle.reference_recorder_rules.specs.Steps.{IsMadeAs}
use Rattle.reference_recorder_call_events.specs.declared.memory.Memory.{Memory}
use Rattle.reference_recorder_call_events.specs.Memory.{memory_of}
use Rattle.reference_recorder_call_events.specs.Returns.{HasRegion, IsGiveNext, IsRetOf}
use Rattle.reference_recorder_call_events.proofs.Closing.{closes}
use Rattle.reference_recorder_call_events.proofs.Endings.{all_same, region_so, shape_is, targets_are}
use Rattle.reference_recorder_call_events.proofs.Rets.{IsEnding, return_made}
use Rattle.reference_recorder_call_events.proofs.There.{filled_there}
use Rattle.reference_recorder_call_events.proofs.Told.{low_so, real_are}
use Rattle.reference_recorder_call_events.proofs.Weaker.{committed_in_use}

module _ (w : World) (marks : List Told) (t f : ℕ) (args : List ℕ) (what : Given) (h : IsGiveNext w marks t f args what) (v : ℕ) (pieces : List (List ℕ)) (is : what ≡ Says v pieces) where
  abbrev run : List Mark
  run = h.next.at.past.run

  abbrev s : Picked w run
  s = h.next.at.step

  want_is : s.want ≡ Gives f args
  want_is = h.next.at.told

  given_so : given w run t f args ≡ Says v pieces
  given_so = sym h.given_is ∙ is

  given_here : given w run s.thread f args ≡ Says v pieces
  given_here = subst (λ u. given w run u f args ≡ Says v pieces) (sym h.next.at.of_thread) given_so

  tested : Passes (ret_checks w run f args v pieces)
  tested = subst (λ g. Passes (give_checks w run f args g)) given_here
      (subst (λ z. Passes (tests w run s.thread Replay z)) want_is (subst (λ side. Passes (tests w run s.thread side s.want)) h.next.at.on_side h.next.passes))

  pub give_region : HasRegion (past marks) ((interface w).commits f args v)
  give_region = region_so w marks h.next.at.past ((interface w).commits f args v) (committed_in_use (interface w) (begin w) (seen run) (comes_up w run f args v pieces) f args v tested)

  value : is_value (result_of w.laid f) v ≡ true
  value =
      let p = h.next.at.past in
      given_suits w p.fit run (threads_known w p.fit.code run p.follows) t f v args pieces given_so

  module _ (memory : ℕ → Option ℕ) (memory_is : (x : ℕ) → memory x ≡ with_answer w run f args v pieces x) where
    pub give_ending : IsEnding w run s f args v memory
    give_ending = record {
      closes = closes w h.next.at.past.fit run h.next.at.past.follows s f args (Gives f args) want_is (λ o z. z);
      gives = subst (λ z. is_value z v ≡ true) (shape_is (func_of w.laid.code f)) value;
      comes = comes_up w run f args v pieces;
      tested = tested;
      answers = λ same outs commit. ap (λ z. is_some (event_answer z (Ret f args v same outs commit))) want_is
          ∙ (λ j. is_some (answer_if (eq-eqb f f refl j && same_numbers_self args j) (Value v)));
      brings = λ up has. subst (λ z. Brings w run s.thread z v up) (sym want_is)
          (subst (BringsGiven w run f args v up) (sym given_here) (refl, all_same memory (with_answer w run f args v pieces) memory_is up has));
      there = λ x there e. filled_there (pieces_for (targets w Replay run f args v) pieces) x (real w run x) there (sym (memory_is x) ∙ e);
    }

module _ (m : Memory) (t f : ℕ) (args : List ℕ) (what : Given) (h : IsGiveNext (world_of m.inputs) m.marks.now t f args what) (v : ℕ) (pieces : List (List ℕ)) (is : what ≡ Says v pieces)
    (answer_is : m.answer.now ≡ pieces_for (targets (world_of m.inputs) Replay (past m.marks.now) f args v) pieces) (low : IsLow (world_of m.inputs) (past m.marks.now)) where
  pub give_made : (marked : Told) → IsRetOf m t f args v marked → IsMadeAs (world_of m.inputs) h.next.at.past.run h.next.at.step marked
  give_made marked r =
      let w = world_of m.inputs in
      let p = h.next.at.past in
      let memory_is : (x : ℕ) → memory_of m x ≡ with_answer w p.run f args v pieces x =
      λ x. ap (λ ps. filled ps x (real w (past m.marks.now) x)) (answer_is ∙ ap (λ xs. pieces_for xs pieces) (targets_are w m.marks.now p f args v))
      ∙ ap (filled (pieces_for (targets w Replay p.run f args v) pieces) x) (real_are w m.marks.now p x) in
      return_made m p h.next.at.step t h.next.at.of_thread f args v (give_ending w m.marks.now t f args what h v pieces is (memory_of m) memory_is) h.next.passes (low_so w m.marks.now p low) marked r
