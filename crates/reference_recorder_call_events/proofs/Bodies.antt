-- The Ret of a function whose body has ended.
use Rattle.std.proofs.Common.{◌≡◌, ℕ, true, ◌&&◌, List, [], Option, refl, sym, ap, ◌∙◌, subst, eq-eqb}
use Rattle.std.specs.Prelude.{is_some}
use Rattle.marks.specs.declared.side.Side.TheVariants.{Replay}
use Rattle.marks.specs.Marks.{Mark, Ret}
use Rattle.marks.specs.Wants.{Go, Returns, answer_if, event_answer}
use Rattle.c_code.specs.Machine.{func_of}
use Rattle.c_code.specs.Typed.{CarriesValues}
use Rattle.c_code.specs.Values.{is_value}
use Rattle.replay_runs.specs.Checks.{Passes}
use Rattle.steps_above_memory.proofs.Accesses.{same_numbers_self}
use Rattle.whole_runs.specs.World.{World, begin, interface}
use Rattle.whole_runs.specs.Sides.{seen}
use Rattle.whole_runs.specs.Memory.{filled, real}
use Rattle.whole_runs.specs.Tests.{comes_up, ret_checks, tests}
use Rattle.whole_runs.specs.Steps.{Brings, Picked}
use Rattle.whole_runs_seen.proofs.Threads.{carried, threads_known}
use Rattle.recorder_state.specs.Inputs.{world_of}
use Rattle.reference_recorder_marks.specs.declared.mark.Mark.{Mark as Told}
use Rattle.reference_recorder_marks.specs.Marks.{past}
use Rattle.reference_recorder_scans.specs.Found.{IsLow}
use Rattle.reference_recorder_rules.specs.Steps.{IsMadeAs}
use Rattle.reference_recorder_call_events.specs.declared.memory.Memory.{Memory}
use Rattle.reference_recorder_call_events.specs.Memory.{memory_of}
use Rattle.reference_recorder_call_events.specs.Returns.{HasRegion, IsRetOf, IsReturnNext}
use Rattle.reference_recorder_call_events.proofs.Closing.{closes}
use Rattle.reference_recorder_call_events.proofs.Endings.{all_same, region_so, shape_is}
use Rattle.reference_recorder_call_events.proofs.Rets.{IsEnding, return_made}
use Rattle.reference_recorder_call_events.proofs.Told.{low_so, real_are}
use Rattle.reference_recorder_call_events.proofs.Weaker.{committed_in_use}

module _ (w : World) (marks : List Told) (t f : ℕ) (args : List ℕ) (v : ℕ) (h : IsReturnNext w marks t f args v) where
  abbrev run : List Mark
  run = h.at.past.run

  abbrev s : Picked w run
  s = h.at.step

  want_is : s.want ≡ Returns f args v
  want_is = h.at.told

  tested : Passes (ret_checks w run f args v [])
  tested = subst (λ z. Passes (tests w run s.thread Replay z)) want_is (subst (λ side. Passes (tests w run s.thread side s.want)) h.at.on_side h.passes)

  pub body_region : HasRegion (past marks) ((interface w).commits f args v)
  body_region = region_so w marks h.at.past ((interface w).commits f args v) (committed_in_use (interface w) (begin w) (seen run) (comes_up w run f args v []) f args v tested)

  values : CarriesValues w.laid (Returns f args v)
  values =
      let code = h.at.past.fit.code in
      subst (CarriesValues w.laid) want_is (carried w code run (threads_known w code run h.at.past.follows) s)

  module _ (memory : ℕ → Option ℕ) (memory_is : (x : ℕ) → memory x ≡ real w run x) where
    pub body_ending : IsEnding w run s f args v memory
    body_ending = record {
      closes = closes w h.at.past.fit run h.at.past.follows s f args (Returns f args v) want_is (λ o z. z);
      gives = subst (λ z. is_value z v ≡ true) (shape_is (func_of w.laid.code f)) values.1;
      comes = comes_up w run f args v [];
      tested = tested;
      answers = λ same outs commit. ap (λ z. is_some (event_answer z (Ret f args v same outs commit))) want_is
          ∙ (λ j. is_some (answer_if (eq-eqb f f refl j && (same_numbers_self args j && eq-eqb v v refl j)) Go));
      brings = λ up has. subst (λ z. Brings w run s.thread z v up) (sym want_is) (all_same memory (real w run) memory_is up has);
      there = λ x there e. there (sym (memory_is x) ∙ e);
    }

module _ (m : Memory) (t f : ℕ) (args : List ℕ) (v : ℕ) (h : IsReturnNext (world_of m.inputs) m.marks.now t f args v) (none : m.answer.now ≡ []) (low : IsLow (world_of m.inputs) (past m.marks.now)) where
  pub body_made : (marked : Told) → IsRetOf m t f args v marked → IsMadeAs (world_of m.inputs) h.at.past.run h.at.step marked
  body_made marked r =
      let w = world_of m.inputs in
      let p = h.at.past in
      let is : (x : ℕ) → memory_of m x ≡ real w p.run x = λ x. ap (λ ps. filled ps x (real w (past m.marks.now) x)) none ∙ real_are w m.marks.now p x in
      return_made m p h.at.step t h.at.of_thread f args v (body_ending w m.marks.now t f args v h (memory_of m) is) h.passes (low_so w m.marks.now p low) marked r
