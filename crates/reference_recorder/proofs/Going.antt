-- What the tests of a step find, and what comes then.
use Rattle.std.proofs.Common.{◌≡◌, ℕ, List, [], ◌∷◌, Option, Some, None, Result, refl, sym, ap, ◌∙◌, subst}
use Rattle.std.specs.Prelude.{IfOk}
use Rattle.marks.specs.declared.side.Side.{Side}
use Rattle.marks.specs.declared.fault.FaultKind.{FaultKind}
use Rattle.marks.specs.declared.breach.BreachKind.{BreachKind}
use Rattle.marks.specs.Marks.{Mark}
use Rattle.replay_runs.specs.Checks.{BreachFound, Finds, Passes}
use Rattle.whole_runs.specs.declared.ending.Ending.{Ending}
use Rattle.whole_runs.specs.declared.ending.Ending.TheVariants as ending
use Rattle.whole_runs.specs.declared.ending.Halt.TheVariants as halt
use Rattle.whole_runs.specs.World.{World}
use Rattle.whole_runs.specs.Below.{Given, given}
use Rattle.whole_runs.specs.Tests.{tests}
use Rattle.whole_runs.specs.Ends.{IsLast, breach, breach_end, fault, fault_end, script}
use Rattle.recorder_threads.specs.declared.wants.Want.{Want}
use Rattle.reference_recorder_made.specs.Asking.{asked_func}
use Rattle.reference_recorder_marks.specs.declared.mark.Mark.{Mark as Told}
use Rattle.reference_recorder_marks.specs.Marks.{past as past_of}
use Rattle.reference_recorder_findings.specs.declared.finding.Finding.{Finding}
use Rattle.reference_recorder_findings.specs.Findings.{IsFound}
use Rattle.reference_recorder_laws.proofs.Low.{low, low_without}
use Rattle.reference_recorder_rules.specs.Steps.{IsAtStep, IsFaultAs}
use Rattle.reference_recorder_scans.specs.Found.{IsLow}
use Rattle.reference_recorder_threads.specs.Telling.{IsPast}
use Rattle.reference_recorder_faults.specs.Faults.{IsAtFault}
use Rattle.reference_recorder.specs.declared.steps.Coming.{Coming}
use Rattle.reference_recorder.specs.Steps.{ComesNext, IsEndAs, IsGivenFor, lacks}
use Rattle.reference_recorder.proofs.Asking.{asked_so, lacks_none}

-- what is found, by its parts
pub found_so : (o : Option Finding) (f g : Finding) → o ≡ Some f → f ≡ g → o ≡ Some g
found_so o f g is e = is ∙ ap (λ x. Some x) e

-- an end with no mark
pub ends : (w : World) (run : List Mark) (e : Ending) → IsLast w run [] e → IsEndAs w run None e
ends w run e last = record { mark = []; same = refl; ends = last }

pub low_past : (w : World) (marks : List Told) (p : IsPast w marks) → IsLow w (past_of marks)
low_past w marks p = subst (IsLow w) p.same (low_without w p.run (low w p.fit p.run p.follows))

module _ (w : World) (marks : List Told) (t : ℕ) (side : Side) (args : List ℕ) (said : Want) (at : IsAtStep w marks t side args said) where
  abbrev run : List Mark
  run = at.past.run

  -- what is found of the thread on its side is found of the step
  pub of_step : (found : Option Finding) → IsFound (tests w run t side at.step.want) found → IsFound (tests w run at.step.thread at.step.side at.step.want) found
  of_step found h = subst (λ u. IsFound (tests w run u at.step.side at.step.want) found) (sym at.of_thread) (subst (λ d. IsFound (tests w run t d at.step.want) found) (sym at.on_side) h)

  pub breach_ends : (kind : BreachKind) (x : ℕ) (other : Option ℕ) → Finds (tests w run at.step.thread at.step.side at.step.want) (BreachFound kind x other) → IsEndAs w run None (breach_end kind t x other)
  breach_ends kind x other h = subst (λ u. IsEndAs w run None (breach_end kind u x other)) at.of_thread (ends w run (breach_end kind at.step.thread x other) (breach kind x other at.step h))

  pub script_ends : Passes (tests w run at.step.thread at.step.side at.step.want) → (g : Given) → IsGivenFor w run t args (asked_func said) g → (f : ℕ) → lacks (asked_func said) g ≡ Some f →
      IsEndAs w run None (ending.Halted (halt.Script f))
  script_ends passes g h f e =
      let z = lacks_none (asked_func said) f g e in
      ends w run (ending.Halted (halt.Script f)) (script at.step passes (record {
        args = args;
        asks = asked_so w.laid args said at.step.want at.told f z.0;
        none = ap (λ u. given w run u f args) at.of_thread ∙ sym (subst (λ o. IsGivenFor w run t args o g) z.0 h) ∙ z.1;
      }))

module _ (w : World) (marks : List Told) (t : ℕ) (side : Side) (args : List ℕ) (said : Want) (kind : FaultKind) (f : IsAtFault w marks t side args said kind) where
  pub fault_ends : (mark : Told) → IsFaultAs w f.at.past.run f.at.step kind mark → IsEndAs w f.at.past.run (Some mark) (fault_end side kind t)
  fault_ends mark h = record {
    mark = h.mark ∷ [];
    same = ap (λ m. m ∷ []) h.same;
    ends = ends_at;
  }
    where
      as_step : IsLast w f.at.past.run (h.mark ∷ []) (fault_end f.at.step.side kind f.at.step.thread)
      as_step = fault kind f.at.step f.found h.fault

      ends_at : IsLast w f.at.past.run (h.mark ∷ []) (fault_end side kind t)
      ends_at = subst (λ d. IsLast w f.at.past.run (h.mark ∷ []) (fault_end d kind t)) f.at.on_side (subst (λ u. IsLast w f.at.past.run (h.mark ∷ []) (fault_end f.at.step.side kind u)) f.at.of_thread as_step)

-- the mark of a fault on the side, where that is this one
pub fault_on : (w : World) (marks : List Told) (t : ℕ) (side d : Side) (args : List ℕ) (said : Want) (kind : FaultKind) {E : Type 0} (r : Result Told E) → side ≡ d →
    ((f : IsAtFault w marks t d args said kind) → IfOk r (IsFaultAs w f.at.past.run f.at.step kind)) →
    (f : IsAtFault w marks t side args said kind) → IfOk r (IsFaultAs w f.at.past.run f.at.step kind)
fault_on w marks t side d args said kind r e h = subst (λ d. (f : IsAtFault w marks t d args said kind) → IfOk r (IsFaultAs w f.at.past.run f.at.step kind)) (sym e) h

-- what comes after the marks, where the arguments of the step were found so
pub at_args : (w : World) (marks : List Told) (t : ℕ) (side : Side) (found args : List ℕ) (said : Want) {E : Type 0} (r : Result Coming E) → found ≡ args →
    ((at : IsAtStep w marks t side found said) → IfOk r (ComesNext w marks at.past)) →
    (at : IsAtStep w marks t side args said) → IfOk r (ComesNext w marks at.past)
at_args w marks t side found args said r e h = subst (λ xs. (at : IsAtStep w marks t side xs said) → IfOk r (ComesNext w marks at.past)) e h
