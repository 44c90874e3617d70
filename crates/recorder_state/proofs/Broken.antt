-- A step that isn't made, and the end that comes of it.
use Rattle.std.proofs.Common.{◌≡◌, ℕ, false, [], ◌∷◌, Option, Some, None, refl, sym, ◌∙◌, subst}
use Rattle.marks.specs.declared.side.Side.{Side}
use Rattle.marks.specs.declared.fault.FaultKind.{FaultKind}
use Rattle.marks.specs.declared.breach.BreachKind.{BreachKind}
use Rattle.marks.specs.Marks.{Act, Turn, Load, Store, Enter, Leave, Step, Fault, Made, Mark, is_event}
use Rattle.replay_runs.specs.Runs.{is_fault}
use Rattle.replay_runs.specs.Threads.{act_fault}
use Rattle.replay_runs.specs.Checks.{BreachFound, FaultFound, Finds, Passes}
use Rattle.space_memory_laws.specs.Marks.{IsQuiet}
use Rattle.space_memory_laws.specs.StandsFor.{StandsFor}
use Rattle.space_memory_laws.proofs.Quiet.{quiet}
use Rattle.whole_runs.specs.declared.ending.Ending.{Ending}
use Rattle.whole_runs.specs.World.{World, begin}
use Rattle.whole_runs.specs.Sides.{seen}
use Rattle.whole_runs.specs.Outcomes.{act_outcome}
use Rattle.whole_runs.specs.Tests.{tests}
use Rattle.whole_runs.specs.Ends.{IsLast, breach_end, fault_end}
use Rattle.whole_runs.specs.Ends as last
use Rattle.whole_runs_laws.specs.Exists.{HasFault}
use Rattle.whole_runs_laws.proofs.FaultsAbove.{faults_met}
use Rattle.whole_runs_seen.proofs.Ends.{ends_there}
use Rattle.recorder_memory.specs.Stands.{placed}
use Rattle.recorder_threads.proofs.Faults.{faults_leave_all}
use Rattle.steps_above_stamps.specs.Stamps.{AreStampsOf}
use Rattle.recorder_state.specs.declared.state.RunState.{RunState}
use Rattle.recorder_state.specs.Ends.{IsBrokenOff, IsEnded}
use Rattle.recorder_state.proofs.Plain.{same_book, same_output, same_stamps, same_system_output, with_seen}

fault_quiet : (a : Act) (kind : FaultKind) → act_fault a None ≡ Some kind → (is_event a ≡ false) × (is_fault a ≡ 1) × ((t : ℕ) → act_outcome t a ≡ None) × IsQuiet a
fault_quiet (Fault k crosses ins outs access) kind e = (refl, refl, λ t. refl, tt)
fault_quiet Turn kind e = absurd cc
fault_quiet (Load o at bytes) kind e = absurd cc
fault_quiet (Store o at bytes) kind e = absurd cc
fault_quiet (Enter f args at bytes) kind e = absurd cc
fault_quiet (Leave at size) kind e = absurd cc
fault_quiet (Step f args v ins pieces freed) kind e = absurd cc
fault_quiet (Made ev) kind e = absurd cc

module _ (w : World) (s : RunState) (t : ℕ) (side : Side) (b : IsBrokenOff w s t side) where
  -- the run ends here without another mark
  pub ends_so : (e : Ending) → IsLast w b.past [] e → IsEnded w s e
  ends_so e l = record {
    fit = b.fit;
    past = b.past;
    follows = b.follows;
    last = [];
    ends = l;
    spaces = b.seen.spaces;
    shown = b.shown;
  }

  pub passes_there : Passes (tests w b.past t side b.step.want) → Passes (tests w b.past b.step.thread b.step.side b.step.want)
  passes_there h = subst (λ u. Passes (tests w b.past u b.step.side b.step.want)) (sym b.thread)
      (subst (λ z. Passes (tests w b.past t z b.step.want)) (sym b.side_is) h)

  pub breaks : (kind : BreachKind) (x : ℕ) (other : Option ℕ) → Finds (tests w b.past t side b.step.want) (BreachFound kind x other) → IsEnded w s (breach_end kind t x other)
  breaks kind x other found =
      ends_so (breach_end kind t x other)
      (subst (λ u. IsLast w b.past [] (breach_end kind u x other)) b.thread
      (last.breach kind x other b.step
      (subst (λ u. Finds (tests w b.past u b.step.side b.step.want) (BreachFound kind x other)) (sym b.thread)
      (subst (λ z. Finds (tests w b.past t z b.step.want) (BreachFound kind x other)) (sym b.side_is) found))))

  pub faults : (kind : FaultKind) → Finds (tests w b.past t side b.step.want) (FaultFound kind) → IsEnded w s (fault_end side kind t)
  faults kind found = record {
    fit = b.fit;
    past = b.past;
    follows = b.follows;
    last = m ∷ [];
    ends = subst (λ u. IsLast w b.past (m ∷ []) (fault_end side kind u)) b.thread
        (subst (λ z. IsLast w b.past (m ∷ []) (fault_end z kind b.step.thread)) b.side_is (last.fault kind b.step here met.met));
    spaces = with_seen (λ ms. StandsFor (begin w) ms s.memory.above.spaces) b.past m (quiet (begin w) (seen b.past) s.memory.above.spaces m b.seen.spaces q.3) b.seen.spaces;
    shown = record {
      threads = faults_leave_all w b.past b.step kind m met.met s.threads b.shown.threads;
      stamps = with_seen (λ ms. AreStampsOf (placed w) ms s.stamps) b.past m (same_stamps m q.0 (placed w) (seen b.past) s.stamps q.1 b.shown.stamps) b.shown.stamps;
      book = same_book m q.0 w b.past s.book b.shown.book;
      output = b.shown.output ∙ sym (same_output m q.0 w b.past);
      system_output = b.shown.system_output ∙ sym (same_system_output b.past m t (q.2 t));
    };
  }
    where
      here : Finds (tests w b.past b.step.thread b.step.side b.step.want) (FaultFound kind)
      here = subst (λ u. Finds (tests w b.past u b.step.side b.step.want) (FaultFound kind)) (sym b.thread)
          (subst (λ z. Finds (tests w b.past t z b.step.want) (FaultFound kind)) (sym b.side_is) found)

      met : HasFault w b.past b.step kind
      met = faults_met w b.fit.file (ends_there w b.fit) b.past b.follows b.step kind here

      m : Mark
      m = met.mark

      q : (is_event m.act ≡ false) × (is_fault m.act ≡ 1) × ((t : ℕ) → act_outcome t m.act ≡ None) × IsQuiet m.act
      q = fault_quiet m.act kind met.met.kind_is
