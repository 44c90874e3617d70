-- Why the threads of a run are stopped where it ends.
use Rattle.std.proofs.Common.{◌≡◌, ℕ, Bool, true, false, cond, eqb, List, ◌∷◌, ◌++◌, Some, None, refl, sym, ap, ◌∙◌, subst}
use Rattle.std.specs.Prelude.{is_some}
use Rattle.run_events.specs.declared.event.Reason.{Reason}
use Rattle.run_events.specs.declared.event.Reason.TheVariants as reason
use Rattle.marks.specs.declared.side.Side.{Side}
use Rattle.marks.specs.declared.side.Side.TheVariants.{Replay, System}
use Rattle.marks.specs.declared.fault.FaultKind.{FaultKind}
use Rattle.marks.specs.Kinds.{fault_number}
use Rattle.marks.specs.Marks.{Act, Turn, Load, Store, Enter, Leave, Step, Fault, Made, Mark, is_event, side_of}
use Rattle.c_code.specs.MarkLists.{same_side}
use Rattle.replay_runs.specs.Runs.{marks_of}
use Rattle.replay_runs.specs.Records.{reason_of}
use Rattle.replay_runs.specs.Threads.{act_fault, fault_of}
use Rattle.whole_runs.specs.declared.ending.Ending.{Ending}
use Rattle.whole_runs.specs.World.{World, begin}
use Rattle.whole_runs.specs.Sides.{seen}
use Rattle.whole_runs.specs.Steps.{Picked, IsFault}
use Rattle.whole_runs.specs.Ends.{Follows, IsLast, fault_end, done, budget, blocked, fault, breach, script, events, full}
use Rattle.whole_runs_laws.proofs.PlainSteps.{side_is}
use Rattle.whole_runs_laws.proofs.OneStep.{plain_side, same_side_true}
use Rattle.whole_runs_laws.proofs.FaultsAbove.{running}
use Rattle.recorder_end.specs.Stops.{reason_at}

-- a fault is no event
pub no_event : (a : Act) (kind : FaultKind) → act_fault a None ≡ Some kind → is_event a ≡ false
no_event (Fault k crosses ins outs access) kind e = refl
no_event Turn kind e = refl
no_event (Load o at bytes) kind e = refl
no_event (Store o at bytes) kind e = refl
no_event (Enter f args at bytes) kind e = refl
no_event (Leave at size) kind e = refl
no_event (Step f args v ins pieces freed) kind e = refl
no_event (Made ev) kind e = absurd cc

module _ (w : World) (past : List Mark) (follows : Follows w past) (t : ℕ) where
  abbrev before : List Mark
  before = marks_of (begin w) t (seen past)

  none : fault_of before ≡ None
  none = (running w past follows t).1

  halted : ◌≡◌ {A = Reason} reason.Halted (reason_of (fault_of before))
  halted = sym (ap reason_of none)

  module _ (s : Picked w past) (kind : FaultKind) (m : Mark) (h : IsFault w past s kind m) where
    on : s.side ≡ m.side
    on = sym (plain_side s.side m.act (no_event m.act kind h.kind_is)) ∙ same_side_true (side_of s.side m.act) m.side (side_is s.side s.want m (ap is_some h.stops))

    -- the fault of its own
    own : (b : Bool) → cond b (reason.Fault (fault_number kind)) reason.Halted ≡ reason_of (fault_of (cond b (m ∷ before) before))
    own true = sym (ap reason_of (ap (act_fault m.act) none ∙ h.kind_is))
    own false = halted

    by_side : (side : Side) → reason_at (fault_end side kind s.thread) t ≡ reason_of (fault_of (marks_of (begin w) t (cond (same_side side Replay) (m ∷ seen past) (seen past))))
    by_side Replay = subst (λ u. cond (eqb u t) (reason.Fault (fault_number kind)) reason.Halted ≡ reason_of (fault_of (cond (eqb m.thread t) (m ∷ before) before))) h.mark.of_thread (own (eqb m.thread t))
    by_side System = halted

    after_fault : reason_at (fault_end s.side kind s.thread) t ≡ reason_of (fault_of (marks_of (begin w) t (seen (m ∷ past))))
    after_fault = ap (λ side. reason_at (fault_end side kind s.thread) t) on ∙ by_side m.side

  pub reason_is : (last : List Mark) (e : Ending) → IsLast w past last e → reason_at e t ≡ reason_of (fault_of (marks_of (begin w) t (seen (last ++ past))))
  reason_is last e (done a) = halted
  reason_is last e (budget a b) = halted
  reason_is last e (blocked a b) = halted
  reason_is last e (fault {m = m} kind s found h) = after_fault s kind m h
  reason_is last e (breach kind x other s found) = halted
  reason_is last e (script s passes lacks) = halted
  reason_is last e (events m s made many) = halted
  reason_is last e (full m s made room many) = halted
