-- The mark of the fault that the tests of a step find.
use Rattle.std.proofs.Common.{◌≡◌, ◌⊎◌, inl, inr, ℕ, Bool, true, false, List, [], ◌++◌, length, Some, None, is_some, refl, sym, ap, ◌∙◌, subst}
use Rattle.marks.specs.declared.side.Side.{Side}
use Rattle.marks.specs.declared.side.Side.TheVariants.{Replay, System}
use Rattle.marks.specs.declared.fault.FaultKind.{FaultKind}
use Rattle.marks.specs.declared.range.Range.{Range}
use Rattle.marks.specs.Ranges.{bytes_of_number, prepared_ranges, range}
use Rattle.marks.specs.Marks.{Nowhere, Reading, Writing, Freeing, Act, Turn, Load, Store, Enter, Leave, Step, Fault, Made, Mark, is_event, side_of}
use Rattle.marks.specs.Bytes.{Asks}
use Rattle.marks.specs.Wants.{Want, Turns, Loads, Stores, Enters, Leaves, Allocs, Frees, Calls, Gives, Returns, CallsBack, UpReturns, Steps, Fails}
use Rattle.memory_map.specs.declared.placed.Placed.{Placed}
use Rattle.c_code.specs.Machine.{frame_of}
use Rattle.c_code.specs.MarkLists.{same_side}
use Rattle.c_code.proofs.FrameBytes.{bytes_count}
use Rattle.stub_meaning.specs.Calls.{Done}
use Rattle.replay_runs.specs.Runs.{Allowed, OfThread, byte, marks_of, new_events}
use Rattle.replay_runs.specs.Threads.{act_fault}
use Rattle.replay_runs.specs.Rules.{Carries}
use Rattle.replay_runs.specs.Checks.{FaultFound, Finds}
use Rattle.whole_runs.specs.World.{World, begin, interface}
use Rattle.whole_runs.specs.Sides.{events_by, seen}
use Rattle.whole_runs.specs.Outcomes.{builtin_of}
use Rattle.whole_runs.specs.Tests.{tests}
use Rattle.whole_runs.specs.Steps.{Picked, IsFault, fault_below, rules_above}
use Rattle.whole_runs_laws.specs.Exists.{HasFault}
use Rattle.whole_runs_laws.proofs.FaultsAbove.{faults_met}
use Rattle.whole_runs_laws.proofs.Lasts.{answers_to, fault_breach}
use Rattle.whole_runs_laws.proofs.OneFault.{no_event}
use Rattle.whole_runs_laws.proofs.OneStep.{plain_side, same_side_true}
use Rattle.whole_runs_laws.proofs.PlainSteps.{side_is}
use Rattle.whole_runs_seen.proofs.Ends.{ends_there}
use Rattle.whole_runs_seen.proofs.Entries.{IsOwn}
use Rattle.whole_runs_seen.proofs.Threads.{own_want, threads_known}
use Rattle.recorder_threads.specs.declared.wants.Want.{Want as Said}
use Rattle.recorder_threads.specs.declared.wants.Want.TheVariants as told
use Rattle.recorder_threads.specs.Wants.{IsTold}
use Rattle.reference_recorder_marks.specs.declared.mark.Act.{Act as ToldAct}
use Rattle.reference_recorder_marks.specs.declared.mark.Mark.{Mark as Told}
use Rattle.reference_recorder_marks.specs.Marks.{act_of, mark_of, past, without_origin}
use Rattle.reference_recorder_origins.proofs.Memory.{byte_seen}
use Rattle.reference_recorder_targets.specs.Said.{done_on}
use Rattle.reference_recorder_scans.specs.Found.{IsLow}
use Rattle.reference_recorder_laws.proofs.Low.{low, low_without}
use Rattle.reference_recorder_rules.specs.Steps.{IsFaultAs, IsShownAs}
use Rattle.reference_recorder_acts.specs.Acts.{next_after}
use Rattle.reference_recorder_acts.proofs.Marked.{index_told}
use Rattle.reference_recorder_faults.specs.Faults.{IsAtFault, IsFaultAct}
use Rattle.reference_recorder_faults.specs.Ranges.{IsStopped, IsStoppedIn}
use Rattle.reference_recorder_faults.proofs.Forms.{FaultForm, fault_form}

-- a fault has no origin
no_origin : (a : Act) (kind : FaultKind) → act_fault a None ≡ Some kind → without_origin a ≡ a
no_origin Turn kind e = refl
no_origin (Load o at bytes) kind e = cc
no_origin (Store o at bytes) kind e = cc
no_origin (Enter f args at bytes) kind e = refl
no_origin (Leave at size) kind e = refl
no_origin (Step f args v ins pieces freed) kind e = refl
no_origin (Fault k crosses ins outs access) kind e = refl
no_origin (Made ev) kind e = refl

module _ (w : World) (marks : List Told) (t : ℕ) (side : Side) (args : List ℕ) (said : Said) (kind : FaultKind) (f : IsAtFault w marks t side args said kind) where
  abbrev pub run : List Mark
  run = f.at.past.run

  abbrev pub step : Picked w run
  step = f.at.step

  pub there : HasFault w run step kind
  there = faults_met w f.at.past.fit.file (ends_there w f.at.past.fit) run f.at.past.follows step kind f.found

  -- ---- what it does, by what is told of what the code wants

  form_at : (want : Want) → step.want ≡ want → FaultForm want kind there.mark.act
  form_at want is =
      subst (λ v. FaultForm v kind there.mark.act) is
      (fault_form step.want kind there.mark.act there.met.kind_is (answers_to step.side step.want there.mark (ap is_some there.met.stops)))

  told_so : (v : Said) → said ≡ v → IsTold w.laid args v step.want
  told_so v e = subst (λ u. IsTold w.laid args u step.want) e f.at.told

  own : (want : Want) → step.want ≡ want → IsOwn w.laid step.side want
  own want is = subst (IsOwn w.laid step.side) is (own_want w f.at.past.fit.code run (threads_known w f.at.past.fit.code run f.at.past.follows) step)

  other_side : step.side ≡ Replay → step.side ≡ System → ⊥
  other_side above below = let e : Replay ≡ System = sym above ∙ below in absurd cc

  pub at_load : (addr n : ℕ) → said ≡ told.Load addr n → there.mark.act ≡ Fault kind false [] [] (Reading (range addr n))
  at_load addr n e = let h = told_so (told.Load addr n) e in form_at (Loads h.0 addr n) h.1

  pub at_store : (addr n v : ℕ) → said ≡ told.Store addr n v → there.mark.act ≡ Fault kind false [] [] (Writing (range addr n))
  at_store addr n v e =
      let h = told_so (told.Store addr n v) e in
      form_at (Stores h.0 addr (bytes_of_number n v)) h.1 ∙ ap (λ (k : ℕ). Fault kind false [] [] (Writing (range addr k))) (bytes_count n v)

  pub at_enter : (i : Bool) (g n : ℕ) → said ≡ told.Enter i g n → there.mark.act ≡ Fault kind false [] [] Nowhere
  at_enter i g n e = form_at (Enters i g args (frame_of w.laid g args)) (told_so (told.Enter i g n) e).0

  pub at_back : (g n : ℕ) → said ≡ told.CallBack g n → there.mark.act ≡ Fault kind false [] [] Nowhere
  at_back g n e = form_at (CallsBack g args (frame_of w.laid g args)) (told_so (told.CallBack g n) e).0

  pub at_free : (addr : ℕ) → said ≡ told.Free addr → there.mark.act ≡ Fault kind false [] [] (Freeing addr)
  at_free addr e = form_at (Frees addr) (told_so (told.Free addr) e)

  pub at_fault : (n : ℕ) → said ≡ told.Fault n → there.mark.act ≡ Fault kind false [] [] Nowhere
  at_fault n e = let h = told_so (told.Fault n) e in form_at (Fails h.0) h.1

  -- ---- no fault comes of these

  pub no_turn : said ≡ told.Turn → ⊥
  no_turn e = form_at Turns (told_so told.Turn e)

  pub no_leave : said ≡ told.Leave → ⊥
  no_leave e = let h = told_so told.Leave e in form_at (Leaves h.0 h.1) h.2

  pub no_alloc : (n : ℕ) → said ≡ told.Alloc n → ⊥
  no_alloc n e = form_at (Allocs n) (told_so (told.Alloc n) e)

  pub no_give : (g : ℕ) → said ≡ told.Give g → ⊥
  no_give g e = form_at (Gives g args) (told_so (told.Give g) e)

  pub no_return : (g v : ℕ) → said ≡ told.Return g v → ⊥
  no_return g v e = form_at (Returns g args v) (told_so (told.Return g v) e)

  pub no_up_return : (v : ℕ) → said ≡ told.UpReturn v → ⊥
  no_up_return v e = let h = told_so (told.UpReturn v) e in form_at (UpReturns h.0 v) h.1

  pub no_back_above : side ≡ Replay → (g n : ℕ) → said ≡ told.CallBack g n → ⊥
  no_back_above on g n e = other_side (f.at.on_side ∙ on) (own (CallsBack g args (frame_of w.laid g args)) (told_so (told.CallBack g n) e).0)

  pub no_step_above : side ≡ Replay → (i : Bool) (g : ℕ) → said ≡ told.Step i g → ⊥
  no_step_above on i g e = none (subst (λ d. Finds (tests w run step.thread d (Steps i g args)) (FaultFound kind)) (f.at.on_side ∙ on) (subst (λ v. Finds (tests w run step.thread step.side v) (FaultFound kind)) (told_so (told.Step i g) e) f.found))
    where
      none : Finds (tests w run step.thread Replay (Steps i g args)) (FaultFound kind) → ⊥
      none (inl h) = fault_breach h.2
      none (inr h) = h.1

  pub no_free_below : side ≡ System → (addr : ℕ) → said ≡ told.Free addr → ⊥
  no_free_below on addr e = other_side (own (Frees addr) (told_so (told.Free addr) e)) (f.at.on_side ∙ on)

  pub no_call_below : side ≡ System → (i : Bool) (g : ℕ) → said ≡ told.Call i g → ⊥
  no_call_below on i g e = other_side (own (Calls i g args) (told_so (told.Call i g) e)) (f.at.on_side ∙ on)

  -- so none comes above the cut, or below it, of any of these
  pub never_above : side ≡ Replay →
      (said ≡ told.Turn) ⊎ ((said ≡ told.Leave) ⊎ (((x : ℕ) × (said ≡ told.Alloc x)) ⊎ (((x : ℕ) × (said ≡ told.Give x)) ⊎ (((x : ℕ) × (y : ℕ) × (said ≡ told.Return x y)) ⊎ (((x : ℕ) × (y : ℕ) × (said ≡ told.CallBack x y)) ⊎ (((x : ℕ) × (said ≡ told.UpReturn x)) ⊎ (((x : Bool) × (y : ℕ) × (said ≡ told.Step x y))))))))) → ⊥
  never_above on (inl e) = no_turn e
  never_above on (inr (inl e)) = no_leave e
  never_above on (inr (inr (inl e))) = no_alloc e.0 e.1
  never_above on (inr (inr (inr (inl e)))) = no_give e.0 e.1
  never_above on (inr (inr (inr (inr (inl e))))) = no_return e.0 e.1 e.2
  never_above on (inr (inr (inr (inr (inr (inl e)))))) = no_back_above on e.0 e.1 e.2
  never_above on (inr (inr (inr (inr (inr (inr (inl e))))))) = no_up_return e.0 e.1
  never_above on (inr (inr (inr (inr (inr (inr (inr e))))))) = no_step_above on e.0 e.1 e.2

  pub never_below : side ≡ System →
      (said ≡ told.Turn) ⊎ ((said ≡ told.Leave) ⊎ (((x : ℕ) × (said ≡ told.Alloc x)) ⊎ (((x : ℕ) × (said ≡ told.Free x)) ⊎ (((x : Bool) × (y : ℕ) × (said ≡ told.Call x y)) ⊎ (((x : ℕ) × (said ≡ told.Give x)) ⊎ (((x : ℕ) × (y : ℕ) × (said ≡ told.Return x y)) ⊎ (((x : ℕ) × (said ≡ told.UpReturn x))))))))) → ⊥
  never_below on (inl e) = no_turn e
  never_below on (inr (inl e)) = no_leave e
  never_below on (inr (inr (inl e))) = no_alloc e.0 e.1
  never_below on (inr (inr (inr (inl e)))) = no_free_below on e.0 e.1
  never_below on (inr (inr (inr (inr (inl e))))) = no_call_below on e.0 e.1 e.2
  never_below on (inr (inr (inr (inr (inr (inl e)))))) = no_give e.0 e.1
  never_below on (inr (inr (inr (inr (inr (inr (inl e))))))) = no_return e.0 e.1 e.2
  never_below on (inr (inr (inr (inr (inr (inr (inr e))))))) = no_up_return e.0 e.1

  -- ---- the mark

  -- it stands on the side of the step
  fault_side : (m : Mark) → IsFault w run step kind m → m.side ≡ side
  fault_side m h =
      let plain : is_event m.act ≡ false = no_event m.act kind h.kind_is in
      let same : same_side (side_of step.side m.act) m.side ≡ true = side_is step.side step.want m (ap is_some h.stops) in
      sym (same_side_true step.side m.side (subst (λ d. same_side d m.side ≡ true) (plain_side step.side m.act plain) same)) ∙ f.at.on_side

  pub does_so : (act : ToldAct) → there.mark.act ≡ act_of act → IsFaultAct w run step kind act
  does_so act e = record { mark = there.mark; fault = there.met; does = e }

  module _ (act : ToldAct) (a : IsFaultAct w run step kind act) where
    abbrev m : Mark
    m = a.mark

    thread : m.thread ≡ t
    thread = a.fault.mark.of_thread ∙ f.at.of_thread

    index : m.index ≡ length (new_events (OfThread t) (past marks))
    index = a.fault.mark.index ∙ (ap (λ u. events_by w u run) thread ∙ sym (index_told w marks f.at.past t))

    does : without_origin m.act ≡ act_of act
    does = no_origin m.act kind a.fault.kind_is ∙ a.does

    pub as_fault : (made : Told) → made ≡ next_after marks t side act → IsFaultAs w run step kind made
    as_fault made is = record { mark = m; same = same; fault = a.fault }
      where
        same : IsShownAs m made
        same =
            let here : record m { act = without_origin m.act } ≡ mark_of (next_after marks t side act) =
            λ i. record { thread = thread i; side = fault_side m a.fault i; index = index i; act = does i } in
            here ∙ ap mark_of (sym is)

  -- a builtin or external
  pub at_step : side ≡ System → (i : Bool) (g : ℕ) → said ≡ told.Step i g → there.mark.act ≡ fault_below w kind g args (builtin_of g)
  at_step on i g e = there.met.below (fault_side there.mark there.met ∙ on) i g args (told_so (told.Step i g) e)

  -- ---- a call is stopped at one of its ranges

  module _ (on : side ≡ Replay) (i : Bool) (g : ℕ) (e : said ≡ told.Call i g) where
    wants : step.want ≡ Calls i g args
    wants = told_so (told.Call i g) e

    allowed : Allowed (rules_above (interface w) (begin w) step.want) (begin w) (seen run) there.mark
    allowed = there.met.mark.above (fault_side there.mark there.met ∙ on)

    byte_told : (x : ℕ) → byte (begin w) x (seen run) ≡ byte (begin w) x (seen (past marks))
    byte_told x = sym (byte_seen w x run) ∙ ap (λ ms. byte (begin w) x (seen ms)) f.at.past.same

    abbrev ins : List Range
    ins = (interface w).ins g args

    abbrev held : List Range
    held = (interface w).outs g args ++ prepared_ranges ((interface w).prepares g args)

    stopped : IsStopped w (past marks) ins held kind there.mark.act
    stopped =
        let form = form_at (Calls i g args) wants in
        record {
          before_ins = form.0;
          before_held = form.1;
          access = form.2;
          is = form.3;
          stops = subst (Carries (interface w) (begin w) there.mark.thread (marks_of (begin w) there.mark.thread (seen run)) (Calls i g args)) form.3
              (subst (λ v. Carries (interface w) (begin w) there.mark.thread (marks_of (begin w) there.mark.thread (seen run)) v there.mark.act) wants allowed.own.1);
          asks = subst (Asks there.mark.act) (λ j x. byte_told x j) allowed.bytes;
          read_only = there.met.read_only;
        }

    pub stopped_in : (placed : Placed) → w.laid.placed ≡ placed → (d : Done) → d ≡ done_on w Replay g args 0 → (rs hs : List Range) →
        rs ≡ d.ins → hs ≡ d.outs ++ prepared_ranges d.prepares → IsStoppedIn w placed marks rs hs kind there.mark.act
    stopped_in placed objects d done rs hs rs_are hs_are = record {
      objects = objects;
      low = subst (IsLow w) f.at.past.same (low_without w run (low w f.at.past.fit run f.at.past.follows));
      stopped =
          let first : ins ≡ rs = sym (rs_are ∙ ap (λ (q : Done). q.ins) done) in
          let second : held ≡ hs = sym (hs_are ∙ ap (λ (q : Done). q.outs ++ prepared_ranges q.prepares) done) in
          subst (λ xs. IsStopped w (past marks) xs hs kind there.mark.act) first (subst (λ xs. IsStopped w (past marks) ins xs kind there.mark.act) second stopped);
    }
