-- Of all marks one alone can be the fault that the tests find.
use Rattle.std.proofs.Common.{◌≡◌, inl, inr, ℕ, Bool, true, false, ◌||◌, List, Some, None, refl, sym, ap, ◌∙◌, subst}
use Rattle.std.specs.Prelude.{is_some}
use Rattle.std.proofs.lemmas.Bool.{true≢false}
use Rattle.marks.specs.declared.side.Side.{Side}
use Rattle.marks.specs.declared.side.Side.TheVariants.{Replay, System}
use Rattle.marks.specs.declared.fault.FaultKind.{FaultKind}
use Rattle.marks.specs.Places.{is_constant}
use Rattle.marks.specs.Marks.{Act, Turn, Load, Store, Enter, Leave, Step, Fault, Made, Mark, is_event}
use Rattle.marks.specs.Bytes.{writes}
use Rattle.marks.specs.Wants.{Want, Outside, Turns, Loads, Stores, Enters, Leaves, Allocs, Frees, Calls, Below, Gives, Returns, CallsBack, UpReturns, Steps, Fails, answer_to, is_above, is_below}
use Rattle.c_code.specs.MarkLists.{same_side, reply}
use Rattle.replay_runs.specs.Runs.{marks_of, byte, Allowed}
use Rattle.replay_runs.specs.Threads.{act_fault}
use Rattle.replay_runs.specs.Checks.{FaultFound, Finds}
use Rattle.replay_runs.proofs.Replies.{Plain, turn, load, no_load, store, no_store, no_write, enter, full, leave, no_free, no_call, fail, IsNoStep, only_events}
use Rattle.replay_runs.proofs.Plain.{plain_same}
use Rattle.whole_runs.specs.World.{World, begin, interface}
use Rattle.whole_runs.specs.Sides.{seen, events_by}
use Rattle.whole_runs.specs.Outcomes.{builtin_of}
use Rattle.whole_runs.specs.Tests.{tests}
use Rattle.whole_runs.specs.Steps.{Picked, rules_above, fault_below, IsFault}
use Rattle.whole_runs_laws.specs.Laws.{FaultsAreDetermined}
use Rattle.whole_runs_laws.proofs.Picking.{IsPick, one_pick}
use Rattle.whole_runs_laws.proofs.Lasts.{answers_to, fault_breach}
use Rattle.whole_runs_laws.proofs.PlainSteps.{is_plain, side_is}
use Rattle.whole_runs_laws.proofs.OneStep.{same_side_true, mark_path, plain_side}

pub no_event : (a : Act) (kind : FaultKind) → act_fault a None ≡ Some kind → is_event a ≡ false
no_event (Made e) kind h = cc
no_event (Fault k c ins outs at) kind h = refl
no_event Turn kind h = refl
no_event (Load o at bytes) kind h = refl
no_event (Store o at bytes) kind h = refl
no_event (Enter f args at bytes) kind h = refl
no_event (Leave at size) kind h = refl
no_event (Step f args v ins pieces freed) kind h = refl

abbrev is_call_want : Want → Bool
is_call_want (Calls i f args) = true
is_call_want want = false

-- faults of one kind, where no Call is wanted
bare_one : (want : Want) (kind : FaultKind) (a b : Act) → Plain want a → Plain want b → act_fault a None ≡ Some kind → act_fault b None ≡ Some kind → is_call_want want ≡ false → a ≡ b
bare_one want kind a b turn q e f n = cc
bare_one want kind a b (load bytes l) q e f n = cc
bare_one want kind a b store q e f n = cc
bare_one want kind a b (enter at) q e f n = cc
bare_one want kind a b leave q e f n = cc
bare_one want kind a b no_load (load bytes l) e f n = cc
bare_one want kind a b no_load no_load e f n = refl
bare_one want kind a b no_store store e f n = cc
bare_one want kind a b no_store no_store e f n = refl
bare_one want kind a b no_store no_write e f n = cc
bare_one want kind a b no_write store e f n = cc
bare_one want kind a b no_write no_store e f n = cc
bare_one want kind a b no_write no_write e f n = refl
bare_one want kind a b full (enter at) e f n = cc
bare_one want kind a b full full e f n = refl
bare_one want kind a b no_free no_free e f n = refl
bare_one want kind a b (no_call k ins outs at) q e f n = absurd (true≢false n)
bare_one want kind a b fail fail e f n = refl

-- a call through a pointer below the cut faults as the call of a frame does
frame_fault : (f : ℕ) (args bytes : List ℕ) (kind : FaultKind) (a : Act) → act_fault a None ≡ Some kind → is_some (answer_to (CallsBack f args bytes) a) ≡ true → Plain (Enters false f args bytes) a
unfolding answer_to
frame_fault f args bytes kind (Fault k c ins outs at) e h = only_events (Enters false f args bytes) (Fault k c ins outs at) refl tt refl h
frame_fault f args bytes kind a e h = cc

-- no fault answers the return of a call
gives_none : (f : ℕ) (args : List ℕ) (a : Act) → is_event a ≡ false → is_some (answer_to (Gives f args) a) ≡ true → ⊥
unfolding answer_to
gives_none f args (Made e) z h = true≢false z
gives_none f args a z h = true≢false (sym h)

returns_none : (f : ℕ) (args : List ℕ) (v : ℕ) (a : Act) → is_event a ≡ false → is_some (answer_to (Returns f args v) a) ≡ true → ⊥
unfolding answer_to
returns_none f args v (Made e) z h = true≢false z
returns_none f args v a z h = true≢false (sym h)

module _ (w : World) (past : List Mark) (t : ℕ) (side : Side) (kind : FaultKind) where
  -- what is known of the mark of a fault, where the thread and its want are given
  record Faults (want : Want) (m : Mark) : Type 0 where
    of_thread : m.thread ≡ t
    index : m.index ≡ events_by w t past
    above : m.side ≡ Replay → Allowed (rules_above (interface w) (begin w) want) (begin w) (seen past) m
    replies : is_some (reply side want m) ≡ true
    kind_is : act_fault m.act None ≡ Some kind
    read_only : (x : ℕ) → writes m.act x ≡ true → is_constant x ≡ false
    below : m.side ≡ System → (indirect : Bool) (f : ℕ) (args : List ℕ) → want ≡ Steps indirect f args → m.act ≡ fault_below w kind f args (builtin_of f)

  faults : (want : Want) (s : Picked w past) (m : Mark) → IsPick w past t side want s → IsFault w past s kind m → Faults want m
  faults want s m p h =
      let thread : m.thread ≡ t = h.mark.of_thread ∙ p.thread in
      let some : is_some (reply s.side s.want m) ≡ true = ap is_some h.stops in
      record {
        of_thread = thread;
        index = h.mark.index ∙ ap (λ u. events_by w u past) thread;
        above = λ z. subst (λ v. Allowed (rules_above (interface w) (begin w) v) (begin w) (seen past) m) p.want_is (h.mark.above z);
        replies = subst (λ v. is_some (reply side v m) ≡ true) p.want_is (subst (λ d. is_some (reply d s.want m) ≡ true) p.side_is some);
        kind_is = h.kind_is;
        read_only = h.read_only;
        below = λ z i f args e. h.below z i f args (p.want_is ∙ e);
      }

  fault_side : (want : Want) (m : Mark) → Faults want m → m.side ≡ side
  fault_side want m h = sym (same_side_true side m.side (subst (λ d. same_side d m.side ≡ true) (plain_side side m.act (no_event m.act kind h.kind_is)) (side_is side want m h.replies)))

  abbrev replayed : Mark → Mark
  replayed m = record { thread = t; side = Replay; index = events_by w t past; act = m.act }

  allowed_here : (want : Want) (m : Mark) → side ≡ Replay → Faults want m → Allowed (rules_above (interface w) (begin w) want) (begin w) (seen past) (replayed m)
  allowed_here want m z h =
      let here : m.side ≡ Replay = fault_side want m h ∙ z in
      subst (Allowed (rules_above (interface w) (begin w) want) (begin w) (seen past)) (mark_path m (replayed m) h.of_thread here h.index refl) (h.above here)

  abbrev Found : Want → Type 0
  Found want = Finds (tests w past t side want) (FaultFound kind)

  -- at a Call the first bad range is one
  call_fault : (i : Bool) (f : ℕ) (args : List ℕ) (m n : Mark) → side ≡ Replay → Faults (Calls i f args) m → Faults (Calls i f args) n → m.act ≡ n.act
  call_fault i f args m n z a b =
      let p = allowed_here (Calls i f args) m z a in
      let q = allowed_here (Calls i f args) n z b in
      plain_same (interface w) (begin w) t (marks_of (begin w) t (seen past)) (Calls i f args) (λ x. byte (begin w) x (seen past)) m.act n.act
      (is_plain w past t side (Calls i f args) m.act (no_event m.act kind a.kind_is) tt refl (answers_to side (Calls i f args) m a.replies))
      (is_plain w past t side (Calls i f args) n.act (no_event n.act kind b.kind_is) tt refl (answers_to side (Calls i f args) n b.replies))
      p.own.1 q.own.1 a.read_only b.read_only p.bytes q.bytes

-- by the side: above the cut no fault stands at a builtin or external, and below it none at a Call
step_found : (w : World) (past : List Mark) (t : ℕ) (kind : FaultKind) (i : Bool) (f : ℕ) (args : List ℕ) → Finds (tests w past t Replay (Steps i f args)) (FaultFound kind) → ⊥
step_found w past t kind i f args (inl h) = fault_breach h.2
step_found w past t kind i f args (inr h) = h.1

module _ (w : World) (past : List Mark) (t : ℕ) (kind : FaultKind) where
  abbrev Is : Side → Want → Mark → Type 0
  Is side want m = Faults w past t side kind want m

  calls_one : (side : Side) (i : Bool) (f : ℕ) (args : List ℕ) (m n : Mark) → Finds (tests w past t side (Calls i f args)) (FaultFound kind) → Is side (Calls i f args) m → Is side (Calls i f args) n → m.act ≡ n.act
  calls_one Replay i f args m n found a b = call_fault w past t Replay kind i f args m n refl a b
  calls_one System i f args m n found a b = absurd found

  steps_one : (side : Side) (i : Bool) (f : ℕ) (args : List ℕ) (m n : Mark) → Finds (tests w past t side (Steps i f args)) (FaultFound kind) → Is side (Steps i f args) m → Is side (Steps i f args) n → m.act ≡ n.act
  steps_one Replay i f args m n found a b = absurd (step_found w past t kind i f args found)
  steps_one System i f args m n found a b = a.below (fault_side w past t System kind (Steps i f args) m a) i f args refl ∙ sym (b.below (fault_side w past t System kind (Steps i f args) n b) i f args refl)

  module _ (side : Side) where
    plain_one : (want : Want) (m n : Mark) → IsNoStep want → (is_above want || is_below want) ≡ true → is_call_want want ≡ false → Is side want m → Is side want n → m.act ≡ n.act
    plain_one want m n ns x y a b =
        bare_one want kind m.act n.act
        (is_plain w past t side want m.act (no_event m.act kind a.kind_is) ns x (answers_to side want m a.replies))
        (is_plain w past t side want n.act (no_event n.act kind b.kind_is) ns x (answers_to side want n b.replies))
        a.kind_is b.kind_is y

    never : (want : Want) (m : Mark) → ((a : Act) → is_event a ≡ false → is_some (answer_to want a) ≡ true → ⊥) → Is side want m → ⊥
    never want m none a = none m.act (no_event m.act kind a.kind_is) (answers_to side want m a.replies)

    fault_act : (want : Want) (m n : Mark) → Finds (tests w past t side want) (FaultFound kind) → Is side want m → Is side want n → m.act ≡ n.act
    fault_act (Calls i f args) m n found a b = calls_one side i f args m n found a b
    fault_act (Steps i f args) m n found a b = steps_one side i f args m n found a b
    fault_act (CallsBack f args bytes) m n found a b =
        bare_one (Enters false f args bytes) kind m.act n.act
        (frame_fault f args bytes kind m.act a.kind_is (answers_to side (CallsBack f args bytes) m a.replies))
        (frame_fault f args bytes kind n.act b.kind_is (answers_to side (CallsBack f args bytes) n b.replies))
        a.kind_is b.kind_is refl
    fault_act (Gives f args) m n found a b = absurd (never (Gives f args) m (gives_none f args) a)
    fault_act (Returns f args v) m n found a b = absurd (never (Returns f args v) m (returns_none f args v) a)
    fault_act Outside m n found a b = plain_one Outside m n tt refl refl a b
    fault_act Turns m n found a b = plain_one Turns m n tt refl refl a b
    fault_act (Loads o at n0) m n found a b = plain_one (Loads o at n0) m n tt refl refl a b
    fault_act (Stores o at bytes) m n found a b = plain_one (Stores o at bytes) m n tt refl refl a b
    fault_act (Enters i f args bytes) m n found a b = plain_one (Enters i f args bytes) m n tt refl refl a b
    fault_act (Leaves at size) m n found a b = plain_one (Leaves at size) m n tt refl refl a b
    fault_act (Allocs size) m n found a b = plain_one (Allocs size) m n tt refl refl a b
    fault_act (Frees at) m n found a b = plain_one (Frees at) m n tt refl refl a b
    fault_act (Below f args) m n found a b = plain_one (Below f args) m n tt refl refl a b
    fault_act (UpReturns f v) m n found a b = plain_one (UpReturns f v) m n tt refl refl a b
    fault_act (Fails k) m n found a b = plain_one (Fails k) m n tt refl refl a b

pub faults_determined : (w : World) → FaultsAreDetermined w
faults_determined w past m n kind s r found a b =
    let x = faults w past r.thread r.side kind r.want s m (one_pick w past s r) a in
    let y = faults w past r.thread r.side kind r.want r n (one_pick w past r r) b in
    mark_path m n (x.of_thread ∙ sym y.of_thread) (fault_side w past r.thread r.side kind r.want m x ∙ sym (fault_side w past r.thread r.side kind r.want n y)) (x.index ∙ sym y.index) (fault_act w past r.thread kind r.side r.want m n found x y)
