-- Of all marks one alone can be the next step.
use Rattle.std.proofs.Common.{◌≡◌, ℕ, Bool, true, false, List, refl, sym, ap, ◌∙◌, subst}
use Rattle.std.specs.Prelude.{is_some}
use Rattle.std.proofs.lemmas.Bool.{true≢false}
use Rattle.marks.specs.declared.side.Side.{Side}
use Rattle.marks.specs.declared.side.Side.TheVariants.{Replay, System}
use Rattle.marks.specs.Marks.{EventKind, Up, Event, Act, Turn, Load, Store, Enter, Leave, Step, Fault, Made, Mark, is_event, side_of}
use Rattle.marks.specs.Wants.{Want, Outside, Turns, Loads, Stores, Enters, Leaves, Allocs, Frees, Calls, Below, Gives, Returns, CallsBack, UpReturns, Steps, Fails, answer_to, event_answer}
use Rattle.c_code.specs.MarkLists.{same_side, reply}
use Rattle.replay_runs.specs.Runs.{Allowed}
use Rattle.replay_runs.proofs.Replies.{Plain, no_free, no_call}
use Rattle.whole_runs.specs.World.{World, begin, interface}
use Rattle.whole_runs.specs.Sides.{seen, events_by}
use Rattle.whole_runs.specs.Steps.{Picked, rules_above, goes_up, Agrees, EventAgrees, IsMade}
use Rattle.whole_runs_laws.specs.Laws.{StepsAreDetermined}
use Rattle.whole_runs_laws.proofs.Picking.{IsPick, one_pick}
use Rattle.whole_runs_laws.proofs.Lasts.{answers_to}
use Rattle.whole_runs_laws.proofs.PlainSteps.{none_plain, is_plain, side_is}
use Rattle.whole_runs_laws.proofs.OneEvent.{made_mark, one_event}
use Rattle.whole_runs_laws.proofs.EventSteps.{event_one}

pub same_side_true : (x y : Side) → same_side x y ≡ true → x ≡ y
same_side_true Replay Replay e = refl
same_side_true System System e = refl
same_side_true Replay System e = absurd (true≢false (sym e))
same_side_true System Replay e = absurd (true≢false (sym e))

pub mark_path : (m n : Mark) → m.thread ≡ n.thread → m.side ≡ n.side → m.index ≡ n.index → m.act ≡ n.act → m ≡ n
mark_path m n a b c d = λ i. record { thread = a i; side = b i; index = c i; act = d i }

event_in : (a : Act) → is_event a ≡ true → (e : Event) × (a ≡ Made e)
event_in (Made e) h = (e, refl)
event_in Turn h = absurd (true≢false (sym h))
event_in (Load o at bytes) h = absurd (true≢false (sym h))
event_in (Store o at bytes) h = absurd (true≢false (sym h))
event_in (Enter f args at bytes) h = absurd (true≢false (sym h))
event_in (Leave at size) h = absurd (true≢false (sym h))
event_in (Step f args v ins pieces freed) h = absurd (true≢false (sym h))
event_in (Fault k c ins outs at) h = absurd (true≢false (sym h))

-- the side where a mark that is no event stands
pub plain_side : (side : Side) (a : Act) → is_event a ≡ false → side_of side a ≡ side
plain_side side (Made e) h = absurd (true≢false h)
plain_side side Turn h = refl
plain_side side (Load o at bytes) h = refl
plain_side side (Store o at bytes) h = refl
plain_side side (Enter f args at bytes) h = refl
plain_side side (Leave at size) h = refl
plain_side side (Step f args v ins pieces freed) h = refl
plain_side side (Fault k c ins outs at) h = refl

module _ (w : World) (past : List Mark) (t : ℕ) (side : Side) where
  -- no want is answered by an event and by another mark
  no_freed : (at : ℕ) (b : Act) → Plain (Frees at) b → Agrees w past t side (Frees at) b → ⊥
  no_freed at b no_free h = h

  no_called : (i : Bool) (f : ℕ) (args : List ℕ) (b : Act) → Plain (Calls i f args) b → Agrees w past t side (Calls i f args) b → ⊥
  no_called i f args b (no_call k ins outs a) h = h

  up_answers : (f : ℕ) (args bytes : List ℕ) (k : EventKind) → is_some (event_answer (CallsBack f args bytes) k) ≡ true → EventAgrees w past t (CallsBack f args bytes) k → goes_up w past (CallsBack f args bytes) ≡ true
  up_answers f args bytes (Up g bs) h a = a
  up_answers f args bytes k h a = absurd (true≢false (sym h))

  frame_answers : (f : ℕ) (args bytes : List ℕ) (b : Act) → is_event b ≡ false → is_some (answer_to (CallsBack f args bytes) b) ≡ true → Agrees w past t side (CallsBack f args bytes) b → goes_up w past (CallsBack f args bytes) ≡ false
  unfolding answer_to
  frame_answers f args bytes (Enter g bs at c) z h a = a.0
  frame_answers f args bytes (Fault k c ins outs at) z h a = absurd a
  frame_answers f args bytes (Made e) z h a = absurd (true≢false z)
  frame_answers f args bytes b z h a = absurd (true≢false (sym h))

  no_mix : (want : Want) (k : EventKind) (b : Act) → is_some (event_answer want k) ≡ true → EventAgrees w past t want k → is_event b ≡ false → is_some (answer_to want b) ≡ true → Agrees w past t side want b → ⊥
  unfolding answer_to
  no_mix want k (Made e) h a z p q = true≢false z
  no_mix (Frees at) k b h a z p q = no_freed at b (is_plain w past t side (Frees at) b z tt refl p) q
  no_mix (Calls i f args) k b h a z p q = no_called i f args b (is_plain w past t side (Calls i f args) b z tt refl p) q
  no_mix (CallsBack f args bytes) k b h a z p q = true≢false (sym (up_answers f args bytes k h a) ∙ frame_answers f args bytes b z p q)
  no_mix Turns k b h a z p q = true≢false (sym h)
  no_mix (Loads o at n) k b h a z p q = true≢false (sym h)
  no_mix (Stores o at bytes) k b h a z p q = true≢false (sym h)
  no_mix (Enters i f args bytes) k b h a z p q = true≢false (sym h)
  no_mix (Leaves at n) k b h a z p q = true≢false (sym h)
  no_mix (Steps i f args) k b h a z p q = true≢false (sym h)
  no_mix (Fails kind) k b h a z p q = true≢false (sym h)
  no_mix Outside k b h a z p q = true≢false (sym p)
  no_mix (Allocs n) k b h a z p q = true≢false (sym p)
  no_mix (Below f args) k b h a z p q = true≢false (sym p)
  no_mix (Gives f args) k b h a z p q = true≢false (sym p)
  no_mix (Returns f args v) k b h a z p q = true≢false (sym p)
  no_mix (UpReturns f v) k b h a z p q = true≢false (sym p)

  -- what is known of the mark of a step, where the thread and its want are given
  record Stands (want : Want) (m : Mark) : Type 0 where
    of_thread : m.thread ≡ t
    index : m.index ≡ events_by w t past
    above : m.side ≡ Replay → Allowed (rules_above (interface w) (begin w) want) (begin w) (seen past) m
    replies : is_some (reply side want m) ≡ true
    agrees : Agrees w past t side want m.act

  stands : (want : Want) (s : Picked w past) (m : Mark) → IsPick w past t side want s → IsMade w past s m → Stands want m
  stands want s m p h =
      let thread : m.thread ≡ t = h.mark.of_thread ∙ p.thread in
      record {
        of_thread = thread;
        index = h.mark.index ∙ ap (λ u. events_by w u past) thread;
        above = λ z. subst (λ v. Allowed (rules_above (interface w) (begin w) v) (begin w) (seen past) m) p.want_is (h.mark.above z);
        replies = subst (λ v. is_some (reply side v m) ≡ true) p.want_is (subst (λ d. is_some (reply d s.want m) ≡ true) p.side_is h.replies);
        agrees = subst (λ v. Agrees w past t side v m.act) p.want_is (subst (λ d. Agrees w past t d s.want m.act) p.side_is (subst (λ u. Agrees w past u s.side s.want m.act) p.thread h.agrees));
      }

  module _ (want : Want) where
    -- as an event it stands above the cut
    above_side : (m : Mark) (e : Event) → m.act ≡ Made e → Stands want m → m.side ≡ Replay
    above_side m e z h = sym (same_side_true Replay m.side (subst (λ a. same_side (side_of side a) m.side ≡ true) z (side_is side want m h.replies)))

    below_side : (m : Mark) → is_event m.act ≡ false → Stands want m → m.side ≡ side
    below_side m z h = sym (same_side_true side m.side (subst (λ d. same_side d m.side ≡ true) (plain_side side m.act z) (side_is side want m h.replies)))

    fits : (m : Mark) (e : Event) → m.act ≡ Made e → Stands want m → Allowed (rules_above (interface w) (begin w) want) (begin w) (seen past) (made_mark t (events_by w t past) e)
    fits m e z h = subst (Allowed (rules_above (interface w) (begin w) want) (begin w) (seen past)) (mark_path m (made_mark t (events_by w t past) e) h.of_thread (above_side m e z h) h.index z) (h.above (above_side m e z h))

    event_answers : (m : Mark) (e : Event) → m.act ≡ Made e → Stands want m → is_some (event_answer want e.kind) ≡ true
    unfolding answer_to
    event_answers m e z h = subst (λ a. is_some (answer_to want a) ≡ true) z (answers_to side want m h.replies)

    kind_answers : (m : Mark) (e : Event) → m.act ≡ Made e → Stands want m → EventAgrees w past t want e.kind
    kind_answers m e z h = subst (λ a. Agrees w past t side want a) z h.agrees

    mixed : (m n : Mark) → is_event m.act ≡ true → is_event n.act ≡ false → Stands want m → Stands want n → ⊥
    mixed m n x y a b =
        let e = event_in m.act x in
        no_mix want e.0.kind n.act (event_answers m e.0 e.1 a) (kind_answers m e.0 e.1 a) y (answers_to side want n b.replies) b.agrees

    act_one : (m n : Mark) (x y : Bool) → is_event m.act ≡ x → is_event n.act ≡ y → Stands want m → Stands want n → m ≡ n
    act_one m n true true x y a b =
        let e = event_in m.act x in
        let f = event_in n.act y in
        let p = fits m e.0 e.1 a in
        let q = fits n f.0 f.1 b in
        let kind : e.0.kind ≡ f.0.kind = event_one w past t (events_by w t past) want e.0 f.0 e.0.kind f.0.kind refl refl p q (event_answers m e.0 e.1 a) (event_answers n f.0 f.1 b) (kind_answers m e.0 e.1 a) (kind_answers n f.0 f.1 b) in
        let same : e.0 ≡ f.0 = one_event (interface w) want (begin w) (seen past) t (events_by w t past) e.0 f.0 kind p q in
        mark_path m n (a.of_thread ∙ sym b.of_thread) (above_side m e.0 e.1 a ∙ sym (above_side n f.0 f.1 b)) (a.index ∙ sym b.index) (e.1 ∙ (ap Made same ∙ sym f.1))
    act_one m n false false x y a b =
        mark_path m n (a.of_thread ∙ sym b.of_thread) (below_side m x a ∙ sym (below_side n y b)) (a.index ∙ sym b.index)
        (none_plain w past t side want m.act x (answers_to side want m a.replies) a.agrees n.act y (answers_to side want n b.replies) b.agrees)
    act_one m n true false x y a b = absurd (mixed m n x y a b)
    act_one m n false true x y a b = absurd (mixed n m y x b a)

pub steps_determined : (w : World) → StepsAreDetermined w
steps_determined w past m n s r a b =
    let p = one_pick w past s r in
    let q = one_pick w past r r in
    act_one w past r.thread r.side r.want m n (is_event m.act) (is_event n.act) refl refl (stands w past r.thread r.side r.want s m p a) (stands w past r.thread r.side r.want r n q b)
