-- What a mark makes run was reached by its thread, so that it may run there.
use Rattle.std.proofs.Common.{◌≡◌, ℕ, Bool, true, ◌&&◌, eqb, List, Some, refl, sym, ap, ◌∙◌, subst, eqb-true}
use Rattle.std.specs.Prelude.{not, ◌<◌, reverse}
use Rattle.std.proofs.lemmas.Bool.{and_parts}
use Rattle.marks.specs.declared.side.Side.{Side}
use Rattle.marks.specs.declared.side.Side.TheVariants.{Replay, System}
use Rattle.marks.specs.declared.range.Range.{Range}
use Rattle.marks.specs.Ranges.{Piece, Prepared}
use Rattle.marks.specs.Marks.{EventKind, Call, Ret, Up, UpRet, Alloc, Free, Stop, Act, Turn, Load, Store, Enter, Leave, Step, Fault, Made, Mark, side_of}
use Rattle.marks.specs.Wants.{Want, Outside, Enters, Frees, Calls, Below, CallsBack, Steps, Answer, Go, Value, Frame, CalledBack, answer_to, event_answer, same_numbers}
use Rattle.c_code.specs.Machine.{Laid}
use Rattle.c_code.proofs.Sides.{answered, replied}
use Rattle.c_semantics.specs.Context.{Source}
use Rattle.replay_runs.specs.Runs.{In}
use Rattle.cut_graph_rules.specs.Findings.{Cut, May}
use Rattle.cut_graph_reached.specs.Reached.{Reach, called, called_below, entered, reach, reached, stepped}
use Rattle.cut_graph_reached.specs.Answers.{IsAnswered}
use Rattle.whole_runs.specs.World.{World}
use Rattle.whole_runs.specs.Sides.{own}
use Rattle.whole_runs.specs.Outcomes.{started}
use Rattle.whole_runs_seen.proofs.Entries.{IsOwn}
use Rattle.whole_runs_seen.proofs.Threads.{AreThreads}
use Rattle.whole_runs_cuts.specs.Laws.{ThreadKeeps, event_runs, is_step, runs, thread_of}
use Rattle.whole_runs_cuts.proofs.Apart.{never_both}
use Rattle.whole_runs_cuts.proofs.Marks.{answering, is_started, own_wanted}

module _ (l : Laid) (side : Side) where
  by_frame : (want : Want) (f : ℕ) (args : List ℕ) (at : ℕ) (b : List ℕ) (x : Answer) (r : Reach) → IsOwn l side want → answer_to want (Enter f args at b) ≡ Some x → reach side f ≡ Some r → reached side want x ≡ Some r
  unfolding answer_to
  by_frame (Enters i g bs bytes) f args at b x r own e h =
      let z = answered (eqb f g && (same_numbers args bs && same_numbers b bytes)) (Frame at) x e in
      let func : f ≡ g = eqb-true f g (and_parts (eqb f g) (same_numbers args bs && same_numbers b bytes) z.0).0 in
      ap (entered side g) (sym z.1) ∙ (ap (reach side) (sym func) ∙ h)
  by_frame (CallsBack g bs bytes) f args at b x r own e h =
      let z = answered (eqb f g && (same_numbers args bs && same_numbers b bytes)) (Frame at) x e in
      let func : f ≡ g = eqb-true f g (and_parts (eqb f g) (same_numbers args bs && same_numbers b bytes) z.0).0 in
      ap (called_below g) (sym z.1) ∙ (ap (λ (d : Side). reach d g) (sym own) ∙ (ap (reach side) (sym func) ∙ h))
  by_frame (Frees k) f args at b x r own e h = absurd (never_both (not (eqb k 0)) x e)
  by_frame want f args at b x r own e h = absurd cc

  by_value : (want : Want) (f : ℕ) (args : List ℕ) (v : ℕ) (ins pieces : List Piece) (freed : List Range) (x : Answer) (r : Reach) → answer_to want (Step f args v ins pieces freed) ≡ Some x → reach side f ≡ Some r → reached side want x ≡ Some r
  unfolding answer_to
  by_value (Steps i g bs) f args v ins pieces freed x r e h =
      let z = answered (eqb f g && same_numbers args bs) (Value v) x e in
      let func : f ≡ g = eqb-true f g (and_parts (eqb f g) (same_numbers args bs) z.0).0 in
      ap (stepped side g) (sym z.1) ∙ (ap (reach side) (sym func) ∙ h)
  by_value (Frees at) f args v ins pieces freed x r e h = absurd (never_both (not (eqb at 0)) x e)
  by_value want f args v ins pieces freed x r e h = absurd cc

  call_event : (want : Want) (f : ℕ) (args : List ℕ) (ins : List Piece) (outs : List Range) (prepared : List Prepared) (x : Answer) (r : Reach) → event_answer want (Call f args ins outs prepared) ≡ Some x → reach System f ≡ Some r → reached side want x ≡ Some r
  call_event (Calls i g bs) f args ins outs prepared x r e h =
      let z = answered (eqb f g && same_numbers args bs) Go x e in
      let func : f ≡ g = eqb-true f g (and_parts (eqb f g) (same_numbers args bs) z.0).0 in
      ap (called g) (sym z.1) ∙ (ap (reach System) (sym func) ∙ h)
  call_event want f args ins outs prepared x r e h = absurd cc

  up_event : (want : Want) (f : ℕ) (args : List ℕ) (x : Answer) (r : Reach) → IsOwn l side want → event_answer want (Up f args) ≡ Some x → reach Replay f ≡ Some r → reached side want x ≡ Some r
  up_event (CallsBack g bs bytes) f args x r own e h =
      let z = answered (eqb f g && same_numbers args bs) (CalledBack g bs) x e in
      let func : f ≡ g = eqb-true f g (and_parts (eqb f g) (same_numbers args bs) z.0).0 in
      ap (called_below g) (sym z.1) ∙ (ap (reach Replay) (sym func) ∙ h)
  up_event Outside f args x r own e h = absurd own
  up_event (Below g bs) f args x r own e h = absurd own
  up_event want f args x r own e h = absurd cc

  by_event : (want : Want) (k : EventKind) (x : Answer) (r : Reach) → IsOwn l side want → event_answer want k ≡ Some x → event_runs k ≡ Some r → reached side want x ≡ Some r
  by_event want (Call f args ins outs prepared) x r own e h = call_event want f args ins outs prepared x r e h
  by_event want (Up f args) x r own e h = up_event want f args x r own e h
  by_event want (Ret f args v same outs commit) x r own e h = absurd cc
  by_event want (UpRet f v) x r own e h = absurd cc
  by_event want (Alloc at size) x r own e h = absurd cc
  by_event want (Free at size) x r own e h = absurd cc
  by_event want (Stop fault) x r own e h = absurd cc

  -- what the mark makes run is what its thread reaches
  by_mark : (want : Want) (a : Act) (x : Answer) (r : Reach) → IsOwn l side want → answer_to want a ≡ Some x → runs (side_of side a) a ≡ Some r → reached side want x ≡ Some r
  unfolding answer_to
  by_mark want (Enter f args at b) x r own e h = by_frame want f args at b x r own e h
  by_mark want (Step f args v ins pieces freed) x r own e h = by_value want f args v ins pieces freed x r e h
  by_mark want (Made ev) x r own e h = by_event want ev.kind x r own e h
  by_mark want Turn x r own e h = absurd cc
  by_mark want (Load o at bytes) x r own e h = absurd cc
  by_mark want (Store o at bytes) x r own e h = absurd cc
  by_mark want (Leave at size) x r own e h = absurd cc
  by_mark want (Fault kind crosses ins outs access) x r own e h = absurd cc

-- ---- a step

record IsStepOf (want : Want) (x : Answer) : Type 0 where
  pub indirect : Bool
  pub func : ℕ
  pub args : List ℕ
  pub value : ℕ
  pub wanted : want ≡ Steps indirect func args
  pub gives : x ≡ Value value

step_of : (want : Want) (f : ℕ) (args : List ℕ) (v : ℕ) (ins pieces : List Piece) (freed : List Range) (x : Answer) → answer_to want (Step f args v ins pieces freed) ≡ Some x → IsStepOf want x
unfolding answer_to
step_of (Steps i g bs) f args v ins pieces freed x e = record { indirect = i; func = g; args = bs; value = v; wanted = refl; gives = sym (answered (eqb f g && same_numbers args bs) (Value v) x e).1 }
step_of (Frees at) f args v ins pieces freed x e = absurd (never_both (not (eqb at 0)) x e)
step_of want f args v ins pieces freed x e = absurd cc

a_step : (want : Want) (a : Act) (x : Answer) → is_step a ≡ true → answer_to want a ≡ Some x → IsStepOf want x
a_step want (Step f args v ins pieces freed) x h e = step_of want f args v ins pieces freed x e
a_step want Turn x h e = absurd cc
a_step want (Load o at bytes) x h e = absurd cc
a_step want (Store o at bytes) x h e = absurd cc
a_step want (Enter f args at b) x h e = absurd cc
a_step want (Leave at size) x h e = absurd cc
a_step want (Fault kind crosses ins outs access) x h e = absurd cc
a_step want (Made ev) x h e = absurd cc

-- it stands on the side of the code that wants it
step_side : (side : Side) (a : Act) → is_step a ≡ true → side_of side a ≡ side
step_side side (Step f args v ins pieces freed) h = refl
step_side side Turn h = absurd cc
step_side side (Load o at bytes) h = absurd cc
step_side side (Store o at bytes) h = absurd cc
step_side side (Enter f args at b) h = absurd cc
step_side side (Leave at size) h = absurd cc
step_side side (Fault kind crosses ins outs access) h = absurd cc
step_side side (Made ev) h = absurd cc

-- ---- all marks

module _ (s : Source) (c : Cut) (w : World) (past : List Mark) (known : AreThreads w past) (keeps : (t : ℕ) → t < started past → ThreadKeeps s c w past t) where
  pub ran : (m : Mark) (r : Reach) → In m past → runs m.side m.act ≡ Some r → May c r.side r.func
  ran m r i h =
      let z = answering w past known m i in
      let k = keeps m.thread (is_started w past known m i) in
      let is = replied z.side z.want m z.answer z.replies in
      let there : reached z.side z.want z.answer ≡ Some r = by_mark w.laid z.side z.want m.act z.answer r (own_wanted w past known m i) is.1 (ap (λ (d : Side). runs d m.act) (sym is.0) ∙ h) in
      k.within.reaches (reverse (own w m.thread past)) k.kept r (record { side = z.side; want = z.want; answer = z.answer; answered = z.answered; reaches = there })

  pub stepped_below : (m : Mark) → In m past → is_step m.act ≡ true → m.side ≡ System
  stepped_below m i h = by m.side refl
    where
      by : (d : Side) → m.side ≡ d → d ≡ System
      by System e = refl
      by Replay e =
          let z = answering w past known m i in
          let k = keeps m.thread (is_started w past known m i) in
          let is = replied z.side z.want m z.answer z.replies in
          let q = a_step z.want m.act z.answer h is.1 in
          let above : z.side ≡ Replay = sym (step_side z.side m.act h) ∙ (sym is.0 ∙ e) in
          let met = subst (λ (x : Answer). IsAnswered (thread_of w past m.thread) (reverse (own w m.thread past)) Replay (Steps q.indirect q.func q.args) x) q.gives
          (subst (λ (v : Want). IsAnswered (thread_of w past m.thread) (reverse (own w m.thread past)) Replay v z.answer) q.wanted
          (subst (λ (d : Side). IsAnswered (thread_of w past m.thread) (reverse (own w m.thread past)) d z.want z.answer) above z.answered)) in
          absurd (k.within.steps (reverse (own w m.thread past)) k.kept q.indirect q.func q.args q.value met)
