-- What is known of a mark that a run makes next.
use Rattle.std.proofs.Common.{◌≡◌, inl, inr, ℕ, ◌<◌, ◌≤◌, Bool, true, false, ◌&&◌, not, eqb, List, [], ◌∷◌, length, get_or, Option, Some, None, refl, sym, ap, ◌∙◌, subst, arith, eqb-true}
use Rattle.std.specs.Prelude.{is_some}
use Rattle.std.proofs.lemmas.Bool.{and_parts, true≢false}
use Rattle.marks.specs.Marks.{Act, Fault, Mark}
use Rattle.marks.specs.Wants.{Want, Loads, Gives, Returns, Answer, Go, Value, Frame, CalledBack}
use Rattle.c_code.specs.MarkLists.{Wants, reply}
use Rattle.c_code.proofs.Sides.{replied}
use Rattle.c_machine.specs.Moves.{ThreadState}
use Rattle.replay_runs.specs.Runs.{is_fault}
use Rattle.c_builtins.specs.declared.builtin.Builtin.TheVariants.{Spawn}
use Rattle.c_builtins.specs.Table.{number_of}
use Rattle.whole_runs.specs.World.{World}
use Rattle.whole_runs.specs.Outcomes.{Outcome, act_outcome, is_start, minus_one, outcome, started}
use Rattle.whole_runs.specs.Threads.{comes}
use Rattle.whole_runs.specs.Steps.{Agrees, Picked}
use Rattle.whole_runs_seen.specs.Suits.{Suits}
use Rattle.whole_runs_seen.proofs.Answered.{LeadsOn}
use Rattle.whole_runs_seen.proofs.Entries.{IsOwn}
use Rattle.whole_runs_seen.proofs.Stopping.{answers_lead}
use Rattle.whole_runs_seen.proofs.Threads.{own_want, threads_known}
use Rattle.whole_runs_threads.proofs.Own.{numbered_so, start_none, thread_started}
use Rattle.whole_runs_threads.proofs.Suits.{answers_suit}
use Rattle.recorder_system.proofs.Noted.{none_apart}
use Rattle.recorder_threads.specs.declared.wants.Next.{Next as ToldNext}
use Rattle.recorder_threads.specs.declared.wants.Want.{Want as ToldWant}
use Rattle.recorder_threads.specs.Answers.{IsAnswered, IsCall, IsCalledBack, IsNoCall, IsPlain, IsStart}
use Rattle.recorder_threads.specs.Wants.{IsNextTold, IsTold}
use Rattle.recorder_threads.proofs.Places.{count_is}
use Rattle.recorder_state.proofs.Called.{IsCalled, called, spawn_number, spawn_takes}
use Rattle.recorder_state.proofs.Results.{go_no_ask}
use Rattle.reference_recorder_marks.specs.declared.mark.Mark.{Mark as Marked}
use Rattle.reference_recorder_marks.specs.Marks.{act_of, without_origin}
use Rattle.reference_recorder_threads.specs.declared.report.Report.{Report}
use Rattle.reference_recorder_threads.specs.declared.report.Report.TheVariants as report
use Rattle.reference_recorder_threads.specs.Telling.{IsMarkNext, IsShort, IsValueNext, StartsWith, act_report, gives_next, gives_want}
use Rattle.reference_recorder_threads.proofs.Replied.{a_call, no_call, reply_is}
use Rattle.reference_recorder_threads.proofs.Reported.{act_shows, call_crosses, give_told, has_value, is_crossing, load_told, none_comes, none_some, outcome_thread, result_is, return_told, same_outcome, same_report, same_short, short_by, Shows, some_want}

-- ---- a mark that a run makes next

module _ (w : World) (threads : List ThreadState) (k : Marked) (n : IsMarkNext w threads k) where
  abbrev m : Mark
  m = n.mark

  abbrev s : Picked w n.past
  s = n.follows.0.step

  abbrev t : ℕ
  t = k.thread

  pub of_thread : m.thread ≡ t
  of_thread = ap (λ (q : Mark). q.thread) n.same

  -- what it does, as it is told
  does : without_origin m.act ≡ act_of k.act
  does = ap (λ (q : Mark). q.act) n.same

  pub reports : (g : Bool) → act_report g m.act ≡ act_report g (act_of k.act)
  reports g = sym (same_report g m.act) ∙ ap (act_report g) does

  pub comes_to : act_outcome m.thread m.act ≡ act_outcome t (act_of k.act)
  comes_to = sym (same_outcome m.thread m.act) ∙ (λ i. act_outcome (of_thread i) (does i))

  pub below : t < length threads
  below =
      let lt = thread_started w n.fit.code n.past m n.follows in
      let many = count_is w n.past threads n.stand in
      omega (arith, lt, many, of_thread)

  answered : (o : Option Answer) → reply s.side s.want m ≡ o → is_some o ≡ true → (x : Answer) × (reply s.side s.want m ≡ Some x)
  answered (Some x) e z = (x, e)
  answered None e z = absurd (true≢false (sym z))

  pub answer : (x : Answer) × (reply s.side s.want m ≡ Some x)
  answer = answered (reply s.side s.want m) refl n.follows.0.made.replies

  no_fault : (a : Act) → Agrees w n.past s.thread s.side s.want a → is_fault a ≡ 0
  no_fault (Fault kind c ins outs at) h = absurd h
  no_fault a h = refl

  pub none : is_fault m.act ≡ 0
  none = no_fault m.act n.follows.0.made.agrees

  -- what its thread's code wanted
  comes_so : comes w n.past t ≡ Wants s.side s.want s.to
  comes_so = ap (comes w n.past) (sym of_thread ∙ n.follows.0.made.mark.of_thread) ∙ s.comes_is

  module _ (args : List ℕ) (said : ToldNext) (is : IsNextTold w.laid args said (comes w n.past t)) where
    wanted : (q : ToldWant) × (IsTold w.laid args q s.want) × (gives_next said ≡ gives_want q)
    wanted = some_want w.laid args said s.side s.want s.to (subst (IsNextTold w.laid args said) comes_so is)

    few : (o : Option ℕ) (at j : ℕ) → s.want ≡ Loads o at j → j ≤ 8
    few o at j e = load_told w.laid args wanted.0 o at j (subst (IsTold w.laid args wanted.0) e wanted.1)

    yes : (f : ℕ) (bs : List ℕ) → s.want ≡ Gives f bs → gives_next said ≡ true
    yes f bs e = wanted.2 ∙ give_told w.laid args wanted.0 f bs (subst (IsTold w.laid args wanted.0) e wanted.1)

    no : (f : ℕ) (bs : List ℕ) (v : ℕ) → s.want ≡ Returns f bs v → gives_next said ≡ false
    no f bs v e = wanted.2 ∙ return_told w.laid args wanted.0 f bs v (subst (IsTold w.laid args wanted.0) e wanted.1)

    own : IsOwn w.laid s.side s.want
    own = own_want w n.fit.code n.past (threads_known w n.fit.code n.past n.follows.1) s

    -- so many bytes can be told
    pub short : IsShort (act_of k.act)
    short = subst IsShort does (same_short m.act (short_by s.want m.act answer.0 few none (replied s.side s.want m answer.0 answer.1).1))

    pub shows : (r : Report) → r ≡ act_report (gives_next said) (act_of k.act) → Shows r answer.0
    shows r e =
        subst (λ (q : Report). Shows q answer.0) (reports (gives_next said) ∙ sym e)
        (subst (Shows (act_report (gives_next said) m.act)) (sym (reply_is s.side s.want m answer.0 none answer.1))
        (act_shows w.laid s.side s.want (gives_next said) own yes no m.act answer.0 (replied s.side s.want m answer.0 answer.1).1))

    pub no_crossing : (r : Report) → r ≡ act_report (gives_next said) (act_of k.act) → is_crossing r ≡ false → IsNoCall s.want
    no_crossing r e h = no_call s.side s.want m answer.0 none (call_crosses (gives_next said) m.act ∙ (ap is_crossing (reports (gives_next said) ∙ sym e) ∙ h)) answer.1

    pub no_value : (r : Report) → r ≡ act_report (gives_next said) (act_of k.act) → has_value r ≡ false → started (m ∷ n.past) ≡ started n.past
    no_value r e h = start_none n.past m (λ o z. absurd (none_some o (sym (none_comes (gives_next said) m.thread m.act (ap has_value (reports (gives_next said) ∙ sym e) ∙ h)) ∙ z)))

    abbrev pub told_answer : (On : Want → Type 0) (x : Answer) → On s.want → answer.0 ≡ x → IsAnswered w.laid threads t On x
    told_answer On x on e = record {
      world = w;
      laid = refl;
      fit = n.fit;
      past = n.past;
      stand = n.stand;
      mark = m;
      of_thread = of_thread;
      follows = n.follows;
      wanted = on;
      answers = answer.1 ∙ ap Some e;
    }

    -- no step is a fault
    pub nothing : report.Nothing ≡ act_report (gives_next said) (act_of k.act) → ⊥
    nothing e = subst LeadsOn (shows report.Nothing e) (answers_lead s.side s.want m answer.0 none answer.1)

    abbrev pub frames : (at : ℕ) → report.Frame at ≡ act_report (gives_next said) (act_of k.act) → IsPlain w.laid threads t IsNoCall (Frame at)
    frames at e = record {
      next = told_answer IsNoCall (Frame at) (no_crossing (report.Frame at) e refl) (shows (report.Frame at) e);
      alone = no_value (report.Frame at) e refl;
    }

    abbrev pub crosses : report.Crosses ≡ act_report (gives_next said) (act_of k.act) → IsPlain w.laid threads t IsCall Go
    crosses e = record {
      next = told_answer IsCall Go (a_call s.side s.want m answer.0 (call_crosses (gives_next said) m.act ∙ ap is_crossing (reports (gives_next said) ∙ sym e)) answer.1) (shows report.Crosses e);
      alone = no_value report.Crosses e refl;
    }

    abbrev pub ups : report.Up ≡ act_report (gives_next said) (act_of k.act) → IsCalledBack w.laid threads t
    ups e = let x = shows report.Up e in record {
      func = x.0;
      args = x.1;
      plain = record {
        next = told_answer IsNoCall (CalledBack x.0 x.1) (no_crossing report.Up e refl) x.2;
        alone = no_value report.Up e refl;
      };
    }

    -- a call of a function with a body starts no thread
    pub body_starts_none : answer.0 ≡ Go → (o : Outcome) → act_outcome m.thread m.act ≡ Some o → is_start o ≡ false
    body_starts_none e o is =
        let here : m.thread ≡ s.thread = n.follows.0.made.mark.of_thread in
        let comes_here : act_outcome s.thread m.act ≡ Some o = subst (λ u. act_outcome u m.act ≡ Some o) here is in
        let by_thread : o.thread ≡ s.thread = outcome_thread s.thread m.act o comes_here in
        let c : IsCalled w n.fit n.past n.follows.1 s o.func o.args o.result =
        called w n.fit n.past n.follows.1 s o.func o.args o.result m n.follows.0.made (comes_here ∙ ap (λ u. Some (outcome u o.func o.args o.result)) by_thread) in
        elim c.asked_or_body [
          | inl z ↦ absurd (go_no_ask w.laid s.want _ z (subst (Suits w.laid s.want) e (answers_suit w n.fit n.past n.follows.1 s m n.follows.0.made answer.0 answer.1)))
          | inr z ↦ ap (λ b. b && not (eqb o.result minus_one)) (none_apart o.func (number_of Spawn) Spawn z refl)
        ]

    abbrev pub goes : report.Go ≡ act_report (gives_next said) (act_of k.act) → IsPlain w.laid threads t IsNoCall Go
    goes e = record {
      next = told_answer IsNoCall Go (no_crossing report.Go e refl) (shows report.Go e);
      alone = start_none n.past m (body_starts_none (shows report.Go e));
    }

    abbrev pub values : (v : ℕ) → report.Value v ≡ act_report (gives_next said) (act_of k.act) → IsValueNext w threads k v
    values v e = record {
      next = n;
      no_call = no_crossing (report.Value v) e refl;
      answers = answer.1 ∙ ap Some (shows (report.Value v) e);
    }

-- ---- a mark that gives a value

module _ (w : World) (threads : List ThreadState) (k : Marked) (v : ℕ) (h : IsValueNext w threads k v) where
  abbrev q : IsMarkNext w threads k
  q = h.next

  abbrev r : Picked w q.past
  r = q.follows.0.step

  abbrev pub given_answer : (x : Answer) → Value v ≡ x → IsAnswered w.laid threads k.thread IsNoCall x
  given_answer x e = record {
    world = w;
    laid = refl;
    fit = q.fit;
    past = q.past;
    stand = q.stand;
    mark = q.mark;
    of_thread = of_thread w threads k q;
    follows = q.follows;
    wanted = h.no_call;
    answers = h.answers ∙ ap Some e;
  }

  -- of the thread that makes it
  here : (o : Outcome) → act_outcome q.mark.thread q.mark.act ≡ Some o → IsCalled w q.fit q.past q.follows.1 r o.func o.args o.result
  here o is =
      let there : act_outcome r.thread q.mark.act ≡ Some o = subst (λ u. act_outcome u q.mark.act ≡ Some o) q.follows.0.made.mark.of_thread is in
      let by_thread : o.thread ≡ r.thread = outcome_thread r.thread q.mark.act o there in
      called w q.fit q.past q.follows.1 r o.func o.args o.result q.mark q.follows.0.made (there ∙ ap (λ u. Some (outcome u o.func o.args o.result)) by_thread)

  -- `r2_spawn` has two arguments
  pub takes_two : (o : Outcome) → act_outcome q.mark.thread q.mark.act ≡ Some o → is_start o ≡ true → o.args ≡ get_or o.args 0 0 ∷ get_or o.args 1 0 ∷ []
  takes_two o is starts =
      let p = and_parts (eqb o.func spawn_number) (not (eqb o.result minus_one)) starts in
      spawn_takes w.laid q.fit.code.valid o.func o.args (eqb-true o.func spawn_number p.0) (here o is).values

  abbrev pub starts_one : (address argument : ℕ) → StartsWith (act_outcome k.thread (act_of k.act)) address argument → IsStart w.laid threads k.thread address argument
  starts_one address argument z =
      let comes_is : act_outcome q.mark.thread q.mark.act ≡ Some z.outcome = comes_to w threads k q ∙ z.is in
      let value : z.outcome.result ≡ v = result_is r.want q.mark.thread q.mark.act z.outcome v comes_is (reply_is r.side r.want q.mark (Value v) (none w threads k q) h.answers) in
      let number : v ≡ length threads = sym value ∙ (numbered_so w q.fit.code q.past q.mark q.follows z.outcome comes_is z.starts ∙ sym (count_is w q.past threads q.stand)) in
      record {
        next = given_answer (Value (length threads)) (ap Value number);
        outcome = z.outcome;
        comes = comes_is;
        starts = z.starts;
        with_args = z.args;
      }

  pub starts_none : ((address argument : ℕ) → ¬ StartsWith (act_outcome k.thread (act_of k.act)) address argument) → (o : Outcome) → act_outcome q.mark.thread q.mark.act ≡ Some o → is_start o ≡ false
  starts_none no o is = by (is_start o) refl
    where
      by : (b : Bool) → is_start o ≡ b → is_start o ≡ false
      by false e = e
      by true e = absurd (no (get_or o.args 0 0) (get_or o.args 1 0) (record { outcome = o; is = sym (comes_to w threads k q) ∙ is; starts = e; args = takes_two o is e }))

  abbrev pub gives_plainly : ((address argument : ℕ) → ¬ StartsWith (act_outcome k.thread (act_of k.act)) address argument) → IsPlain w.laid threads k.thread IsNoCall (Value v)
  gives_plainly no = record { next = given_answer (Value v) refl; alone = start_none q.past q.mark (starts_none no) }
