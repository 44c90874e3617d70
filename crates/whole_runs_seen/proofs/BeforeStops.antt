-- What is known of a run before its Stops, the fault that ends it with it.
use Rattle.std.proofs.Common.{◌≡◌, ◌≢◌, ℕ, zero, suc, ◌<◌, ◌≤◌, Bool, true, false, cond, ◌&&◌, eqb, List, [], ◌∷◌, ◌++◌, length, Some, None, refl, sym, ap, ◌∙◌, subst, arith, eqb-true}
use Rattle.std.specs.Prelude.{reverse, filter, find}
use Rattle.std.specs.List.{cons_option}
use Rattle.std.proofs.lemmas.List.{reverse-append}
use Rattle.marks.specs.Places.{thread_count}
use Rattle.marks.specs.declared.side.Side.TheVariants.{Replay}
use Rattle.marks.specs.declared.fault.FaultKind.{FaultKind}
use Rattle.marks.specs.Marks.{Act, Turn, Load, Store, Enter, Leave, Step, Fault, Made, Mark, is_event}
use Rattle.marks.specs.Opens.{is_stop, tail}
use Rattle.c_code.specs.Machine.{Starting, callee, first}
use Rattle.c_code.specs.MarkLists.{Split, Next, Quiet, Wants, Ends, No, same_side, follow, follow_to, Open, Wrong, at_end, lists, step, settled, moved, move, state}
use Rattle.c_code.specs.Valid.{start_sig}
use Rattle.c_code.specs.Typed.{StartsWell}
use Rattle.c_code.proofs.Prefixes.{state_settled}
use Rattle.replay_runs.specs.Runs.{Start, Link, OfThread, OfKey, is_listed, keys_of, has, marks_of, events_with, is_fault, Run}
use Rattle.replay_runs.specs.Interface.{Program}
use Rattle.replay_runs.specs.Threads.{act_fault, is_stopped}
use Rattle.replay_runs.specs.Rules.{replay_rules}
use Rattle.replay_runs.specs.Checks.{FaultFound}
use Rattle.replay_runs.specs.Laws.{IsReplayRun}
use Rattle.replay_runs.proofs.Race.{race_free_more}
use Rattle.whole_runs.specs.declared.ending.Ending.{Ending}
use Rattle.whole_runs.specs.World.{World, begin, program_of}
use Rattle.whole_runs.specs.Sides.{seen, own}
use Rattle.whole_runs.specs.Outcomes.{Outcome, act_outcome, outcomes, is_start, started, args_of, started_with}
use Rattle.whole_runs.specs.Threads.{beginning, comes}
use Rattle.whole_runs.specs.Steps.{Picked, IsFault}
use Rattle.whole_runs.specs.Ends.{Follows, IsFound, IsLast, done, budget, blocked, fault, breach, script, events, full}
use Rattle.whole_runs.specs.Fits.{IsFit}
use Rattle.whole_runs_laws.proofs.OneStep.{same_side_true}
use Rattle.whole_runs_laws.proofs.FaultsAbove.{running, events_seen}
use Rattle.whole_runs_seen.specs.Suits.{IsHere}
use Rattle.whole_runs_seen.proofs.Answered.{said_on, said_all}
use Rattle.whole_runs_seen.proofs.Threads.{AreThreads, threads_known, func_at, args_at, picked_started}
use Rattle.whole_runs_seen.proofs.Calm.{calm_run}
use Rattle.whole_runs_seen.proofs.Faults.{fault_allowed, fault_unraced}

-- what is known of it
pub record IsBeforeStops (w : World) (run : List Mark) : Type 0 where
  pub few : started run ≤ thread_count
  pub well : (t : ℕ) → t < started run → StartsWell w.laid (func_at w run t) (args_at w run t)
  pub silent : (t : ℕ) → started run ≤ t → own w t run ≡ []
  pub right : (t : ℕ) → t < started run → IsHere (comes w run t) → lists Split (reverse (own w t run)) w.laid (beginning w run t) ≢ Wrong
  pub running : (t : ℕ) → is_stopped (marks_of (begin w) t (seen run)) ≡ false
  pub events : (link : Link) → events_with (begin w) link run ≡ events_with (begin w) link (seen run)
  pub disciplined : IsReplayRun (program_of w) (begin w) (seen run)

-- what is there is right
right_end : (n : Next) → IsHere n → at_end n ≢ Wrong
right_end (Wants side want to) h = λ e. cc
right_end (Quiet c) h = absurd h
right_end (Ends v) h = λ e. cc
right_end No h = absurd h

-- the mark of a fault is no event, and no call comes to its result by it
record IsPlainFault (a : Act) : Type 0 where
  no_event : is_event a ≡ false
  no_stop : is_stop a ≡ false
  no_keys : keys_of a ≡ []
  no_outcome : (t : ℕ) → act_outcome t a ≡ None
  one : is_fault a ≡ 1

plain_fault : (a : Act) (kind : FaultKind) → act_fault a None ≡ Some kind → IsPlainFault a
plain_fault (Fault k c ins outs at) kind e = record { no_event = refl; no_stop = refl; no_keys = refl; no_outcome = λ t. refl; one = refl }
plain_fault Turn kind e = absurd cc
plain_fault (Load o at bytes) kind e = absurd cc
plain_fault (Store o at bytes) kind e = absurd cc
plain_fault (Enter f args at bytes) kind e = absurd cc
plain_fault (Leave at size) kind e = absurd cc
plain_fault (Step f args v ins pieces freed) kind e = absurd cc
plain_fault (Made ev) kind e = absurd cc

no_links : (m : Mark) → IsPlainFault m.act → (link : Link) → has m link ≡ false
no_links m plain (OfThread u) = ap (λ b. b && eqb m.thread u) plain.no_event
no_links m plain (OfKey k) = ap (λ ks. is_listed ks k) plain.no_keys

module _ (w : World) (fit : IsFit w) (past : List Mark) (follows : Follows w past) where
  abbrev p : Program
  p = program_of w

  abbrev st : Start
  st = begin w

  known : AreThreads w past
  known = threads_known w fit.code past follows

  right_past : (t : ℕ) → t < started past → IsHere (comes w past t) → lists Split (reverse (own w t past)) w.laid (beginning w past t) ≢ Wrong
  right_past t lt here =
      subst (λ v. v ≢ Wrong) (sym (said_all Split w.laid (beginning w past t) (own w t past) (known.go_on t lt))) (right_end (comes w past t) here)

  disciplined_past : IsReplayRun p st (seen past)
  disciplined_past =
      let calm = calm_run w fit past follows in
      let none = calm.no_fault in
      record { steps = calm.steps; race_free = calm.race_free; one_fault = omega (arith, none) }

  -- after steps alone
  pub after_steps : IsBeforeStops w past
  after_steps = record {
    few = known.few;
    well = known.well;
    silent = known.silent;
    right = right_past;
    running = λ t. (running w past follows t).0;
    events = events_seen w past follows;
    disciplined = disciplined_past;
  }

  -- ---- a fault after them

  module _ (s : Picked w past) (kind : FaultKind) (found : IsFound w past s (FaultFound kind)) (m : Mark) (h : IsFault w past s kind m) where
    abbrev now : List Mark
    now = m ∷ past

    plain : IsPlainFault m.act
    plain = plain_fault m.act kind h.kind_is

    same_outcomes : outcomes now ≡ outcomes past
    same_outcomes = ap (λ o. cons_option o (outcomes past)) (plain.no_outcome m.thread)

    pub same_started : started now ≡ started past
    same_started = ap (λ os. suc (length (filter is_start os))) same_outcomes

    same_with : (t : ℕ) → started_with t now ≡ started_with t past
    same_with t = ap (λ os. args_of (find (λ (o : Outcome). is_start o && eqb o.result t) os)) same_outcomes

    pub same_beginning : (t : ℕ) → beginning w now t ≡ beginning w past t
    same_beginning zero = refl
    same_beginning (suc t) = ap (λ xs. Starting (callee w.laid start_sig (first xs)) (tail xs)) (same_with (suc t))

    well_now : (t : ℕ) → t < started now → StartsWell w.laid (func_at w now t) (args_at w now t)
    well_now zero lt = known.well zero (omega arith)
    well_now (suc t) lt = subst (λ xs. StartsWell w.laid (callee w.laid start_sig (first xs)) (tail xs)) (sym (same_with (suc t))) (let e = same_started in known.well (suc t) (omega (arith, lt, e)))

    -- the list of the thread's marks ends with it
    right_fault : lists Split (reverse (m ∷ own w s.thread past)) w.laid (beginning w past s.thread) ≢ Wrong
    right_fault wrong =
        let c = beginning w past s.thread in
        let mine = own w s.thread past in
        let at_mark = ap (λ ms. lists Split ms w.laid c) (reverse-append (m ∷ []) mine) ∙ said_on Split w.laid c mine (m ∷ []) (known.go_on s.thread (picked_started w fit.code past known s)) in
        let steps_to = ap (λ d. follow (step Split w.laid d) m (lists Split [] w.laid) Open) (state_settled Split w.laid c mine) ∙ ap (λ n. follow n m (lists Split [] w.laid) Open) s.comes_is in
        let stopped : lists Split (reverse (m ∷ mine)) w.laid c ≡ Open = at_mark ∙ (steps_to ∙ ap (λ o. follow_to o s.to (lists Split [] w.laid) Open) h.stops) in
        let z : Open ≡ Wrong = sym stopped ∙ wrong in
        absurd cc

    right_now : (t : ℕ) → t < started now → IsHere (comes w now t) → lists Split (reverse (own w t now)) w.laid (beginning w now t) ≢ Wrong
    right_now t lt here =
        subst (λ c. lists Split (reverse (own w t now)) w.laid c ≢ Wrong) (sym (same_beginning t))
        (go (eqb m.thread t) refl (subst (λ c. IsHere (step Split w.laid (state Split w.laid c (own w t now)))) (same_beginning t) here))
      where
        before : t < started past
        before = let e = same_started in omega (arith, lt, e)

        go : (b : Bool) → eqb m.thread t ≡ b → IsHere (step Split w.laid (state Split w.laid (beginning w past t) (cond b (m ∷ own w t past) (own w t past)))) →
            lists Split (reverse (cond b (m ∷ own w t past) (own w t past))) w.laid (beginning w past t) ≢ Wrong
        go false e z = right_past t before z
        go true e z =
            let same : s.thread ≡ t = sym h.mark.of_thread ∙ eqb-true m.thread t e in
            subst (λ u. lists Split (reverse (m ∷ own w u past)) w.laid (beginning w past u) ≢ Wrong) same right_fault

    silent_now : (t : ℕ) → started now ≤ t → own w t now ≡ []
    silent_now t le = go (eqb m.thread t) refl
      where
        go : (b : Bool) → eqb m.thread t ≡ b → cond b (m ∷ own w t past) (own w t past) ≡ []
        go true e =
            let same = sym h.mark.of_thread ∙ eqb-true m.thread t e in
            let lt = picked_started w fit.code past known s in
            let all = same_started in
            absurd (omega (arith, le, same, lt, all))
        go false e = known.silent t (let all = same_started in omega (arith, le, all))

    -- it leaves its thread where it is
    pub same_state : state Split w.laid (beginning w past s.thread) (m ∷ own w s.thread past) ≡ state Split w.laid (beginning w past s.thread) (own w s.thread past)
    same_state =
        let c = beginning w past s.thread in
        let mine = own w s.thread past in
        let stays = ap (λ n. move n m (state Split w.laid c mine)) s.comes_is ∙ ap (λ o. moved o s.to (state Split w.laid c mine)) h.stops in
        ap (settled w.laid) stays ∙ state_settled Split w.laid c mine

    here_now : ((t : ℕ) → t < started past → IsHere (comes w past t)) → (t : ℕ) → t < started now → IsHere (comes w now t)
    here_now each t lt = subst (λ c. IsHere (step Split w.laid (state Split w.laid c (own w t now)))) (sym (same_beginning t)) (go (eqb m.thread t) refl)
      where
        before : t < started past
        before = let e = same_started in omega (arith, lt, e)

        go : (b : Bool) → eqb m.thread t ≡ b → IsHere (step Split w.laid (state Split w.laid (beginning w past t) (cond b (m ∷ own w t past) (own w t past))))
        go false e = each t before
        go true e =
            let same : s.thread ≡ t = sym h.mark.of_thread ∙ eqb-true m.thread t e in
            subst (λ u. IsHere (step Split w.laid (state Split w.laid (beginning w past u) (m ∷ own w u past)))) same
            (subst (λ d. IsHere (step Split w.laid d)) (sym same_state) (each s.thread (picked_started w fit.code past known s)))

    running_now : (t : ℕ) → is_stopped (marks_of st t (seen now)) ≡ false
    running_now t = go (same_side m.side Replay)
      where
        before : is_stopped (marks_of st t (seen past)) ≡ false
        before = (running w past follows t).0

        by_thread : (c : Bool) → is_stopped (cond c (m ∷ marks_of st t (seen past)) (marks_of st t (seen past))) ≡ false
        by_thread true = plain.no_stop
        by_thread false = before

        go : (b : Bool) → is_stopped (marks_of st t (cond b (m ∷ seen past) (seen past))) ≡ false
        go true = by_thread (eqb m.thread t)
        go false = before

    events_now : (link : Link) → events_with st link now ≡ events_with st link (seen now)
    events_now link = go (same_side m.side Replay)
      where
        rest : events_with st link past ≡ events_with st link (seen past)
        rest = events_seen w past follows link

        go : (b : Bool) → events_with st link now ≡ events_with st link (cond b (m ∷ seen past) (seen past))
        go true = ap (λ es. cond (has m link) (m ∷ es) es) rest
        go false = ap (λ b. cond b (m ∷ events_with st link past) (events_with st link past)) (no_links m plain link) ∙ rest

    disciplined_now : IsReplayRun p st (seen now)
    disciplined_now = go (same_side m.side Replay) refl
      where
        more : m.side ≡ Replay → IsReplayRun p st (m ∷ seen past)
        more above =
            let before = disciplined_past in
            let none = (calm_run w fit past follows).no_fault in
            let one = plain.one in
            let steps : Run (replay_rules p st) st (m ∷ seen past) = (fault_allowed w fit past follows s kind found m h above, before.steps) in
            record {
              steps = steps;
              race_free = race_free_more (replay_rules p st) st (seen past) m steps before.race_free (fault_unraced w fit past follows s kind found m h above);
              one_fault = omega (arith, none, one);
            }

        go : (b : Bool) → same_side m.side Replay ≡ b → IsReplayRun p st (cond b (m ∷ seen past) (seen past))
        go true e = more (same_side_true m.side Replay e)
        go false e = disciplined_past

    pub after_fault : IsBeforeStops w now
    after_fault = record {
      few = let k = known.few in let e = same_started in omega (arith, k, e);
      well = well_now;
      silent = silent_now;
      right = right_now;
      running = running_now;
      events = events_now;
      disciplined = disciplined_now;
    }

  -- however the steps end
  pub after_last : (last : List Mark) (e : Ending) → IsLast w past last e → IsBeforeStops w (last ++ past)
  after_last last e (done a) = after_steps
  after_last last e (budget a b) = after_steps
  after_last last e (blocked a b) = after_steps
  after_last last e (fault {m = m} kind s found h) = after_fault s kind found m h
  after_last last e (breach kind x other s found) = after_steps
  after_last last e (script s passes lacks) = after_steps
  after_last last e (events m s made many) = after_steps
  after_last last e (full m s made room many) = after_steps

  -- and no thread is lost by its end
  pub here_last : ((t : ℕ) → t < started past → IsHere (comes w past t)) → (last : List Mark) (e : Ending) → IsLast w past last e → (t : ℕ) → t < started (last ++ past) → IsHere (comes w (last ++ past) t)
  here_last each last e (done a) = each
  here_last each last e (budget a b) = each
  here_last each last e (blocked a b) = each
  here_last each last e (fault {m = m} kind s found h) = here_now s kind found m h each
  here_last each last e (breach kind x other s found) = each
  here_last each last e (script s passes lacks) = each
  here_last each last e (events m s made many) = each
  here_last each last e (full m s made room many) = each
