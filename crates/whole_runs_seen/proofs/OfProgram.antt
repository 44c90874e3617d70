-- Where no thread is lost, a whole run is one of the program, with its history.
use Rattle.std.proofs.Common.{◌≡◌, ◌⊎◌, inl, inr, ⊎_elim, ℕ, ◌<◌, Bool, true, false, cond, eqb, List, ◌∷◌, ◌++◌, Some, None, refl, sym, ap, ◌∙◌, subst, arith, eqb-true}
use Rattle.std.specs.Prelude.{is_some}
use Rattle.std.proofs.lemmas.Bool.{true≢false}
use Rattle.marks.specs.declared.side.Side.TheVariants.{Replay}
use Rattle.marks.specs.declared.fault.FaultKind.{FaultKind}
use Rattle.marks.specs.Marks.{Act, Turn, Load, Store, Enter, Leave, Step, Fault, Made, Mark, side_of}
use Rattle.marks.specs.Wants.{Want, Outside, Turns, Loads, Stores, Enters, Leaves, Allocs, Frees, Calls, Below, Gives, Returns, CallsBack, UpReturns, Steps, Fails, answer_to, is_above}
use Rattle.c_code.specs.Machine.{Laid}
use Rattle.c_code.specs.MarkLists.{Split, Wants, same_side, replay_part, reply, step, state}
use Rattle.replay_runs.specs.Runs.{EndsWithEvent}
use Rattle.replay_runs.specs.Threads.{act_fault}
use Rattle.replay_runs.specs.Checks.{FaultFound}
use Rattle.whole_runs.specs.declared.ending.Ending.{Ending}
use Rattle.whole_runs.specs.World.{World}
use Rattle.whole_runs.specs.Sides.{seen, own}
use Rattle.whole_runs.specs.Outcomes.{started}
use Rattle.whole_runs.specs.Threads.{beginning, comes, is_next_above, in_replay_mode}
use Rattle.whole_runs.specs.Steps.{Picked, IsFault}
use Rattle.whole_runs.specs.Ends.{Follows, IsFound, IsLast, done, budget, blocked, fault, breach, script, events, full}
use Rattle.whole_runs.specs.Fits.{IsFit}
use Rattle.whole_runs_laws.proofs.PlainSteps.{side_is}
use Rattle.whole_runs_laws.proofs.Lasts.{answers_to}
use Rattle.whole_runs_laws.proofs.OneStep.{same_side_true, plain_side}
use Rattle.whole_runs_laws.proofs.OneFault.{no_event}
use Rattle.whole_runs_seen.specs.Suits.{SuitedRunsAreOfTheProgram}
use Rattle.whole_runs_seen.proofs.Entries.{IsOwn}
use Rattle.whole_runs_seen.proofs.Threads.{threads_known, picked_started, own_want}
use Rattle.whole_runs_seen.proofs.BeforeStops.{after_last, here_last, same_started, same_beginning, same_state}
use Rattle.whole_runs_seen.proofs.Stops.{runs_seen}
use Rattle.whole_runs_seen.proofs.Left.{ends_with_events, leave_none}
use Rattle.whole_runs_seen.proofs.Here.{lose_none}
use Rattle.whole_runs_seen.proofs.Lasting.{ends_or_stands}
use Rattle.whole_runs.specs.World.{begin}
use Rattle.replay_runs.specs.Runs.{Trimmed}

module _ (l : Laid) where
  -- a fault above the cut comes in place of what is wanted there
  fault_above : (want : Want) (a : Act) (kind : FaultKind) → IsOwn l Replay want → act_fault a None ≡ Some kind → is_some (answer_to want a) ≡ true → is_above want ≡ true
  unfolding answer_to
  fault_above Turns a kind own e z = refl
  fault_above (Loads o at n) a kind own e z = refl
  fault_above (Stores o at bytes) a kind own e z = refl
  fault_above (Enters i f args bytes) a kind own e z = refl
  fault_above (Leaves at n) a kind own e z = refl
  fault_above (Allocs n) a kind own e z = refl
  fault_above (Frees at) a kind own e z = refl
  fault_above (Calls i f args) a kind own e z = refl
  fault_above (UpReturns f v) a kind own e z = refl
  fault_above (Steps i f args) a kind own e z = refl
  fault_above (Fails k) a kind own e z = refl
  fault_above Outside Turn kind own e z = absurd cc
  fault_above Outside (Load p a' bytes) kind own e z = absurd cc
  fault_above Outside (Store p a' bytes) kind own e z = absurd cc
  fault_above Outside (Enter g bs a' b) kind own e z = absurd cc
  fault_above Outside (Leave a' size) kind own e z = absurd cc
  fault_above Outside (Step g bs u ins pieces freed) kind own e z = absurd cc
  fault_above Outside (Made ev) kind own e z = absurd cc
  fault_above Outside (Fault j c ins outs a') kind own e z = absurd (true≢false (sym z))
  fault_above (Below f args) Turn kind own e z = absurd cc
  fault_above (Below f args) (Load p a' bytes) kind own e z = absurd cc
  fault_above (Below f args) (Store p a' bytes) kind own e z = absurd cc
  fault_above (Below f args) (Enter g bs a' b) kind own e z = absurd cc
  fault_above (Below f args) (Leave a' size) kind own e z = absurd cc
  fault_above (Below f args) (Step g bs u ins pieces freed) kind own e z = absurd cc
  fault_above (Below f args) (Made ev) kind own e z = absurd cc
  fault_above (Below f args) (Fault j c ins outs a') kind own e z = absurd (true≢false (sym z))
  fault_above (Gives f args) Turn kind own e z = absurd cc
  fault_above (Gives f args) (Load p a' bytes) kind own e z = absurd cc
  fault_above (Gives f args) (Store p a' bytes) kind own e z = absurd cc
  fault_above (Gives f args) (Enter g bs a' b) kind own e z = absurd cc
  fault_above (Gives f args) (Leave a' size) kind own e z = absurd cc
  fault_above (Gives f args) (Step g bs u ins pieces freed) kind own e z = absurd cc
  fault_above (Gives f args) (Made ev) kind own e z = absurd cc
  fault_above (Gives f args) (Fault j c ins outs a') kind own e z = absurd (true≢false (sym z))
  fault_above (Returns f args v) Turn kind own e z = absurd cc
  fault_above (Returns f args v) (Load p a' bytes) kind own e z = absurd cc
  fault_above (Returns f args v) (Store p a' bytes) kind own e z = absurd cc
  fault_above (Returns f args v) (Enter g bs a' b) kind own e z = absurd cc
  fault_above (Returns f args v) (Leave a' size) kind own e z = absurd cc
  fault_above (Returns f args v) (Step g bs u ins pieces freed) kind own e z = absurd cc
  fault_above (Returns f args v) (Made ev) kind own e z = absurd cc
  fault_above (Returns f args v) (Fault j c ins outs a') kind own e z = absurd (true≢false (sym z))
  fault_above (CallsBack f args bytes) a kind own e z = absurd cc

-- a thread's last mark above the cut is an event, or the thread stands in replay mode
abbrev EndsSo : World → List Mark → ℕ → Type 0
EndsSo w run t = EndsWithEvent (replay_part (own w t run)) ⊎ (in_replay_mode w run t ≡ true)

module _ (w : World) (fit : IsFit w) (past : List Mark) (follows : Follows w past) (each : (t : ℕ) → t < started past → EndsSo w past t) where
  module _ (s : Picked w past) (kind : FaultKind) (found : IsFound w past s (FaultFound kind)) (m : Mark) (h : IsFault w past s kind m) where
    abbrev mine : List Mark
    mine = own w s.thread past

    there : EndsWithEvent (replay_part (m ∷ mine)) ⊎ (is_next_above (step Split w.laid (state Split w.laid (beginning w past s.thread) (m ∷ mine))) ≡ true)
    there = by (same_side m.side Replay) refl
      where
        back : is_next_above (comes w past s.thread) ≡ true → is_next_above (step Split w.laid (state Split w.laid (beginning w past s.thread) (m ∷ mine))) ≡ true
        back z = subst (λ d. is_next_above (step Split w.laid d) ≡ true) (sym (same_state w fit past follows s kind found m h)) z

        answers : is_some (reply s.side s.want m) ≡ true
        answers = ap is_some h.stops

        by : (b : Bool) → same_side m.side Replay ≡ b → EndsWithEvent (replay_part (m ∷ mine)) ⊎ (is_next_above (step Split w.laid (state Split w.laid (beginning w past s.thread) (m ∷ mine))) ≡ true)
        by true e =
            let on : s.side ≡ Replay = sym (plain_side s.side m.act (no_event m.act kind h.kind_is)) ∙ (same_side_true (side_of s.side m.act) m.side (side_is s.side s.want m answers) ∙ same_side_true m.side Replay e) in
            let above : is_above s.want ≡ true = fault_above w.laid s.want m.act kind (subst (λ d. IsOwn w.laid d s.want) on (own_want w fit.code past (threads_known w fit.code past follows) s)) h.kind_is (answers_to s.side s.want m answers) in
            inr (back (ap is_next_above (s.comes_is ∙ ap (λ d. Wants d s.want s.to) on) ∙ above))
        by false e = ⊎_elim
            (λ z. inl (subst (λ b. EndsWithEvent (cond b (m ∷ replay_part mine) (replay_part mine))) (sym e) z))
            (λ z. inr (back z))
            (each s.thread (picked_started w fit.code past (threads_known w fit.code past follows) s))

    ends_now : (t : ℕ) → t < started (m ∷ past) → EndsSo w (m ∷ past) t
    ends_now t lt = subst (λ c. EndsWithEvent (replay_part (own w t (m ∷ past))) ⊎ (is_next_above (step Split w.laid (state Split w.laid c (own w t (m ∷ past)))) ≡ true)) (sym (same_beginning w fit past follows s kind found m h t)) (go (eqb m.thread t) refl)
      where
        go : (b : Bool) → eqb m.thread t ≡ b → EndsWithEvent (replay_part (cond b (m ∷ own w t past) (own w t past))) ⊎ (is_next_above (step Split w.laid (state Split w.laid (beginning w past t) (cond b (m ∷ own w t past) (own w t past)))) ≡ true)
        go false e = each t (let all = same_started w fit past follows s kind found m h in omega (arith, lt, all))
        go true e =
            let same : s.thread ≡ t = sym h.mark.of_thread ∙ eqb-true m.thread t e in
            subst (λ u. EndsWithEvent (replay_part (m ∷ own w u past)) ⊎ (is_next_above (step Split w.laid (state Split w.laid (beginning w past u) (m ∷ own w u past))) ≡ true)) same there

  ends_last : (last : List Mark) (e : Ending) → IsLast w past last e → (t : ℕ) → t < started (last ++ past) → EndsSo w (last ++ past) t
  ends_last last e (done a) = each
  ends_last last e (budget a b) = each
  ends_last last e (blocked a b) = each
  ends_last last e (fault {m = m} kind s found h) = ends_now s kind found m h
  ends_last last e (breach kind x other s found) = each
  ends_last last e (script s passes lacks) = each
  ends_last last e (events m s made many) = each
  ends_last last e (full m s made room many) = each

pub of_program : (w : World) → SuitedRunsAreOfTheProgram w
of_program w fit suits run e is =
    let here = lose_none w fit suits is.past is.follows in
    let each : (t : ℕ) → t < started is.past → EndsSo w is.past t = λ t lt. ⊎_elim (λ h. inl h) (λ h. inr (h (here t lt))) (ends_or_stands w fit is.past is.follows t lt) in
    let trimmed : Trimmed (begin w) (seen run) = subst (λ ms. Trimmed (begin w) (seen ms)) (sym is.run_is) (ends_with_events w (is.last ++ is.past) fit (after_last w fit is.past is.follows is.last e is.ends) (here_last w fit is.past is.follows here is.last e is.ends) (ends_last w fit is.past is.follows each is.last e is.ends)) in
    let so = runs_seen w fit run e is in
    record { of = record { run = seen run; disciplined = so.disciplined; trimmed = trimmed; is = so.histories }; none_left = leave_none w fit suits run e is }
