-- A run is made step by step: after each past there is an end, or a next mark.
use Rattle.std.proofs.Common.{◌≡◌, ℕ, zero, suc, ◌+◌, ◌≤◌, Bool, true, false, cond, eqb, leb, ltb, List, [], ◌∷◌, ◌++◌, length, Option, Some, None, refl, sym, ap, ◌∙◌, subst, arith, eqb-true}
use Rattle.std.specs.Prelude.{find}
use Rattle.std.proofs.lemmas.Bool.{and_parts, true≢false, eqb-false, ltb-true, ltb-false, leb-true, leb-false}
use Rattle.marks.specs.Marks.{Mark, is_event}
use Rattle.c_code.specs.MarkLists.{Next, Quiet, Wants, Ends, No}
use Rattle.system_side.specs.Schedule.{wish_at}
use Rattle.system_side.specs.Threads.{order_of}
use Rattle.replay_runs.specs.Checks.{Finding, FaultFound, BreachFound, Passes}
use Rattle.replay_runs.specs.Decided.{Decided}
use Rattle.replay_runs.specs.Decided as decided
use Rattle.whole_runs.specs.declared.ending.Ending.{Ending}
use Rattle.whole_runs.specs.declared.ending.Ending.TheVariants as ending
use Rattle.whole_runs.specs.declared.ending.Halt.TheVariants as halt
use Rattle.whole_runs.specs.World.{World}
use Rattle.whole_runs.specs.Threads.{comes}
use Rattle.whole_runs.specs.Picks.{Asked, asked, may_go_on, can_step, stepping, all_ended}
use Rattle.whole_runs.specs.Below.{Given, ByPool, Says, NoMore, given}
use Rattle.whole_runs.specs.Tests.{tests}
use Rattle.whole_runs.specs.Steps.{GoesOn, Picked}
use Rattle.whole_runs.specs.Ends.{Follows, IsNext, IsLast, done, budget, blocked, fault, breach, script, events, full, Lacks, IsFound, events_of, bytes_of, most_events, most_bytes, stops}
use Rattle.whole_runs.specs.Records.{size_of}
use Rattle.whole_runs_laws.specs.Exists.{HasRun, HasStep, StepsCanBeMade, FaultsCanBeMet, StepsMakeARun}
use Rattle.whole_runs_laws.proofs.Decided.{tests_decided}

abbrev number_in : Option ℕ → ℕ
number_in None = 0
number_in (Some x) = x

abbrev is_there : Option ℕ → Bool
is_there None = false
is_there (Some x) = true

-- what is found passes
found_holds : (p : ℕ → Bool) (xs : List ℕ) (x : ℕ) → find p xs ≡ Some x → p x ≡ true
found_holds p [] x h = absurd (true≢false (sym (ap is_there h)))
found_holds p (y ∷ ys) x h = go (p y) refl h (λ e. found_holds p ys x e)
  where
    go : (b : Bool) → p y ≡ b → cond b (Some y) (find p ys) ≡ Some x → (find p ys ≡ Some x → p x ≡ true) → p x ≡ true
    go true e h on = subst (λ z. p z ≡ true) (ap number_in h) e
    go false e h on = on h

abbrev asked_or : Asked → Option Asked → Asked
asked_or a None = a
asked_or a (Some b) = b

abbrev is_asked : Option Asked → Bool
is_asked None = false
is_asked (Some a) = true

abbrev is_no_more : Given → Bool
is_no_more ByPool = false
is_no_more (Says v pieces) = false
is_no_more NoMore = true

module _ (w : World) where
  -- how a past goes on, or ends
  data Onward (past : List Mark) : Type 0 where
    ends : (last : List Mark) (e : Ending) → IsLast w past last e → Onward past
    steps : (m : Mark) → IsNext w past m → Onward past

  within_budget : (past : List Mark) → Follows w past → length past ≤ w.file.budget
  within_budget [] f = omega arith
  within_budget (m ∷ past) f = let b = f.0.step.goes_on.in_budget in omega (arith, b)

  picked_of : (past : List Mark) → GoesOn w past → (t : ℕ) → stepping w past ≡ Some t → Picked w past
  picked_of past g t e = from (comes w past t) refl (and_parts _ (may_go_on w past t (comes w past t)) (found_holds (can_step w past) (order_of (wish_at w.file.schedule (length past))) t e)).1
    where
      from : (n : Next) → comes w past t ≡ n → may_go_on w past t n ≡ true → Picked w past
      from (Quiet c) c_is h = absurd (true≢false (sym h))
      from (Ends v) c_is h = absurd (true≢false (sym h))
      from No c_is h = absurd (true≢false (sym h))
      from (Wants side want to) c_is h = record { goes_on = g; thread = t; picked = e; side = side; want = want; to = to; comes_is = c_is }

  module _ (past : List Mark) (s : Picked w past) where
    -- an event that has no room ends the run
    made : HasStep w past s → Onward past
    made h = by_event (is_event h.mark.act) refl
      where
        by_size : (b : Bool) → leb (bytes_of past + size_of h.mark) most_bytes ≡ b → is_event h.mark.act ≡ true → ltb (length (events_of past)) most_events ≡ true → Onward past
        by_size true r z q = steps h.mark (record { step = s; made = h.made; room = record { events = λ y. ltb-true _ _ q; bytes = λ y. leb-true _ _ r } })
        by_size false r z q = ends [] _ (full h.mark s (record { made = h.made; event = z }) (ltb-true _ _ q) (leb-false _ _ r))

        by_number : (b : Bool) → ltb (length (events_of past)) most_events ≡ b → is_event h.mark.act ≡ true → Onward past
        by_number true q z = by_size (leb (bytes_of past + size_of h.mark) most_bytes) refl z q
        by_number false q z = ends [] _ (events h.mark s (record { made = h.made; event = z }) (ltb-false _ _ q))

        by_event : (b : Bool) → is_event h.mark.act ≡ b → Onward past
        by_event true z = by_number (ltb (length (events_of past)) most_events) refl z
        by_event false z = steps h.mark (record { step = s; made = h.made; room = record { events = λ y. absurd (true≢false (sym y ∙ z)); bytes = λ y. absurd (true≢false (sym y ∙ z)) } })

    nothing_asked : asked s.want ≡ None → (func : ℕ) → Lacks w past s func → ⊥
    nothing_asked e func l = true≢false (ap is_asked (sym l.asks ∙ e))

    -- an answer is there
    not_lacking : (a : Asked) → asked s.want ≡ Some a → is_no_more (given w past s.thread a.func a.args) ≡ false → (func : ℕ) → Lacks w past s func → ⊥
    not_lacking a e there func l =
        let same : record { func = func; args = l.args } ≡ a = ap (asked_or a) (sym l.asks ∙ e) in
        true≢false (sym (ap is_no_more l.none) ∙ (ap (λ (b : Asked). is_no_more (given w past s.thread b.func b.args)) same ∙ there))

    passed : (follows : Follows w past) → StepsCanBeMade w → Passes (tests w past s.thread s.side s.want) → Onward past
    passed f can p = by_asked (asked s.want) refl
      where
        by_given : (a : Asked) → asked s.want ≡ Some a → (g : Given) → given w past s.thread a.func a.args ≡ g → Onward past
        by_given a e NoMore none = ends [] (ending.Halted (halt.Script a.func)) (script s p (record { args = a.args; asks = e; none = none }))
        by_given a e ByPool none = made (can past f s p (not_lacking a e (ap is_no_more none)))
        by_given a e (Says v pieces) none = made (can past f s p (not_lacking a e (ap is_no_more none)))

        by_asked : (o : Option Asked) → asked s.want ≡ o → Onward past
        by_asked None e = made (can past f s p (nothing_asked e))
        by_asked (Some a) e = by_given a e (given w past s.thread a.func a.args) refl

    found_one : (follows : Follows w past) → FaultsCanBeMet w → (f : Finding) → IsFound w past s f → Onward past
    found_one f met (FaultFound kind) found = let m = met past f s kind found in ends (m.mark ∷ []) _ (fault kind s found m.met)
    found_one f met (BreachFound kind x other) found = ends [] _ (breach kind x other s found)

    tested : (follows : Follows w past) → StepsCanBeMade w → FaultsCanBeMet w → Decided (tests w past s.thread s.side s.want) → Onward past
    tested f can met (decided.pass p _) = passed f can p
    tested f can met (decided.find found is _ _) = found_one f met found is

  onward : StepsCanBeMade w → FaultsCanBeMet w → (past : List Mark) → Follows w past → Onward past
  onward can met past f = by_end (all_ended w past) refl
    where
      by_pick : GoesOn w past → (o : Option ℕ) → stepping w past ≡ o → Onward past
      by_pick g None e = ends [] _ (blocked g e)
      by_pick g (Some t) e = let s = picked_of past g t e in tested past s f can met (tests_decided w past s.thread s.side s.want)

      by_budget : all_ended w past ≡ false → (b : Bool) → eqb (length past) w.file.budget ≡ b → Onward past
      by_budget r true e = ends [] _ (budget r (eqb-true _ _ e))
      by_budget r false e =
          let not : length past ≡ w.file.budget → ⊥ = eqb-false _ _ e in
          let most = within_budget past f in
          by_pick (record { running = r; in_budget = omega (arith, not, most) }) (stepping w past) refl

      by_end : (b : Bool) → all_ended w past ≡ b → Onward past
      by_end true e = ends [] _ (done e)
      by_end false e = by_budget e (eqb (length past) w.file.budget) refl

  run_from : StepsCanBeMade w → FaultsCanBeMet w → (left : ℕ) (past : List Mark) → Follows w past → w.file.budget ≤ length past + left → HasRun w
  run_from can met zero past f enough = go (onward can met past f)
    where
      go : Onward past → HasRun w
      go (ends last e l) = record { run = stops w (last ++ past) ++ (last ++ past); ending = e; is_run = record { past = past; follows = f; last = last; ends = l; run_is = refl } }
      go (steps m n) = let b = n.step.goes_on.in_budget in absurd (omega (arith, b, enough))
  run_from can met (suc left) past f enough = go (onward can met past f) (λ m n e. run_from can met left (m ∷ past) n e)
    where
      go : Onward past → ((m : Mark) → Follows w (m ∷ past) → w.file.budget ≤ length (m ∷ past) + left → HasRun w) → HasRun w
      go (ends last e l) on = record { run = stops w (last ++ past) ++ (last ++ past); ending = e; is_run = record { past = past; follows = f; last = last; ends = l; run_is = refl } }
      go (steps m n) on = on m (n, f) (omega (arith, enough))

  pub steps_make_a_run : StepsMakeARun w
  steps_make_a_run can met = run_from can met w.file.budget [] tt (omega arith)
