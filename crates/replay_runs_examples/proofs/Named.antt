-- What the checks find in the examples that a breach ends, and why a step isn't allowed there.
use Rattle.std.proofs.Common.{◌≡◌, inl, inr, ⊎_elim, ℕ, zero, suc, ◌+◌, ◌≤◌, Bool, true, false, ◌||◌, not, eqb, leb, ltb, List, [], ◌∷◌, length, Option, Some, None, refl, sym, ap, ◌∙◌, subst, arith, eq-eqb, eqb-true}
use Rattle.std.proofs.lemmas.Bool.{leb-true, and_parts, or_cases, true≢false}
use Rattle.marks.specs.declared.breach.BreachKind.TheVariants.{Race, Pending}
use Rattle.marks.specs.declared.fault.FaultKind.{FaultKind}
use Rattle.marks.specs.declared.fault.FaultKind.TheVariants.{ReadOnly}
use Rattle.marks.specs.Places.{is_system}
use Rattle.marks.specs.Ranges.{within, byte_at}
use Rattle.marks.specs.Marks.{Mark, Load}
use Rattle.marks.specs.Bytes.{Cell, Dead, Live, Held, writes}
use Rattle.marks.specs.Wants.{Loads, answer_to}
use Rattle.replay_runs.specs.Runs.{In, Run, byte}
use Rattle.replay_runs.specs.Rules.{replay_rules}
use Rattle.replay_runs.specs.Laws.{IsReplayRun}
use Rattle.replay_runs.specs.Checks.{BreachFound, Finds, Races, checks}
use Rattle.replay_runs.proofs.Replies.{Plain, load, plain_is}
use Rattle.replay_runs_examples.specs.Programs.{run_of, mark, here}
use Rattle.replay_runs_examples.specs.Locks.{racing, unlocked, second_load}
use Rattle.replay_runs_examples.specs.Regions.{filling, called_back, stopped, pending_load}
use Rattle.replay_runs_examples.specs.Faults as faults
use Rattle.replay_runs_examples.proofs.Bytes.{all_from, all_from_true, all_in, some_from, access_ranges, event_ranges, ranges_of, for_touched}
use Rattle.replay_runs_examples.proofs.Decide.{all_keys, some_key, all_past, all_past_true, is_run, is_run_true, is_race_free, is_disciplined, disciplined}
use Rattle.replay_runs_examples.proofs.Refuse.{refused}

not_true : (b : Bool) → not b ≡ true → b ≡ true → ⊥
not_true true e f = true≢false (sym e)
not_true false e f = true≢false (sym f)

-- a byte of a range isn't before it
low : (at n x : ℕ) → within at n x ≡ true → at ≤ x
low at n x e = leb-true at x (and_parts (leb at x) (ltb x (at + n)) e).0

-- the race

abbrev before : List Mark
before = run_of racing here unlocked

pub before_holds : IsReplayRun racing here before
unfolding answer_to all_from all_in some_from access_ranges event_ranges ranges_of for_touched all_keys some_key all_past is_run is_race_free is_disciplined
before_holds = disciplined racing here before refl

pub step_is_a_run : Run (replay_rules racing here) here (mark racing here before second_load ∷ before)
unfolding answer_to all_from all_in some_from access_ranges event_ranges ranges_of for_touched all_keys some_key all_past is_run
step_is_a_run = is_run_true racing here (mark racing here before second_load ∷ before) refl

pub step_races : IsReplayRun racing here (mark racing here before second_load ∷ before) → ⊥
step_races h = refused racing here [] (mark racing here before second_load ∷ before) 0 1 0x10000000 refl h

no_system : (x : ℕ) → within 0x10000000 4 x ≡ true → is_system x ≡ true → ⊥
unfolding all_from
no_system x e = not_true (is_system x) (all_from_true (λ y. not (is_system y)) 0x10000000 4 refl x e)

-- thread 0 doesn't write the global
main_is_quiet : (a : Mark) → In a before → a.thread ≡ 0 → writes a.act 0x10000000 ≡ true → ⊥
unfolding all_past
main_is_quiet a i e w =
    let h : (not (eqb a.thread 0) || not (writes a.act 0x10000000)) ≡ true = all_past_true racing here before (λ b. not (eqb b.thread 0) || not (writes b.act 0x10000000)) refl a i in
    ⊎_elim
    (λ z. not_true (eqb a.thread 0) z (eq-eqb a.thread 0 e))
    (λ z. not_true (writes a.act 0x10000000) z w)
    (or_cases (not (eqb a.thread 0)) (not (writes a.act 0x10000000)) h)

race_there : Races before 2 false 0x10000000 1
race_there = (_, inr (inl refl), refl, (λ e. absurd (omega (arith, e))), refl, omega arith)

first_thread : (v : ℕ) → Races before 2 false 0x10000000 v → 1 ≤ v
first_thread zero r = absurd (main_is_quiet r.0 r.1 r.2 (or_false (writes r.0.act 0x10000000) r.4))
  where
    or_false : (b : Bool) → (b || false) ≡ true → b ≡ true
    or_false true e = refl
    or_false false e = e
first_thread (suc v) r = omega arith

pub race_is_named : Finds (checks racing.interface here before 2 (Loads (Some 0) 0x10000000 4)) (BreachFound Race 0x10000000 (Some 1))
race_is_named = inr ((λ x b. no_system x b.0 b.1), inl (0x10000000, ((refl, (1, race_there)), λ y b. low 0x10000000 4 y b.0), (1, (race_there, first_thread), refl)))

-- the pending region

abbrev held : List Mark
held = run_of filling here called_back

pub held_holds : IsReplayRun filling here held
unfolding answer_to all_from all_in some_from access_ranges event_ranges ranges_of for_touched all_keys some_key all_past is_run is_race_free is_disciplined
held_holds = disciplined filling here held refl

pub held_stops : IsReplayRun filling here (mark filling here held stopped ∷ held)
unfolding answer_to all_from all_in some_from access_ranges event_ranges ranges_of for_touched all_keys some_key all_past is_run is_race_free is_disciplined
held_stops = disciplined filling here (mark filling here held stopped ∷ held) refl

as_wide : (o p : Option ℕ) (at x n : ℕ) (bytes : List ℕ) → Plain (Loads o at n) (Load p x bytes) → length bytes ≡ n
as_wide o p at x n bytes (load b e) = e

held_not_live : (v : ℕ) → Held 0 ≡ Live v → ⊥
held_not_live v e = cc

pub pending_refused : (bytes : List ℕ) → IsReplayRun filling here (mark filling here held (pending_load bytes) ∷ held) → ⊥
pending_refused bytes h =
    let n : length bytes ≡ 4 = as_wide (Some 0) (Some 0) 0x10000000 0x10000000 4 bytes (plain_is filling.interface (Loads (Some 0) 0x10000000 4) (Load (Some 0) 0x10000000 bytes) refl tt h.steps.0.own.replies) in
    held_not_live (byte_at 0x10000000 bytes 0x10000000) (h.steps.0.bytes 0x10000000 (subst (λ k. within 0x10000000 k 0x10000000 ≡ true) (sym n) refl))

-- thread 0 is alone
alone : (a : Mark) → In a held → a.thread ≡ 0
unfolding all_past
alone a i = eqb-true a.thread 0 (all_past_true filling here held (λ b. eqb b.thread 0) refl a i)

abbrev is_dead : Cell → Bool
is_dead Dead = true
is_dead c = false

none_dead : (x : ℕ) → within 0x10000000 4 x ≡ true → (byte here x held).cell ≡ Dead → ⊥
unfolding all_from
none_dead x e d = not_true (is_dead (byte here x held).cell) (all_from_true (λ y. not (is_dead (byte here y held).cell)) 0x10000000 4 refl x e) (ap is_dead d)

pub pending_is_named : Finds (checks filling.interface here held 0 (Loads (Some 0) 0x10000000 4)) (BreachFound Pending 0x10000000 None)
pending_is_named =
    inr (
      (λ x b. no_system x b.0 b.1),
      inr (
        (λ x b. b.1.1.3 (sym b.1.1.2 ∙ alone b.1.1.0 b.1.1.1)),
        inr (
          (λ x b. none_dead x b.0 b.1),
          inl (0x10000000, ((refl, inl tt), λ y b. low 0x10000000 4 y b.0), refl),
        ),
      ),
    )

-- a return that is written again, and a fault that its Stop doesn't tell

pub in_full_refused : IsReplayRun faults.asking here (run_of faults.asking here (faults.asked_twice false)) → ⊥
in_full_refused h = true≢false (sym h.steps.0.own.carries.repeats)

pub wrong_stop_refused : IsReplayRun faults.refused here (run_of faults.refused here faults.wrong_stop) → ⊥
wrong_stop_refused h = cc_none ReadOnly h.steps.0.own.carries
  where
    cc_none : (k : FaultKind) → None ≡ Some k → ⊥
    cc_none k e = cc

-- a constant isn't written
pub write_refused : IsReplayRun faults.refused here (mark faults.refused here (run_of faults.refused here (faults.begun 0 0x20000000)) faults.wrote ∷ run_of faults.refused here (faults.begun 0 0x20000000)) → ⊥
write_refused h = true≢false (h.steps.0.own.read_only 0x100000 refl)
