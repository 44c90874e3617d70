-- A Step above the cut, and a constant that is written.
use Rattle.std.proofs.Common.{◌≡◌, inl, inr, ⊎_elim, ℕ, ◌+◌, Bool, true, false, ◌&&◌, ◌||◌, not, leb, ltb, List, [], ◌∷◌, None, refl, sym, subst, arith}
use Rattle.std.proofs.lemmas.Bool.{leb-true, ltb-true, and_parts, true≢false}
use Rattle.marks.specs.declared.breach.BreachKind.TheVariants.{Mode}
use Rattle.marks.specs.declared.fault.FaultKind.TheVariants.{ReadOnly}
use Rattle.marks.specs.Places.{is_constant, is_system}
use Rattle.marks.specs.declared.range.Range.{Range}
use Rattle.marks.specs.Ranges.{Piece, within}
use Rattle.marks.specs.Marks.{Mark}
use Rattle.marks.specs.Bytes.{Cell, Dead, Live, Held, IsHeld, writes, touches}
use Rattle.marks.specs.Wants.{Steps, Stores, answer_to}
use Rattle.replay_runs.specs.Runs.{In, byte}
use Rattle.replay_runs.specs.Laws.{IsReplayRun, NoneLeft}
use Rattle.replay_runs.specs.Checks.{BreachFound, FaultFound, Finds, Races, checks}
use Rattle.replay_runs_examples.specs.Programs.{run_of, mark, here}
use Rattle.replay_runs_examples.specs.Modes.{calling, ext, got, halted, ran, to_ext, was_read, was_refused, writing}
use Rattle.replay_runs_examples.proofs.Bytes.{all_from, all_from_true, all_in, some_from, access_ranges, event_ranges, ranges_of, for_touched}
use Rattle.replay_runs_examples.proofs.Decide.{all_keys, some_key, all_past, all_past_true, is_run, is_race_free, is_disciplined, disciplined}

-- the external

pub got_holds : IsReplayRun calling here (run_of calling here got)
unfolding answer_to all_from all_in some_from access_ranges event_ranges ranges_of for_touched all_keys some_key all_past is_run is_race_free is_disciplined
got_holds = disciplined calling here (run_of calling here got) refl

pub is_left : NoneLeft calling here (run_of calling here got) → ⊥
is_left h = true≢false (sym (h 0 refl))

pub got_stops : IsReplayRun calling here (mark calling here (run_of calling here got) halted ∷ run_of calling here got)
unfolding answer_to all_from all_in some_from access_ranges event_ranges ranges_of for_touched all_keys some_key all_past is_run is_race_free is_disciplined
got_stops = disciplined calling here (mark calling here (run_of calling here got) halted ∷ run_of calling here got) refl

pub step_refused : (result : ℕ) (ins pieces : List Piece) (freed : List Range) → IsReplayRun calling here (mark calling here (run_of calling here got) (ran result ins pieces freed) ∷ run_of calling here got) → ⊥
step_refused result ins pieces freed h = h.steps.0.own.modes refl

pub mode_is_named : Finds (checks calling.interface here (run_of calling here got) 0 (Steps true ext [])) (BreachFound Mode to_ext None)
mode_is_named = inl (to_ext, (refl, λ y b. omega (arith, b)), refl)

-- the constant

abbrev before : List Mark
before = run_of writing here was_read

pub refused_holds : IsReplayRun writing here (run_of writing here was_refused)
unfolding answer_to all_from all_in some_from access_ranges event_ranges ranges_of for_touched all_keys some_key all_past is_run is_race_free is_disciplined
refused_holds = disciplined writing here (run_of writing here was_refused) refl

not_true : (b : Bool) → not b ≡ true → b ≡ true → ⊥
not_true true e f = true≢false (sym e)
not_true false e f = true≢false (sym f)

abbrev is_live : Cell → Bool
is_live (Live v) = true
is_live c = false

is_dead : (c : Cell) → is_live c ≡ true → c ≡ Dead → ⊥
is_dead Dead e d = true≢false (sym e)
is_dead (Live v) e d = cc
is_dead (Held v) e d = true≢false (sym e)

is_held : (c : Cell) → is_live c ≡ true → IsHeld c → ⊥
is_held Dead e d = d
is_held (Live v) e d = d
is_held (Held v) e d = true≢false (sym e)

no_system : (x : ℕ) → within 0x100000 1 x ≡ true → is_system x ≡ true → ⊥
unfolding all_from
no_system x e = not_true (is_system x) (all_from_true (λ y. not (is_system y)) 0x100000 1 refl x e)

there : (x : ℕ) → within 0x100000 1 x ≡ true → is_live (byte here x before).cell ≡ true
unfolding all_from
there x e = all_from_true (λ y. is_live (byte here y before).cell) 0x100000 1 refl x e

only_one : (x : ℕ) → within 0x100000 1 x ≡ true → x ≡ 0x100000
only_one x e = let p = and_parts (leb 0x100000 x) (ltb x (0x100000 + 1)) e in omega (arith, leb-true 0x100000 x p.0, ltb-true x (0x100000 + 1) p.1)

none_writes : (a : Mark) → In a before → writes a.act 0x100000 ≡ true → ⊥
unfolding all_past
none_writes a i = not_true (writes a.act 0x100000) (all_past_true writing here before (λ b. not (writes b.act 0x100000)) refl a i)

no_race : (x u : ℕ) → within 0x100000 1 x ≡ true → Races before 0 true x u → ⊥
no_race x u e r =
    let here_is : x ≡ 0x100000 = only_one x e in
    none_writes r.0 r.1 (last (writes r.0.act 0x100000) (subst (λ y. (writes r.0.act y || (true && (not (is_constant y) && touches r.0.act y))) ≡ true) here_is r.4))
  where
    last : (b : Bool) → (b || false) ≡ true → b ≡ true
    last true e = refl
    last false e = e

pub fault_is_named : Finds (checks writing.interface here before 0 (Stores None 0x100000 (1 ∷ []))) (FaultFound ReadOnly)
fault_is_named =
    inr (
      (λ x b. no_system x b.0 b.1),
      inr (
        (λ x b. no_race x b.1.0 b.0 b.1.1),
        inr (
          (λ x b. is_dead (byte here x before).cell (there x b.0) b.1),
          inr (
            (λ x b. ⊎_elim (λ z. is_held (byte here x before).cell (there x b.0) z) (λ z. true≢false (sym z)) b.1),
            inl (0x100000, ((refl, refl, refl), λ y b. omega (arith, only_one y b.0)), refl),
          ),
        ),
      ),
    )
