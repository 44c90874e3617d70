-- A frame that races with what its thread doesn't know.
use Rattle.std.proofs.Common.{◌≡◌, inl, inr, ⊎_elim, ℕ, ◌+◌, ◌≤◌, true, false, leb, ltb, [], ◌∷◌, Some, None, refl, arith}
use Rattle.std.proofs.lemmas.Bool.{leb-true, and_parts, cases_lt}
use Rattle.marks.specs.declared.breach.BreachKind.TheVariants.{Race}
use Rattle.marks.specs.declared.side.Side.TheVariants.{Replay}
use Rattle.marks.specs.declared.fault.FaultKind.TheVariants.{NotLive}
use Rattle.marks.specs.Ranges.{range, within}
use Rattle.marks.specs.Marks.{Fault, Reading, Store}
use Rattle.marks.specs.Wants.{answer_to}
use Rattle.replay_runs.specs.Laws.{IsReplayRun}
use Rattle.replay_runs.specs.Checks.{BreachFound, Finds, Races, checks}
use Rattle.replay_runs_examples.specs.Programs.{run_of, here}
use Rattle.replay_runs_examples.specs.Unknown.{entering, faulted, faulting, shared, sharing}
use Rattle.replay_runs_examples.proofs.Bytes.{all_from, all_in, some_from, access_ranges, event_ranges, ranges_of, for_touched}
use Rattle.replay_runs_examples.proofs.Decide.{all_keys, some_key, all_past, is_run, is_race_free, is_disciplined, disciplined}

low : (at n x : ℕ) → within at n x ≡ true → at ≤ x
low at n x e = leb-true at x (and_parts (leb at x) (ltb x (at + n)) e).0

some_thread : (u : ℕ) → (u ≡ 0 → ⊥) → 1 ≤ u
some_thread u ne = ⊎_elim (λ lt. absurd (ne (omega (arith, lt)))) (λ le. le) (cases_lt u 1)

one_zero : (u : ℕ) → u ≡ 1 → u ≡ 0 → ⊥
one_zero u is e = absurd (omega (arith, is, e))

pub faulted_holds : IsReplayRun faulting here (run_of faulting here faulted)
unfolding answer_to all_from all_in some_from access_ranges event_ranges ranges_of for_touched all_keys some_key all_past is_run is_race_free is_disciplined
faulted_holds = disciplined faulting here (run_of faulting here faulted) refl

reader : Races (run_of faulting here faulted) 0 true 0x20000000 1
reader = (record { thread = 1; side = Replay; index = 0; act = Fault NotLive false [] [] (Reading (range 0x20000000 1)) }, inl refl, refl, one_zero 1 refl, refl, omega arith)

pub fault_races : Finds (checks faulting.interface here (run_of faulting here faulted) 0 entering) (BreachFound Race 0x20000000 (Some 1))
fault_races = inr ((λ x b. b (omega arith, omega arith)), inl (0x20000000, ((refl, (1, reader)), λ y b. low 0x20000000 16 y b.0), (1, (reader, λ u r. some_thread u r.3), refl)))

pub shared_holds : IsReplayRun sharing here (run_of sharing here shared)
unfolding answer_to all_from all_in some_from access_ranges event_ranges ranges_of for_touched all_keys some_key all_past is_run is_race_free is_disciplined
shared_holds = disciplined sharing here (run_of sharing here shared) refl

writer : Races (run_of sharing here shared) 0 true 0x20000000 1
writer = (record { thread = 1; side = Replay; index = 1; act = Store None 0x20000000 (1 ∷ []) }, inr (inl refl), refl, one_zero 1 refl, refl, omega arith)

pub part_races : Finds (checks sharing.interface here (run_of sharing here shared) 0 entering) (BreachFound Race 0x20000000 (Some 1))
part_races = inr ((λ x b. b (omega arith, omega arith)), inl (0x20000000, ((refl, (1, writer)), λ y b. low 0x20000000 16 y b.0), (1, (writer, λ u r. some_thread u r.3), refl)))
