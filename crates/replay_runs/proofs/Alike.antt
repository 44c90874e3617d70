-- The laws in the words of their clauses.
use Rattle.std.proofs.Common.{◌≡◌, ◌↔◌, ℕ, List, [], ◌∷◌, ◌++◌, map, sym, ap, ◌∙◌}
use Rattle.run_events.specs.declared.key.Class.TheVariants.{Out}
use Rattle.run_events.specs.declared.event.Record.{Record}
use Rattle.marks.specs.Marks.{Mark}
use Rattle.marks.specs.Wants.{is_above}
use Rattle.replay_runs.specs.Runs.{OfThread, OfKey, Start, RaceFree, Rules, Run, Trimmed, history}
use Rattle.replay_runs.specs.Known.{NoRace}
use Rattle.replay_runs.specs.Interface.{Program}
use Rattle.replay_runs.specs.Threads.{is_stopped}
use Rattle.replay_runs.specs.Keys.{key}
use Rattle.replay_runs.specs.Rules.{replay_rules}
use Rattle.replay_runs.specs.Records.{record_of, printed_by}
use Rattle.replay_runs.specs.Laws.{IsReplayRun, Rearranged, OfProgram, WhollyOfProgram, NoneLeft}
use Rattle.replay_runs.proofs.Swap.{Swapped, same_new}
use Rattle.replay_runs.proofs.Facts.{race_prefix}
use Rattle.replay_runs.proofs.Race.{race_free_more, race_free_test}
use Rattle.replay_runs.proofs.Same.{same_runs}
use Rattle.replay_runs.proofs.Determined.{replay_determined}

pub rearranged : (program : Program) (s : Start) (p q : List Mark) → Swapped (replay_rules program s) s p q → Rearranged program s p q
rearranged program s p q w =
    record {
      disciplined = w.disciplined;
      parts = w.same.parts;
      links = w.same.links;
      bytes = w.same.cells;
      histories = λ t. ap (map record_of) (w.same.links (OfThread t));
      outputs = ap (λ es. s.output ++ printed_by es) (same_new s (OfKey (key Out 0)) p q (w.same.links (OfKey (key Out 0))));
    }

pub one_run : (program : Program) (s : Start) (p q : List Mark) → IsReplayRun program s p → Trimmed s p → IsReplayRun program s q → Trimmed s q → ((t : ℕ) → history record_of s t p ≡ history record_of s t q) → Rearranged program s p q
one_run program s p q hp tp hq tq same =
    rearranged program s p q (same_runs (replay_rules program s) s Record record_of (replay_determined program s) p q hp tp hq tq same)

pub who_is_left : (program : Program) (s : Start) (h : ℕ → List Record) → WhollyOfProgram program s h → (of : OfProgram program s h) → NoneLeft program s of.run
who_is_left program s h w of t above =
    let same = one_run program s w.of.run of.run w.of.disciplined w.of.trimmed of.disciplined of.trimmed (λ u. w.of.is u ∙ sym (of.is u)) in
    ap is_stopped (sym (same.parts t)) ∙ w.none_left t (ap (λ ms. is_above (program.want t ms)) (same.parts t) ∙ above)

pub race_step : (r : Rules) (s : Start) (past : List Mark) (m : Mark) → Run r s (m ∷ past) → RaceFree (m ∷ past) ↔ (RaceFree past × NoRace past m)
race_step r s past m h = (λ f. (race_prefix r s (m ∷ []) past h f, race_free_test r s past m h f), λ w. race_free_more r s past m h w.0 w.1)
