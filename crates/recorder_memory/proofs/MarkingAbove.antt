-- The mark of a step above the cut that is no event.
use Rattle.std.proofs.Common.{◌≡◌, ℕ, true, false, List, ◌∷◌, length, is_some, refl, sym, ap, ◌∙◌, subst}
use Rattle.marks.specs.declared.side.Side.TheVariants.{Replay}
use Rattle.marks.specs.Marks.{Act, Mark, is_event}
use Rattle.marks.specs.Wants.{Want, answer_to}
use Rattle.c_code.specs.Laws.{seen_above}
use Rattle.c_code.specs.MarkLists.{reply}
use Rattle.replay_runs.specs.Runs.{OfThread, Allowed, marks_of}
use Rattle.replay_runs.specs.Rules.{Carries, replay_rules}
use Rattle.replay_runs.specs.Checks.{Passes}
use Rattle.steps_above_memory.specs.Above.{StandsForAbove}
use Rattle.steps_above_memory.specs.Steps as above
use Rattle.whole_runs.specs.World.{World, begin, interface, program_of}
use Rattle.whole_runs.specs.Sides.{seen}
use Rattle.whole_runs.specs.Tests.{tests}
use Rattle.whole_runs.specs.Steps.{Agrees, rules_above}
use Rattle.whole_runs_laws.proofs.FaultsAbove.{events_seen, running}
use Rattle.whole_runs_memory.specs.Stands.{StandsForWhole}
use Rattle.whole_runs_seen.proofs.Threads.{threads_known}
use Rattle.whole_runs_seen.proofs.Wanted.{wanted_above}
use Rattle.recorder_memory.specs.declared.memory.Memory.{Memory}
use Rattle.recorder_memory.specs.Stands.{placed, StandsForRun}
use Rattle.recorder_memory.specs.Steps.{ComesTo, IsMarked, next_mark}
use Rattle.recorder_memory.proofs.Replies.{plain_reply}
use Rattle.recorder_memory.proofs.Marking.{along}

module _ (w : World) (past : List Mark) (old : Memory) (t : ℕ) (want : Want) (to : ComesTo w past old t Replay want) (same : seen_above want ≡ want) where
  wants_step : (program_of w).want to.step.thread (marks_of (begin w) to.step.thread (seen past)) ≡ want
  wants_step = wanted_above w to.fit.code past (threads_known w to.fit.code past to.follows) to.step to.side_is ∙ ap seen_above to.want_is ∙ same

  -- what its code wants, a replay sees it want
  pub is_wanted : above.IsWanted (program_of w) (placed w) (seen past) t want
  is_wanted = record {
    wants = subst (λ u. (program_of w).want u (marks_of (begin w) u (seen past)) ≡ want) to.thread wants_step;
    running = (running w past to.follows t).0;
  }

  module _ (new : Memory) (act : Act) where
    -- the mark that a replay sees is that of the run
    pub same_mark : above.next_mark (placed w) (seen past) t act ≡ next_mark w past t Replay act
    same_mark = ap (λ n. let m : Mark = record { thread = t; side = Replay; index = n; act = act } in m) (sym (ap length (events_seen w past to.follows (OfThread t))))

    pub above_marked : is_event act ≡ false → is_some (answer_to want act) ≡ true → Agrees w past t Replay want act →
        Passes (tests w past t Replay want) →
        StandsForAbove (program_of w) (placed w) (above.next_mark (placed w) (seen past) t act ∷ seen past) new.above →
        StandsForWhole w (next_mark w past t Replay act ∷ past) new.above.spaces → IsMarked w past to.step act new
    above_marked plain answers agrees passes stands whole = record {
      made = record {
        mark = record { of_thread = refl; index = refl; above = λ e. along w past old t Replay want to (λ u d v. Allowed (rules_above (interface w) (begin w) v) (begin w) (seen past) (next_mark w past u d act)) allowed };
        replies = along w past old t Replay want to (λ u d v. is_some (reply d v (next_mark w past u d act)) ≡ true) (plain_reply Replay want m plain refl answers);
        agrees = along w past old t Replay want to (λ u d v. Agrees w past u d v act) agrees;
        passes = along w past old t Replay want to (λ u d v. Passes (tests w past u d v)) passes;
      };
      stands = along w past old t Replay want to (λ u d v. StandsForRun w (next_mark w past u d act ∷ past) new) (record { whole = whole; above = there });
    }
      where
        m : Mark
        m = next_mark w past t Replay act

        there : StandsForAbove (program_of w) (placed w) (m ∷ seen past) new.above
        there = subst (λ q. StandsForAbove (program_of w) (placed w) (q ∷ seen past) new.above) same_mark stands

        by_rules : Allowed (replay_rules (program_of w) (begin w)) (begin w) (seen past) m
        by_rules = there.goes_well.calm.steps.0

        allowed : Allowed (rules_above (interface w) (begin w) want) (begin w) (seen past) m
        allowed = record {
          own = (by_rules.own.keys, subst (λ v. Carries (interface w) (begin w) t (marks_of (begin w) t (seen past)) v act) is_wanted.wants by_rules.own.carries);
          index = by_rules.index;
          steps = by_rules.steps;
          tickets = by_rules.tickets;
          shared = by_rules.shared;
          rises = by_rules.rises;
          least = by_rules.least;
          bytes = by_rules.bytes;
        }
