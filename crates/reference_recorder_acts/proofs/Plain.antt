-- A mark that is no event is that of the step, where it answers what the code wants and agrees with the run.
use Rattle.std.proofs.Common.{◌≡◌, ℕ, true, false, List, is_some, refl, sym, ap, ◌∙◌, subst}
use Rattle.marks.specs.declared.side.Side.{Side}
use Rattle.marks.specs.declared.side.Side.TheVariants.{Replay}
use Rattle.marks.specs.Marks.{Act, Turn, Mark, is_event}
use Rattle.marks.specs.Bytes.{Asks}
use Rattle.marks.specs.Wants.{Want, Turns, answer_to}
use Rattle.c_code.specs.MarkLists.{reply}
use Rattle.replay_runs.specs.Runs.{byte, marks_of}
use Rattle.replay_runs.specs.Rules.{Carries}
use Rattle.replay_runs.specs.Checks.{Passes}
use Rattle.whole_runs.specs.World.{World, begin, interface}
use Rattle.whole_runs.specs.Sides.{events_by, seen}
use Rattle.whole_runs.specs.Tests.{tests}
use Rattle.whole_runs.specs.Steps.{Agrees}
use Rattle.recorder_memory.proofs.Replies.{plain_reply, turn_answers}
use Rattle.recorder_threads.specs.declared.wants.Want.{Want as Said}
use Rattle.recorder_threads.specs.declared.wants.Want.TheVariants as told
use Rattle.reference_recorder_marks.specs.declared.mark.Act.{Act as ToldAct}
use Rattle.reference_recorder_marks.specs.declared.mark.Act.TheVariants as act
use Rattle.reference_recorder_marks.specs.declared.mark.Mark.{Mark as Told}
use Rattle.reference_recorder_marks.specs.Marks.{act_of, mark_of, without_origin}
use Rattle.reference_recorder_rules.specs.Steps.{IsAtStep, IsMadeAs, IsShownAs, IsToMake}
use Rattle.reference_recorder_acts.specs.Acts.{next_after}
use Rattle.reference_recorder_acts.proofs.Marked.{index_told, plain_mark}

module _ (w : World) (marks : List Told) (t : ℕ) (side : Side) (args : List ℕ) (said : Said) (at : IsAtStep w marks t side args said) where
  abbrev pub run : List Mark
  run = at.past.run

  -- the mark of the run that does this
  abbrev pub real_mark : Act → Mark
  real_mark a = record { thread = t; side = side; index = events_by w t run; act = a }

  -- it is shown by the mark that is made
  pub shown : (a : Act) (b : ToldAct) (made : Told) → without_origin a ≡ act_of b → made ≡ next_after marks t side b → IsShownAs (real_mark a) made
  shown a b made same is =
      let here : record (real_mark a) { act = without_origin a } ≡ mark_of (next_after marks t side b) =
      λ i. record { thread = t; side = side; index = sym (index_told w marks at.past t) i; act = same i } in
      here ∙ ap mark_of (sym is)

  module _ (want : Want) (is : at.step.want ≡ want) where
    -- what holds of the thread, its side and what it wants holds of the step, and the other way
    pub of_step : (P : ℕ → Side → Want → Type 0) → P t side want → P at.step.thread at.step.side at.step.want
    of_step P p = subst (λ u. P u at.step.side at.step.want) (sym at.of_thread) (subst (λ d. P t d at.step.want) (sym at.on_side) (subst (λ v. P t side v) (sym is) p))

    pub of_told : (P : ℕ → Side → Want → Type 0) → P at.step.thread at.step.side at.step.want → P t side want
    of_told P p = subst (λ v. P t side v) is (subst (λ d. P t d at.step.want) at.on_side (subst (λ u. P u at.step.side at.step.want) at.of_thread p))

    pub made_as : (passes : Passes (tests w run at.step.thread at.step.side at.step.want)) (a : Act) (b : ToldAct) → without_origin a ≡ act_of b →
        is_event a ≡ false → is_some (answer_to want a) ≡ true → Agrees w run t side want a →
        (side ≡ Replay → Carries (interface w) (begin w) t (marks_of (begin w) t (seen run)) want a) →
        (side ≡ Replay → Asks a (λ x. byte (begin w) x (seen run))) →
        (made : Told) → made ≡ next_after marks t side b → IsMadeAs w run at.step made
    made_as passes a b same plain answers agrees carries asks made made_is = record {
      mark = real_mark a;
      same = shown a b made same made_is;
      made = record {
        mark = plain_mark w run at.past.follows at.step (real_mark a) plain (sym at.of_thread) refl
            (λ e. subst (λ v. Carries (interface w) (begin w) t (marks_of (begin w) t (seen run)) v a) (sym is) (carries e)) asks;
        replies = of_step (λ u d v. is_some (reply d v (real_mark a)) ≡ true) (plain_reply side want (real_mark a) plain refl answers);
        agrees = of_step (λ u d v. Agrees w run u d v a) agrees;
        passes = passes;
      };
    }

-- a turn of a loop
pub turned : (w : World) (marks : List Told) (t : ℕ) (side : Side) (args : List ℕ) (to : IsToMake w marks t side args told.Turn) (made : Told) →
    made ≡ next_after marks t side act.Turn → IsMadeAs w to.at.past.run to.at.step made
turned w marks t side args to made is =
    made_as w marks t side args told.Turn to.at Turns to.at.told to.passes Turn act.Turn refl refl turn_answers tt (λ e. tt) (λ e. tt) made is
