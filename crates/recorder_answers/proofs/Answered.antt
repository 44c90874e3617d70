-- A step in which a call is given a value and pieces: memory may be told of them, and what it says of the step then.
use Rattle.std.proofs.Common.{◌≡◌, ℕ, ◌+◌, ◌<◌, ◌≤◌, true, ◌&&◌, List, [], ◌∷◌, length, map, Option, Some, None, refl, sym, ap, ◌∙◌, subst, arith, eq-eqb}
use Rattle.std.specs.Prelude.{IfSome, is_some, option_map}
use Rattle.marks.specs.declared.side.Side.TheVariants.{Replay}
use Rattle.marks.specs.declared.range.Range.{Range}
use Rattle.marks.specs.Places.{thread_count}
use Rattle.marks.specs.Marks.{Mark, Ret}
use Rattle.marks.specs.Wants.{Gives, Value, answer_if, event_answer, same_numbers}
use Rattle.c_code.specs.Typed.{CarriesValues}
use Rattle.replay_runs.specs.Checks.{Passes}
use Rattle.replay_runs.specs.Interface.{Committing}
use Rattle.steps_above_memory.specs.declared.refusal.StepRefusal.{StepRefusal}
use Rattle.steps_above_memory.specs.Refusals.{IsFound}
use Rattle.whole_runs.specs.World.{World, interface}
use Rattle.whole_runs.specs.Picks.{asked}
use Rattle.whole_runs.specs.Below.{ByPool, NoMore, Says, given}
use Rattle.whole_runs.specs.Tests.{give_checks, ret_checks, tests}
use Rattle.whole_runs.specs.Steps.{Brings, BringsGiven}
use Rattle.whole_runs.specs.Fits.{committed}
use Rattle.whole_runs_memory.specs.Rets.{IsEnding}
use Rattle.whole_runs_seen.proofs.Threads.{threads_known}
use Rattle.whole_runs_threads.proofs.Values.{given_suits}
use Rattle.race_watch.specs.State.{WatchState}
use Rattle.recorder_memory.specs.declared.memory.Memory.{Memory}
use Rattle.recorder_memory.specs.Answers.{Answers, IsAnswer, RefusesAnswer, regions_of}
use Rattle.recorder_memory.specs.Below.{LeavesSeen}
use Rattle.recorder_memory.specs.Returns.{PassesReturn}
use Rattle.recorder_memory.proofs.Quiet.{calls_held}
use Rattle.recorder_system.specs.declared.given.Given.{Given}
use Rattle.recorder_system.specs.Calls.{HasInt, IsGiven, TellsGiven}
use Rattle.recorder_system.proofs.Values.{ints}
use Rattle.recorder_threads.specs.declared.wants.Want.TheVariants as told
use Rattle.recorder_threads.specs.Threads.{args_at}
use Rattle.recorder_state.specs.declared.state.RunState.{RunState}
use Rattle.recorder_state.specs.declared.stop.Stop.{Stop}
use Rattle.recorder_state.specs.Turns.{IsAtStep}
use Rattle.recorder_state.specs.Ends.{IsRefused, IsStopped, LacksAnswer}
use Rattle.recorder_plain.proofs.Steps.{carries, stops}
use Rattle.recorder_events.proofs.Marked.{around_with}
use Rattle.recorder_events.proofs.Steps.{watch_few}
use Rattle.recorder_returns.specs.Bringing.{committing_of}
use Rattle.recorder_returns.specs.Coming.{IsReturning}
use Rattle.recorder_returns.proofs.Closing.{ends_so}
use Rattle.recorder_returns.proofs.Said.{sizes_count}
use Rattle.recorder_answers.specs.Giving.{IsGiving}
use Rattle.recorder_answers.proofs.Faces.{IsBelow, gives_face}
use Rattle.recorder_answers.proofs.Given.{IsGivenWell, give_closes, given_well, no_pool}
use Rattle.recorder_answers.proofs.Interfaces.{target_count}

alike : (xs : List ℕ) → same_numbers xs xs ≡ true
alike [] = refl
alike (x ∷ xs) = (λ j. eq-eqb x x refl j && alike xs j)

module _ (w : World) (s : RunState) (t f : ℕ) (h : IsAtStep w s t Replay (told.Give f)) where
  abbrev pub past : List Mark
  past = h.reached.past

  abbrev pub args : List ℕ
  args = args_at s.threads t

  pub wants : h.step.want ≡ Gives f args
  wants = h.told

  pub below : IsBelow w.laid f
  below = gives_face w h.reached.fit past h.reached.follows h.step f args s.threads h.reached.around.shown.threads wants

  -- what it hands to a builtin that takes an int is one
  pub hands_ints : HasInt f args
  hands_ints = ints w.laid f args h.reached.fit.code.valid (subst (CarriesValues w.laid) wants (carries w s t Replay (told.Give f) h))

  -- what the system tells of it is what it is given
  pub told_so : (xs : List ℕ) (answer said : Given) → xs ≡ args → TellsGiven t f xs s.system answer → answer ≡ said → IsGiven w (given w past t f args) said
  told_so xs answer said same tells is = subst (IsGiven w (given w past t f args)) is (subst (λ ys. TellsGiven t f ys s.system answer) same tells w past h.reached.around.system)

  -- it isn't the pool that says what it comes to
  pub not_by_pool : given w past t f args ≡ ByPool → ⊥
  not_by_pool = no_pool w h.reached.fit past f args below t

  -- the file has no more answers of the function
  pub lacks : given w past t f args ≡ NoMore → LacksAnswer w s t Replay f
  lacks none = record {
    at = record {
      fit = h.reached.fit;
      past = past;
      follows = h.reached.follows;
      seen = h.reached.memory.above;
      shown = h.reached.around.shown;
      step = h.step;
      thread = h.thread;
      side_is = h.side_is;
    };
    passes = subst (λ x. Passes (tests w past t Replay x)) (sym wants) (subst (λ g. Passes (give_checks w past f args g)) (sym none) tt);
    lacks = record { args = args; asks = ap asked wants; none = subst (λ u. given w past u f args ≡ NoMore) (sym h.thread) none };
  }

module _ (w : World) (s : RunState) (t f v : ℕ) (pieces : List (List ℕ)) (g : IsGiving w s t f v pieces) where
  abbrev at : IsAtStep w s t Replay (told.Give f)
  at = g.at

  abbrev before : List Mark
  before = at.reached.past

  abbrev bs : List ℕ
  bs = args_at s.threads t

  abbrev pub used : List ℕ
  used = (interface w).used f bs v

  abbrev pub committing : Option (ℕ × ℕ)
  committing = committing_of ((interface w).commits f bs v)

  well : IsGivenWell w at.reached.fit before f bs (below w s t f at) v pieces
  well = given_well w at.reached.fit before f bs (below w s t f at) t v pieces
      (given_suits w at.reached.fit before (threads_known w at.reached.fit.code before at.reached.follows) t f v bs pieces g.given_so) g.given_so

  ending : IsEnding w before at.step.thread f bs v used committing
  ending = ends_so w at.reached.fit before at.reached.follows at.step f bs v (give_closes w at.reached.fit before at.reached.follows at.step f bs (wants w s t f at))

  ending_here : IsEnding w before t f bs v used committing
  ending_here = subst (λ u. IsEnding w before u f bs v used committing) at.thread ending

  -- ---- what memory is to have for the answer

  pub few : t < thread_count
  few = ending_here.thread

  pub regions_are : map (λ r. r.range) (regions_of s.memory.above.spaces t) ≡ (interface w).outs f bs
  regions_are = (calls_held w before s.memory t f bs ((interface w).outs f bs) at.reached.memory.above few ending_here.closes).regions

  pub sizes_are : length used ≡ length ((interface w).outs f bs)
  sizes_are = sizes_count ((interface w).outs f bs) used used ending_here.sizes

  pub some_pieces : length ((interface w).outs f bs) ≤ length pieces
  some_pieces = let n = well.count in omega (arith, n)

  last_piece : (o : Option Committing) → length pieces ≡ length ((interface w).outs f bs) + committed (is_some o) → IfSome (committing_of o) (λ _. length ((interface w).outs f bs) < length pieces)
  last_piece None n = tt
  last_piece (Some c) n = by c.used
    where
      by : (u : Option ℕ) → IfSome {T = ℕ × ℕ} (option_map (λ k. (c.key, k)) u) (λ _. length ((interface w).outs f bs) < length pieces)
      by None = tt
      by (Some k) = omega (arith, n)

  pub one_more : IfSome committing (λ _. length ((interface w).outs f bs) < length pieces)
  one_more = last_piece ((interface w).commits f bs v) well.count

  pub is_answer : IsAnswer w before t f bs v ((interface w).outs f bs) used committing pieces
  is_answer = record { ending = ending_here; outs_are = refl; count = well.count ∙ sym (target_count w before f bs v) }

  -- ---- what it says of the step

  given_here : given w before at.step.thread f bs ≡ Says v pieces
  given_here = subst (λ u. given w before u f bs ≡ Says v pieces) (sym at.thread) g.given_so

  tested : Passes (ret_checks w before f bs v pieces) → Passes (tests w before at.step.thread at.step.side at.step.want)
  tested passes =
      subst (λ d. Passes (tests w before at.step.thread d at.step.want)) (sym at.side_is)
      (subst (λ x. Passes (tests w before at.step.thread Replay x)) (sym (wants w s t f at))
      (subst (λ q. Passes (give_checks w before f bs q)) (sym given_here) passes))

  -- ---- as the stubs say it

  module _ (outs : List Range) (us : List ℕ) (under : Option (ℕ × ℕ)) (outs_so : outs ≡ (interface w).outs f bs) (used_so : us ≡ used) (commit_so : under ≡ committing) where
    pub said_regions : map (λ r. r.range) (regions_of s.memory.above.spaces t) ≡ outs
    said_regions = regions_are ∙ sym outs_so

    pub said_sizes : length us ≡ length outs
    said_sizes = ap length used_so ∙ (sizes_are ∙ sym (ap length outs_so))

    pub said_pieces : length outs ≤ length pieces
    said_pieces = subst (λ o. length o ≤ length pieces) (sym outs_so) some_pieces

    pub said_one_more : IfSome under (λ _. length outs < length pieces)
    said_one_more = subst (λ o. IfSome under (λ _. length o < length pieces)) (sym outs_so) (subst (λ q. IfSome q (λ _. length ((interface w).outs f bs) < length pieces)) (sym commit_so) one_more)

    same : (P : List Range → List ℕ → Option (ℕ × ℕ) → Type 0) → P outs us under → P ((interface w).outs f bs) used committing
    same P p = subst (λ o. P o used committing) outs_so (subst (λ u. P outs u committing) used_so (subst (λ q. P outs us q) commit_so p))

    module _ (new : Memory) where
      -- its Ret comes next
      pub returning : Answers s.memory t outs us under pieces new → PassesReturn new t us under → new.above.watch ≡ s.memory.above.watch → IsReturning w (record s { memory = new }) t f v (Value v)
      returning answers passes watch =
          let answered = same (λ o u q. Answers s.memory t o u q pieces new) answers w before f bs v at.reached.memory is_answer in
          let passed = same (λ o u q. PassesReturn new t u q) passes w before f bs v pieces answered ending_here in
          record {
            fit = at.reached.fit;
            past = before;
            follows = at.reached.follows;
            steps = at.reached.steps;
            around = around_with w before s new at.reached.around;
            few = subst (λ n. n < 4000000000) (sym (ap (λ (x : WatchState). x.events) watch)) (watch_few w s at.reached);
            step = at.step;
            thread = at.thread;
            side_is = at.side_is;
            answer = pieces;
            wanted = record {
              answers = λ same up commit. ap (λ x. event_answer x (Ret f bs v same up commit)) (wants w s t f at) ∙ (λ j. answer_if (eq-eqb f f refl j && alike bs j) (Value v));
              brings = λ up has. subst (λ x. Brings w before at.step.thread x v up) (sym (wants w s t f at)) (subst (BringsGiven w before f bs v up) (sym given_here) (refl, has));
            };
            of_interface = well.said;
            ending = ending;
            answered = answered;
            tested = tested passed;
            passes = passed;
          }

      -- or its tests find why it is refused
      pub refused : (r : StepRefusal) (end : Stop) → ((u : World) (n : RunState) → IsRefused u n t Replay r → IsStopped u n end) → RefusesAnswer s.memory t outs us under pieces r → LeavesSeen s.memory new → IsStopped w (record s { memory = new }) end
      refused r end ends refuses leaves =
          stops w s t Replay (told.Give f) at (Gives f bs) (wants w s t f at) r end new ends
          (subst (λ q. IsFound (give_checks w before f bs q) r) (sym g.given_so) (same (λ o u q. RefusesAnswer s.memory t o u q pieces r) refuses w before f bs v at.reached.memory is_answer))
          (leaves w before at.reached.memory)
