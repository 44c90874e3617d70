-- A Free.
use Rattle.std.proofs.Common.{◌≡◌, ℕ, List, [], ◌∷◌, length, Some, None, refl, sym, ap, ◌∙◌, subst, eq-eqb}
use Rattle.std.specs.Prelude.{is_some}
use Rattle.std.proofs.lemmas.List.{length-map}
use Rattle.run_events.specs.declared.event.Event.TheVariants as logged
use Rattle.run_events.specs.declared.key.Class.TheVariants.{Pool}
use Rattle.run_events.specs.declared.key.KeyMark.{KeyMark}
use Rattle.marks.specs.declared.side.Side.TheVariants.{Replay}
use Rattle.marks.specs.Marks.{Free, Mark}
use Rattle.marks.specs.Wants.{Frees, Go, answer_if, event_answer}
use Rattle.replay_runs.specs.Runs.{OfKey, new_events}
use Rattle.replay_runs.specs.Keys.{key}
use Rattle.replay_runs.specs.Checks.{Passes}
use Rattle.replay_runs.specs.Rules.{SharedEvent}
use Rattle.steps_above_memory.specs.declared.refusal.StepRefusal.{StepRefusal}
use Rattle.steps_above_memory.specs.Refusals.{IsFound}
use Rattle.whole_runs.specs.declared.ending.Ending.{Ending}
use Rattle.whole_runs.specs.World.{World, begin, interface}
use Rattle.whole_runs.specs.Sides.{seen}
use Rattle.whole_runs.specs.Tests.{tests}
use Rattle.recorder_memory.specs.declared.memory.Memory.{Memory}
use Rattle.recorder_memory.specs.Steps.{ComesTo, Refuses}
use Rattle.recorder_memory.specs.Events.{HasBlock, Makes, Takes}
use Rattle.recorder_threads.specs.declared.wants.Want.TheVariants as told
use Rattle.recorder_state.specs.declared.state.RunState.{RunState}
use Rattle.recorder_state.specs.Turns.{IsAtStep}
use Rattle.recorder_state.specs.Ends.{IsEnded, IsRefused as IsRefusedStep}
use Rattle.recorder_events.specs.Room.{IsRoomOrEnd}
use Rattle.recorder_events.specs.Making.{CanBe, IsComing, IsEventStep, IsRecorded}
use Rattle.recorder_events.proofs.Allocs.{only_key}
use Rattle.recorder_events.proofs.Ending.{IsSized, ends_full}
use Rattle.recorder_events.proofs.Sized.{event_sized}
use Rattle.recorder_events.proofs.Steps.{coming, step_made}

-- ---- the step

module _ (w : World) (s : RunState) (t addr : ℕ) (h : IsAtStep w s t Replay (told.Free addr)) where
  abbrev past : List Mark
  past = h.reached.past

  pub comes : ComesTo w past s.memory t Replay (Frees addr)
  comes = record {
    fit = h.reached.fit;
    follows = h.reached.follows;
    stands = h.reached.memory;
    step = h.step;
    thread = h.thread;
    side_is = h.side_is;
    want_is = h.told;
    modes = tt;
  }

  pub answer : (size : ℕ) → event_answer h.step.want (Free addr size) ≡ Some Go
  answer size = ap (λ v. event_answer v (Free addr size)) h.told ∙ ap (λ b. answer_if b Go) (eq-eqb addr addr refl)

  tested : Passes (tests w past t Replay (Frees addr)) → Passes (tests w past h.step.thread h.step.side h.step.want)
  tested p = subst (λ u. Passes (tests w past u h.step.side h.step.want)) (sym h.thread)
      (subst (λ d. Passes (tests w past t d h.step.want)) (sym h.side_is) (subst (λ v. Passes (tests w past t Replay v)) (sym h.told) p))

  pub can_be : (size : ℕ) → Takes s.memory t Replay (Frees addr) → HasBlock s.memory t addr size → CanBe w past h.step (Free addr size)
  can_be size takes block = record {
    answers = ap is_some (answer size);
    agrees = tt;
    carries = (block w past comes).null;
    shared = λ k among. subst (λ j. SharedEvent (interface w) (begin w) j.class j.value (new_events (OfKey j) (seen past)) (Free addr size)) (only_key (key Pool 0) k among) tt;
    bytes = (block w past comes).asks;
    passes = tested (takes w past comes);
  }

  module _ (size : ℕ) (takes : Takes s.memory t Replay (Frees addr)) (block : HasBlock s.memory t addr size) where
    pub is_sized : IsSized w s h.reached h.step (Free addr size) (can_be size takes block) (logged.Free addr) 1
    is_sized stamp keys = event_sized w past h.step (Free addr size) stamp 1 (sym (length-map stamp.keys (λ (q : KeyMark). q.key)) ∙ ap length keys) (logged.Free addr) refl

    pub ends : (end : Ending) → IsRoomOrEnd s.book (logged.Free addr) 1 (Some end) → IsEnded w s end
    ends end full = ends_full w s h.reached h.step (Free addr size) (can_be size takes block) (logged.Free addr) 1 end is_sized full

    module _ (memory : Memory) where
      abbrev pub coming_so : IsComing w (record s { memory = memory }) t (key Pool 0 ∷ []) (logged.Free addr)
      coming_so = coming w s t h.reached h.step h.thread (Free addr size) (can_be size takes block) (key Pool 0 ∷ []) refl memory (logged.Free addr) refl

      pub made_so : (new : RunState) → Makes s.memory t (key Pool 0 ∷ []) (Free addr size) memory → IsRoomOrEnd s.book (logged.Free addr) 1 None
          → IsRecorded w past h.step (Free addr size) (key Pool 0 ∷ []) (record s { memory = memory }) new → IsEventStep w new t (Frees addr) Go
      made_so new makes room recorded = subst (λ v. IsEventStep w new t v Go) h.told
          (step_made w s t h.reached h.step h.thread (Free addr size) (can_be size takes block) (key Pool 0 ∷ []) refl memory (logged.Free addr) 1 Go new tt makes is_sized room (answer size) recorded)

  -- its tests find this
  pub refused : (refusal : StepRefusal) → Refuses s.memory t Replay (Frees addr) refusal → IsRefusedStep w s t Replay refusal
  refused refusal refuses = record {
    at = record {
      fit = h.reached.fit;
      past = past;
      follows = h.reached.follows;
      seen = h.reached.memory.above;
      shown = h.reached.around.shown;
      step = h.step;
      thread = h.thread;
      side_is = h.side_is;
    };
    found = subst (λ v. IsFound (tests w past t Replay v) refusal) (sym h.told) (refuses w past comes);
  }
