-- An Alloc.
use Rattle.std.proofs.Common.{◌≡◌, ℕ, Bool, true, false, ◌||◌, List, [], ◌∷◌, length, Some, None, refl, sym, ap, ◌∙◌, subst, eq-eqb}
use Rattle.std.specs.Prelude.{is_some}
use Rattle.std.proofs.lemmas.List.{length-map}
use Rattle.run_events.specs.declared.event.Event.TheVariants as logged
use Rattle.run_events.specs.declared.event.Record.{Record}
use Rattle.run_events.specs.declared.key.Class.TheVariants.{Pool}
use Rattle.run_events.specs.declared.key.Key.{Key}
use Rattle.run_events.specs.declared.key.KeyMark.{KeyMark}
use Rattle.marks.specs.declared.side.Side.TheVariants.{Replay}
use Rattle.marks.specs.Places.{replay_pool}
use Rattle.marks.specs.Marks.{Alloc, Mark}
use Rattle.marks.specs.Wants.{Allocs, Value, answer_if, event_answer}
use Rattle.logical_clock.specs.Events.{is_among}
use Rattle.replay_runs.specs.Runs.{OfKey, new_events, same_key}
use Rattle.replay_runs.specs.Keys.{key}
use Rattle.replay_runs.specs.Checks.{Passes}
use Rattle.replay_runs.specs.Pool.{IsPlace, blocks}
use Rattle.replay_runs.specs.Rules.{SharedEvent}
use Rattle.replay_runs.proofs.Keys.{same_key_true}
use Rattle.steps_above_stamps.specs.declared.stamps.EventStamp.{EventStamp}
use Rattle.whole_runs.specs.declared.ending.Ending.{Ending}
use Rattle.whole_runs.specs.World.{World, begin, interface}
use Rattle.whole_runs.specs.Sides.{seen}
use Rattle.whole_runs.specs.Tests.{tests}
use Rattle.whole_runs.specs.Steps.{Picked}
use Rattle.whole_runs.specs.Records.{full_record}
use Rattle.recorder_book.proofs.Forms.{sized}
use Rattle.recorder_book.proofs.Lengths.{event_length}
use Rattle.recorder_memory.specs.declared.memory.Memory.{Memory}
use Rattle.recorder_memory.specs.Events.{Makes}
use Rattle.recorder_threads.specs.declared.wants.Want.TheVariants as told
use Rattle.recorder_state.specs.declared.state.RunState.{RunState}
use Rattle.recorder_state.specs.Turns.{IsAtStep}
use Rattle.recorder_state.specs.Ends.{IsEnded}
use Rattle.recorder_events.specs.Room.{HasSizeOf, IsRoomOrEnd}
use Rattle.recorder_events.specs.Making.{CanBe, IsComing, IsEventStep, IsRecorded, event_mark}
use Rattle.recorder_events.proofs.Steps.{coming, step_made}
use Rattle.recorder_events.proofs.Ending.{IsSized, ends_full}
use Rattle.recorder_events.proofs.Places.{place_is_there}

pub only_key : (j k : Key) → is_among (j ∷ []) k ≡ true → j ≡ k
only_key j k h = same_key_true j k (go (same_key j k) h)
  where
    go : (b : Bool) → (b || false) ≡ true → b ≡ true
    go true e = refl
    go false e = e

-- the address has no part in the size of the record
pub any_address : (w : World) (past : List Mark) (s : Picked w past) (size addr : ℕ) (stamp : EventStamp) (keys : ℕ) → length stamp.keys ≡ keys → HasSizeOf (logged.Alloc size 0) keys (event_mark w past s (Alloc addr size) stamp)
any_address w past s size addr stamp keys count n of =
    let m : Mark = event_mark w past s (Alloc addr size) stamp in
    let r : Record = full_record m in
    let at_null = of (record r { event = logged.Alloc size 0 }) refl count in
    let null = event_length (logged.Alloc size 0) keys 16 refl (record r { event = logged.Alloc size 0 }) refl count in
    let here = event_length (logged.Alloc size addr) keys 16 refl r refl count in
    at_null ∙ (sym null ∙ (here ∙ sized m))

module _ (w : World) (s : RunState) (t size : ℕ) (h : IsAtStep w s t Replay (told.Alloc size)) where
  abbrev past : List Mark
  past = h.reached.past

  abbrev IsHere : ℕ → Type 0
  IsHere addr = IsPlace replay_pool (blocks (begin w) (seen past)) size addr

  pub answer : (addr : ℕ) → event_answer h.step.want (Alloc addr size) ≡ Some (Value addr)
  answer addr = ap (λ v. event_answer v (Alloc addr size)) h.told ∙ ap (λ b. answer_if b (Value addr)) (eq-eqb size size refl)

  pub can_be : (addr : ℕ) → IsHere addr → CanBe w past h.step (Alloc addr size)
  can_be addr here = record {
    answers = ap is_some (answer addr);
    agrees = tt;
    carries = tt;
    shared = λ k among. subst (λ j. SharedEvent (interface w) (begin w) j.class j.value (new_events (OfKey j) (seen past)) (Alloc addr size)) (only_key (key Pool 0) k among) here;
    bytes = λ x. tt;
    passes = subst (λ d. Passes (tests w past h.step.thread d h.step.want)) (sym h.side_is) (subst (λ v. Passes (tests w past h.step.thread Replay v)) (sym h.told) tt);
  }

  -- the record has one key
  pub is_sized : (addr : ℕ) (here : IsHere addr) → IsSized w s h.reached h.step (Alloc addr size) (can_be addr here) (logged.Alloc size 0) 1
  is_sized addr here stamp keys = any_address w past h.step size addr stamp 1 (sym (length-map stamp.keys (λ (q : KeyMark). q.key)) ∙ ap length keys)

  pub ends : (end : Ending) → IsRoomOrEnd s.book (logged.Alloc size 0) 1 (Some end) → IsEnded w s end
  ends end full =
      let place = place_is_there replay_pool (blocks (begin w) (seen past)) size in
      ends_full w s h.reached h.step (Alloc place.0 size) (can_be place.0 place.1) (logged.Alloc size 0) 1 end (is_sized place.0 place.1) full

  module _ (addr : ℕ) (here : IsHere addr) (memory : Memory) where
    abbrev pub coming_so : IsComing w (record s { memory = memory }) t (key Pool 0 ∷ []) (logged.Alloc size addr)
    coming_so = coming w s t h.reached h.step h.thread (Alloc addr size) (can_be addr here) (key Pool 0 ∷ []) refl memory (logged.Alloc size addr) refl

    pub made_so : (new : RunState) → Makes s.memory t (key Pool 0 ∷ []) (Alloc addr size) memory → IsRoomOrEnd s.book (logged.Alloc size 0) 1 None
        → IsRecorded w past h.step (Alloc addr size) (key Pool 0 ∷ []) (record s { memory = memory }) new → IsEventStep w new t (Allocs size) (Value addr)
    made_so new makes room recorded = subst (λ v. IsEventStep w new t v (Value addr)) h.told
        (step_made w s t h.reached h.step h.thread (Alloc addr size) (can_be addr here) (key Pool 0 ∷ []) refl memory (logged.Alloc size 0) 1 (Value addr) new tt makes (is_sized addr here) room (answer addr) recorded)
