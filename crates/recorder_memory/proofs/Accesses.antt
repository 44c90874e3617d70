-- Loads and stores below the cut.
use Rattle.std.proofs.Common.{◌≡◌, ℕ, ◌^◌, ◌<◌, Bool, true, false, Option, Some, None, IfSome, refl, sym, subst}
use Rattle.std.specs.Prelude.{IsSome}
use Rattle.marks.specs.declared.side.Side.TheVariants.{System}
use Rattle.marks.specs.Places.{thread_count}
use Rattle.marks.specs.declared.range.Range.{Range}
use Rattle.marks.specs.Ranges.{range, bytes_of_number}
use Rattle.marks.specs.Marks.{Load, Store}
use Rattle.marks.specs.Wants.{Loads, Stores}
use Rattle.space_memory_bytes.specs.Numbers.{HasNumber, SameOutside}
use Rattle.space_memory_access.specs.declared.refusal.Refusal.{Refusal}
use Rattle.space_memory_access.specs.Accesses.{IsAllowed, IsRefused}
use Rattle.space_memory_laws.proofs.Digits.{bytes_of}
use Rattle.replay_runs.specs.Checks.{Done, Passes}
use Rattle.steps_above_memory.specs.declared.refusal.StepRefusal.{StepRefusal}
use Rattle.steps_above_memory.specs.Refusals.{IsFound, refusal_of}
use Rattle.steps_above_memory.proofs.Ranges.{as_found}
use Rattle.whole_runs.specs.Below.{touch_checks}
use Rattle.whole_runs_memory.specs.Stands.{IsWholeMark}
use Rattle.whole_runs_memory.specs.Refusals.{access_below}
use Rattle.whole_runs_memory.proofs.Below as whole
use Rattle.whole_runs_memory.proofs.Plain as whole_plain
use Rattle.whole_runs_memory.proofs.Refusals.{touches}
use Rattle.recorder_memory.specs.declared.memory.Memory.{Memory}
use Rattle.recorder_memory.specs.Steps.{Makes, Refuses, next_mark}
use Rattle.recorder_memory.proofs.Replies.{load_answers, store_answers}
use Rattle.recorder_memory.proofs.Marking.{below_stands, below_marked}

module _ (old new : Memory) (t addr width : ℕ) (origin : Option ℕ) (lt : t < thread_count) (small : addr < 2 ^ 64) where
  abbrev r : Range
  r = record { addr = addr; len = width }

  abbrev Allowed : Bool → Type 0
  Allowed write = IsAllowed old.above.spaces.bytes old.above.spaces.held.regions (access_below t write r)

  abbrev Refused : Bool → Refusal → Type 0
  Refused write = IsRefused old.above.spaces.bytes old.above.spaces.held.regions (access_below t write r)

  pub load_made : (value : ℕ) → Allowed false → HasNumber old.above.spaces.bytes addr width value → Makes old t System (Loads origin addr width) (Load origin addr (bytes_of_number width value)) old
  load_made value ok has w past to =
      let act = Load origin addr (bytes_of_number width value) in
      let mark : IsWholeMark w past (Loads origin addr width) (next_mark w past t System act) old.above.spaces =
      whole_plain.loads w past old.above.spaces (next_mark w past t System act)
      (Loads origin addr width) origin addr width value to.stands.whole has refl in
      below_marked w past old old t (Loads origin addr width) to act refl (load_answers origin addr width value) mark.agrees
      ((touches w past old.above.spaces t false r to.stands.whole lt small).passes.1 ok)
      (below_stands w past old old (next_mark w past t System act) refl to.stands refl mark.stands)

  pub load_refused : (refused : Refusal) (found : StepRefusal) → Refused false refused → found ≡ refusal_of refused → Refuses old t System (Loads origin addr width) found
  load_refused refused found p is w past to =
      subst (IsFound (touch_checks w past t false r Done)) (sym is)
      (as_found (touch_checks w past t false r Done) refused ((touches w past old.above.spaces t false r to.stands.whole lt small).of_refused refused p))

  pub store_made : (value : ℕ) → Allowed true → HasNumber new.above.spaces.bytes addr width value →
      SameOutside r old.above.spaces.bytes new.above.spaces.bytes →
      new.above.spaces ≡ record old.above.spaces { bytes = new.above.spaces.bytes } → new.above.watch ≡ old.above.watch →
      Makes old t System (Stores origin addr (bytes_of_number width value)) (Store origin addr (bytes_of_number width value)) new
  store_made value ok has outside rest same w past to =
      let bytes = bytes_of_number width value in
      let act = Store origin addr bytes in
      below_marked w past old new t (Stores origin addr bytes) to act refl (store_answers origin addr bytes) tt
      (subst (λ n. Passes (touch_checks w past t true (range addr n) Done)) (sym (bytes_of width value).count) ((touches w past old.above.spaces t true r to.stands.whole lt small).passes.1 ok))
      (below_stands w past old new (next_mark w past t System act) refl to.stands same
      (whole.stores w past old.above.spaces new.above.spaces (next_mark w past t System act) origin t addr width value to.stands.whole refl small (record { allowed = ok; number = has; others = outside; rest = rest }) refl))

  pub store_refused : (value : ℕ) (refused : Refusal) (found : StepRefusal) → Refused true refused → found ≡ refusal_of refused →
      Refuses old t System (Stores origin addr (bytes_of_number width value)) found
  store_refused value refused found p is w past to =
      subst (λ n. IsFound (touch_checks w past t true (range addr n) Done) found) (sym (bytes_of width value).count)
      (subst (IsFound (touch_checks w past t true r Done)) (sym is)
      (as_found (touch_checks w past t true r Done) refused ((touches w past old.above.spaces t true r to.stands.whole lt small).of_refused refused p)))

-- a load that a glance shows
pub load_seen : (old : Memory) (t addr width : ℕ) (o : Option ℕ) → t < thread_count → addr < 2 ^ 64 → (IsSome o → IsAllowed old.above.spaces.bytes old.above.spaces.held.regions (access_below t false (record { addr = addr; len = width })))
    → IfSome o (HasNumber old.above.spaces.bytes addr width) → IfSome o (λ value. (origin : Option ℕ) → Makes old t System (Loads origin addr width) (Load origin addr (bytes_of_number width value)) old)
load_seen old t addr width None lt small ok has = tt
load_seen old t addr width (Some v) lt small ok has = λ origin. load_made old old t addr width origin lt small v (ok refl) has
