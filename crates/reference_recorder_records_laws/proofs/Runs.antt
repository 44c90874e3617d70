-- Each event of a run has a record that can stand in a log.
use Rattle.std.proofs.Common.{◌≡◌, ℕ, zero, suc, ◌+◌, ◌<◌, ◌≤◌, Bool, true, false, cond, List, [], ◌∷◌, ◌++◌, length, map, reverse, Option, Some, None, refl, sym, ap, ◌∙◌, subst, arith}
use Rattle.std.specs.Prelude.{filter}
use Rattle.std.specs.List.{AllByRecursion, range_with_len}
use Rattle.std.proofs.lemmas.Bool.{true≢false}
use Rattle.std.proofs.lemmas.List.{reverse-reverse}
use Rattle.marks.specs.declared.fault.FaultKind.{FaultKind}
use Rattle.marks.specs.declared.fault.FaultKind.TheVariants.{Divide, Shift, NotLive, ReadOnly, StackFull, BadCall}
use Rattle.marks.specs.Marks.{Act, Turn, Load, Store, Enter, Leave, Step, Fault, Made, Mark, is_event}
use Rattle.log_codec.specs.LogText.{IsReason}
use Rattle.replay_runs.specs.Records.{reason_of}
use Rattle.replay_runs.specs.Runs.{OfThread, marks_of}
use Rattle.replay_runs.specs.Threads.{fault_of}
use Rattle.whole_runs.specs.declared.ending.Ending.{Ending}
use Rattle.whole_runs.specs.World.{World, begin}
use Rattle.whole_runs.specs.Sides.{seen}
use Rattle.whole_runs.specs.Outcomes.{started}
use Rattle.whole_runs.specs.Threads.{in_replay_mode}
use Rattle.whole_runs.specs.Steps.{IsMade, Picked}
use Rattle.whole_runs.specs.Records.{full_record}
use Rattle.whole_runs.specs.Ends.{Follows, IsLast, done, budget, blocked, fault, breach, script, events, full, IsRun, stop_of, stops}
use Rattle.whole_runs.specs.Fits.{IsFit}
use Rattle.whole_runs_laws.proofs.OneFault.{no_event}
use Rattle.whole_runs_seen.proofs.BeforeStops.{after_last}
use Rattle.recorder_book.proofs.Lists.{all_append, all_map, reverse_cons}
use Rattle.recorder_book.specs.Sizes.{IsInFull}
use Rattle.reference_recorder_marks.specs.declared.mark.Mark.{Mark as Marked}
use Rattle.reference_recorder_marks.specs.Marks.{mark_of, past, without_origin, without_origins}
use Rattle.reference_recorder_records.specs.Recordable.{AreRecordable, IsRecordable}
use Rattle.reference_recorder_laws.proofs.Short.{event_without, few_marks, same_act}
use Rattle.reference_recorder_laws.proofs.Stamped.{clocks_at_end, length_at_end}
use Rattle.reference_recorder_records_laws.proofs.Body.{can_stand}
use Rattle.reference_recorder_records_laws.proofs.Numbers.{steps_low}

plain : {b : Bool} → b ≡ false → b ≡ true → ⊥
plain f t = true≢false (sym t ∙ f)

abbrev CanStand : Mark → Type 0
CanStand m = is_event m.act ≡ true → IsInFull (full_record m)

-- a mark that a step makes
pub made_stands : (w : World) → IsFit w → (past : List Mark) → Follows w past → (s : Picked w past) (m : Mark) → IsMade w past s m → CanStand m
made_stands w fit before follows s m made = by m.act refl
  where
    by : (a : Act) → m.act ≡ a → CanStand m
    by (Made e) is event = can_stand w fit before follows s m made e is
    by Turn is event = absurd (plain (ap is_event is) event)
    by (Load o at bytes) is event = absurd (plain (ap is_event is) event)
    by (Store o at bytes) is event = absurd (plain (ap is_event is) event)
    by (Enter f args at bytes) is event = absurd (plain (ap is_event is) event)
    by (Leave at size) is event = absurd (plain (ap is_event is) event)
    by (Step f args v ins pieces freed) is event = absurd (plain (ap is_event is) event)
    by (Fault kind crosses ins outs access) is event = absurd (plain (ap is_event is) event)

all_stand : (w : World) → IsFit w → (run : List Mark) → Follows w run → AllByRecursion CanStand run
all_stand w fit [] follows = tt
all_stand w fit (m ∷ before) follows = (made_stands w fit before follows.1 follows.0.step m follows.0.made, all_stand w fit before follows.1)

all_reverse : (ms : List Mark) → AllByRecursion CanStand ms → AllByRecursion CanStand (reverse ms)
all_reverse [] h = tt
all_reverse (m ∷ ms) h = subst (AllByRecursion CanStand) (sym (reverse_cons m ms)) (all_append CanStand (reverse ms) (m ∷ []) (all_reverse ms h.1) (h.0, tt))

-- ---- the end of a run

reason_is : (o : Option FaultKind) → IsReason (reason_of o)
reason_is None = tt
reason_is (Some Divide) = (omega arith, omega arith)
reason_is (Some Shift) = (omega arith, omega arith)
reason_is (Some NotLive) = (omega arith, omega arith)
reason_is (Some ReadOnly) = (omega arith, omega arith)
reason_is (Some StackFull) = (omega arith, omega arith)
reason_is (Some BadCall) = (omega arith, omega arith)

numbers_low : (from count : ℕ) → from + count ≤ 32 → AllByRecursion (λ (t : ℕ). t < 32) (range_with_len from count)
numbers_low from zero le = tt
numbers_low from (suc count) le = (omega (arith, le), numbers_low (from + 1) count (omega (arith, le)))

filter_low : (p : ℕ → Bool) (ts : List ℕ) → AllByRecursion (λ (t : ℕ). t < 32) ts → AllByRecursion (λ (t : ℕ). t < 32) (filter p ts)
filter_low p [] h = tt
filter_low p (t ∷ ts) h = by (p t) (filter_low p ts h.1)
  where
    by : (b : Bool) → AllByRecursion (λ (u : ℕ). u < 32) (filter p ts) → AllByRecursion (λ (u : ℕ). u < 32) (cond b (t ∷ filter p ts) (filter p ts))
    by true more = (h.0, more)
    by false more = more

module _ (w : World) (fit : IsFit w) (before last : List Mark) (ending : Ending) (follows : Follows w before) (ends : IsLast w before last ending) where
  abbrev now : List Mark
  now = last ++ before

  many : length now ≤ 100_000_001
  many =
      let few = few_marks w fit before follows in
      let most = length_at_end w before last ending ends in
      omega (arith, few, most)

  stop_stands : (t : ℕ) → t < 32 → IsInFull (full_record (stop_of w now t))
  stop_stands t lt = record {
    thread = lt;
    steps = let le = steps_low w t now in omega (arith, le, many);
    clock =
        let le = clocks_at_end w before last ending follows ends (OfThread t) in
        let few = few_marks w fit before follows in
        omega (arith, le, few);
    key_count = omega arith;
    keys = tt;
    body = reason_is (fault_of (marks_of (begin w) t (seen now)));
  }

  stops_stand : AllByRecursion CanStand (stops w now)
  stops_stand =
      let few = (after_last w fit before follows last ending ends).few in
      all_reverse (map (stop_of w now) (filter (in_replay_mode w now) (range_with_len 0 (started now))))
      (all_map (λ (t : ℕ). t < 32) CanStand (stop_of w now) (λ t lt event. stop_stands t lt) (filter (in_replay_mode w now) (range_with_len 0 (started now)))
      (filter_low (in_replay_mode w now) (range_with_len 0 (started now)) (numbers_low 0 (started now) (omega (arith, few)))))

-- the fault that ends a run is no event
last_stands : (w : World) (before last : List Mark) (e : Ending) → IsLast w before last e → AllByRecursion CanStand last
last_stands w before last e (done a) = tt
last_stands w before last e (budget a b) = tt
last_stands w before last e (blocked a b) = tt
last_stands w before last e (fault {m = m} kind s found h) = (λ event. absurd (plain (no_event m.act kind h.kind_is) event), tt)
last_stands w before last e (breach kind x other s found) = tt
last_stands w before last e (script s passes lacks) = tt
last_stands w before last e (events m s made most) = tt
last_stands w before last e (full m s made room most) = tt

end_stands : (w : World) → IsFit w → (before : List Mark) → Follows w before → (last : List Mark) (e : Ending) → IsLast w before last e → AllByRecursion CanStand (last ++ before)
end_stands w fit before follows last e ends = all_append CanStand last before (last_stands w before last e ends) (all_stand w fit before follows)

run_stands : (w : World) → IsFit w → (run : List Mark) (e : Ending) → IsRun w run e → AllByRecursion CanStand run
run_stands w fit run e r =
    subst (AllByRecursion CanStand) (sym r.run_is)
    (all_append CanStand (stops w (r.last ++ r.past)) (r.last ++ r.past) (stops_stand w fit r.past r.last e r.follows r.ends) (end_stands w fit r.past r.follows r.last e r.ends))

-- ---- marks that a run comes to

abbrev bare : Mark → Mark
bare m = record m { act = without_origin m.act }

bare_stands : (m : Mark) → CanStand m → CanStand (bare m)
bare_stands m h event =
    let made : is_event m.act ≡ true = sym (event_without m.act) ∙ event in
    let same : bare m ≡ m = ap (λ (a : Act). record m { act = a }) (same_act m.act made) in
    subst (λ (n : Mark). IsInFull (full_record n)) (sym same) (h made)

recordable : (marks : List Marked) → AllByRecursion CanStand (map mark_of marks) → AreRecordable marks
recordable [] h = tt
recordable (m ∷ marks) h = (h.0, recordable marks h.1)

come_to : (run : List Mark) (marks : List Marked) → without_origins run ≡ past marks → AllByRecursion CanStand run → AreRecordable marks
come_to run marks same h =
    let all : AllByRecursion CanStand (without_origins run) = all_map CanStand CanStand bare bare_stands run h in
    recordable marks (subst (AllByRecursion CanStand) (reverse-reverse (map mark_of marks)) (all_reverse (past marks) (subst (AllByRecursion CanStand) same all)))

pub are_recordable : (w : World) → IsFit w → (run : List Mark) → Follows w run → (marks : List Marked) → without_origins run ≡ past marks → AreRecordable marks
are_recordable w fit run follows marks same = come_to run marks same (all_stand w fit run follows)

pub next_recordable : (w : World) → IsFit w → (before : List Mark) → Follows w before → (s : Picked w before) (m : Mark) → IsMade w before s m → (marked : Marked) → bare m ≡ mark_of marked → IsRecordable marked
next_recordable w fit before follows s m made marked same = subst CanStand same (bare_stands m (made_stands w fit before follows s m made))

pub end_recordable : (w : World) → IsFit w → (before : List Mark) → Follows w before → (last : List Mark) (e : Ending) → IsLast w before last e →
    (marks : List Marked) → without_origins (last ++ before) ≡ past marks → AreRecordable marks
end_recordable w fit before follows last e ends marks same = come_to (last ++ before) marks same (end_stands w fit before follows last e ends)

pub run_recordable : (w : World) → IsFit w → (run : List Mark) (e : Ending) → IsRun w run e → (marks : List Marked) → without_origins run ≡ past marks → AreRecordable marks
run_recordable w fit run e r marks same = come_to run marks same (run_stands w fit run e r)
