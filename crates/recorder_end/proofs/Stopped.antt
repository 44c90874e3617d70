-- The Stops of a run, one thread after the other.
use Rattle.std.proofs.Common.{◌≡◌, ℕ, zero, suc, ◌+◌, ◌≤◌, Bool, true, false, cond, eqb, List, [], ◌∷◌, ◌++◌, map, length, Option, refl, sym, ap, ◌∙◌, subst, arith, eqb-true}
use Rattle.std.specs.Prelude.{reverse, filter}
use Rattle.std.specs.List.{range_with_len}
use Rattle.std.proofs.lemmas.List.{append-nil, map-append, reverse-append}
use Rattle.std.proofs.lemmas.List.Elements.{filter-append}
use Rattle.run_events.specs.declared.event.Event.TheVariants as logged
use Rattle.run_events.specs.declared.event.Reason.{Reason}
use Rattle.run_events.specs.declared.event.Record.{Record}
use Rattle.run_events.specs.declared.key.KeyMark.{KeyMark}
use Rattle.marks.specs.declared.fault.FaultKind.{FaultKind}
use Rattle.marks.specs.declared.side.Side.TheVariants.{Replay}
use Rattle.marks.specs.Marks.{Made, Mark, Stop}
use Rattle.replay_runs.specs.Runs.{OfThread, events_with, last_clock, marks_of, steps_since}
use Rattle.replay_runs.specs.Records.{reason_of}
use Rattle.replay_runs.specs.Threads.{fault_of}
use Rattle.steps_above_stamps.specs.State.{StampsState}
use Rattle.steps_above_stamps.specs.Stamps.{AreStampsOf, CountsEvent, IsNextEvent, IsStampAfter, IsStamped, event_with}
use Rattle.steps_above_stamps.specs.declared.stamps.EventStamp.{EventStamp}
use Rattle.steps_above_stamps.proofs.Plain.{thread_follows}
use Rattle.whole_runs.specs.World.{World, begin}
use Rattle.whole_runs.specs.Sides.{seen, events_by}
use Rattle.whole_runs.specs.Threads.{in_replay_mode}
use Rattle.whole_runs.specs.Records.{full_record}
use Rattle.whole_runs.specs.Ends.{stop_of}
use Rattle.whole_runs_seen.proofs.BeforeStops.{IsBeforeStops}
use Rattle.recorder_memory.specs.Stands.{placed}
use Rattle.recorder_end.specs.Stops.{first_stops, with_stops}

range_more : (a n : ℕ) → range_with_len a (suc n) ≡ range_with_len a n ++ (a + n) ∷ []
range_more a zero = ap (λ k. k ∷ []) (omega arith)
range_more a (suc n) = ap (λ ks. a ∷ ks) (range_more (a + 1) n ∙ ap (λ k. range_with_len (a + 1) n ++ k ∷ []) (omega arith))

range_from_zero : (n : ℕ) → range_with_len 0 (suc n) ≡ range_with_len 0 n ++ n ∷ []
range_from_zero n = range_more 0 n ∙ ap (λ k. range_with_len 0 n ++ k ∷ []) (omega arith)

spread : (b : Bool) (m : Mark) (ms run : List Mark) → cond b (m ∷ ms) ms ++ run ≡ cond b (m ∷ (ms ++ run)) (ms ++ run)
spread true m ms run = refl
spread false m ms run = refl

pub no_keys : (qs : List KeyMark) → map (λ (q : KeyMark). q.key) qs ≡ [] → qs ≡ []
no_keys [] e = refl
no_keys (q ∷ qs) e = absurd cc

-- a later thread is another one
other : (A : Type 0) (x y : A) (n t : ℕ) → suc n ≤ t → cond (eqb n t) x y ≡ y
other A x y n t le = go (eqb n t) refl
  where
    go : (b : Bool) → eqb n t ≡ b → cond b x y ≡ y
    go true z = let same = eqb-true n t z in absurd (omega (arith, le, same))
    go false z = refl

-- the record of a Stop with these numbers
abbrev pub entry_of : (thread : ℕ) → EventStamp → Reason → Record
entry_of t e reason = record { thread = t; steps = e.steps; clock = e.clock; keys = e.keys; event = logged.Stop reason }

module _ (w : World) (run : List Mark) where
  abbrev stop : ℕ → Mark
  stop = stop_of w run

  abbrev mode : ℕ → Bool
  mode = in_replay_mode w run

  -- the next thread has one if it stands in replay mode
  pub first_more : (n : ℕ) → first_stops w run (suc n) ≡ cond (mode n) (stop n ∷ first_stops w run n) (first_stops w run n)
  first_more n = ap (λ ks. reverse (map stop (filter mode ks))) (range_from_zero n) ∙ (ap (λ ks. reverse (map stop ks)) (filter-append mode (range_with_len 0 n) (n ∷ [])) ∙ by (mode n))
    where
      before : List ℕ
      before = filter mode (range_with_len 0 n)

      by : (b : Bool) → reverse (map stop (before ++ cond b (n ∷ []) [])) ≡ cond b (stop n ∷ reverse (map stop before)) (reverse (map stop before))
      by true = ap reverse (map-append stop before (n ∷ [])) ∙ reverse-append (map stop before) (stop n ∷ [])
      by false = ap (λ ks. reverse (map stop ks)) (append-nil before)

  pub more : (n : ℕ) → with_stops w run (suc n) ≡ cond (mode n) (stop n ∷ with_stops w run n) (with_stops w run n)
  more n = ap (λ ms. ms ++ run) (first_more n) ∙ spread (mode n) (stop n) (first_stops w run n) run

  pub one_more : (n : ℕ) → mode n ≡ true → with_stops w run (suc n) ≡ stop n ∷ with_stops w run n
  one_more n e = more n ∙ ap (λ b. cond b (stop n ∷ with_stops w run n) (with_stops w run n)) e

  pub no_more : (n : ℕ) → mode n ≡ false → with_stops w run (suc n) ≡ with_stops w run n
  no_more n e = more n ∙ ap (λ b. cond b (stop n ∷ with_stops w run n) (with_stops w run n)) e

  -- what each Stop keeps is kept by all
  pub all_keep : (P : List Mark → Type 0) → P run → ((t : ℕ) (ms : List Mark) → P ms → P (stop t ∷ ms)) → (n : ℕ) → P (with_stops w run n)
  all_keep P begins keeps zero = begins
  all_keep P begins keeps (suc n) = subst P (sym (more n)) (by (mode n) (all_keep P begins keeps n))
    where
      by : (b : Bool) → P (with_stops w run n) → P (cond b (stop n ∷ with_stops w run n) (with_stops w run n))
      by true h = keeps n (with_stops w run n) h
      by false h = h

  module _ (there : IsBeforeStops w run) where
    -- the threads from k on did the same as before any Stop
    record IsApart (k : ℕ) (ms : List Mark) : Type 0 where
      mine : (t : ℕ) → k ≤ t → marks_of (begin w) t (seen ms) ≡ marks_of (begin w) t (seen run)
      events : (t : ℕ) → k ≤ t → events_with (begin w) (OfThread t) (seen ms) ≡ events_with (begin w) (OfThread t) run

    apart : (n : ℕ) → IsApart n (with_stops w run n)
    apart zero = record { mine = λ t le. refl; events = λ t le. sym (there.events (OfThread t)) }
    apart (suc n) = subst (IsApart (suc n)) (sym (more n)) (by (mode n) (apart n))
      where
        ms : List Mark
        ms = with_stops w run n

        by : (b : Bool) → IsApart n ms → IsApart (suc n) (cond b (stop n ∷ ms) ms)
        by true h = record {
          mine = λ t le. other (List Mark) (stop n ∷ marks_of (begin w) t (seen ms)) (marks_of (begin w) t (seen ms)) n t le ∙ h.mine t (omega (arith, le));
          events = λ t le. other (List Mark) (stop n ∷ events_with (begin w) (OfThread t) (seen ms)) (events_with (begin w) (OfThread t) (seen ms)) n t le ∙ h.events t (omega (arith, le));
        }
        by false h = record { mine = λ t le. h.mine t (omega (arith, le)); events = λ t le. h.events t (omega (arith, le)) }

    -- the thread's next event with these numbers, as its Stop
    module _ (n : ℕ) (e : EventStamp) (none : map (λ (q : KeyMark). q.key) e.keys ≡ []) (old : StampsState) (after : IsStampAfter old n e) (stand : AreStampsOf (placed w) (seen (with_stops w run n)) old) where
      abbrev fault : Option FaultKind
      fault = fault_of (marks_of (begin w) n (seen run))

      abbrev past : List Mark
      past = seen (with_stops w run n)

      abbrev given : Mark
      given = record { thread = n; side = Replay; index = events_by w n run; act = event_with (Stop fault) e }

      next : IsNextEvent (placed w) past n e given
      next = record { of_thread = refl; index = ap length (sym ((apart n).events n (omega arith))); kind = Stop fault; act = refl }

      stamped : IsStamped (begin w) past given
      stamped = after (placed w) past given stand next

      is_stop : given ≡ stop n
      is_stop =
          let keys : e.keys ≡ [] = no_keys e.keys none in
          let steps : e.steps ≡ steps_since (marks_of (begin w) n (seen run)) = stamped.steps refl ∙ ap steps_since ((apart n).mine n (omega arith)) in
          let clock : e.clock ≡ suc (last_clock (events_with (begin w) (OfThread n) run)) = thread_follows (begin w) past given refl keys stamped ∙ ap (λ es. suc (last_clock es)) ((apart n).events n (omega arith)) in
          λ i. record { thread = n; side = Replay; index = events_by w n run; act = Made (record { kind = Stop fault; steps = steps i; keys = keys i; clock = clock i }) }

      pub stamps_after : (new : StampsState) → CountsEvent n e old new → AreStampsOf (placed w) (seen (stop n ∷ with_stops w run n)) new
      stamps_after new counts = subst (λ (m : Mark). AreStampsOf (placed w) (m ∷ past) new) is_stop (counts (placed w) past given stand next)

      pub entry_is : (reason : Reason) → reason ≡ reason_of fault → entry_of n e reason ≡ full_record (stop n)
      entry_is reason is = ap (entry_of n e) is ∙ ap full_record is_stop
