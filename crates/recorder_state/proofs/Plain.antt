-- What a mark that is no event leaves as it is.
use Rattle.std.proofs.Common.{◌≡◌, ℕ, ◌+◌, Bool, true, false, cond, ◌&&◌, eqb, List, [], ◌∷◌, ◌++◌, map, length, Option, None, refl, sym, ap, ◌∙◌, subst, arith}
use Rattle.std.specs.Prelude.{reverse, sum_by}
use Rattle.std.specs.List.{flat_map, range_with_len, AllByRecursion}
use Rattle.run_events.specs.declared.key.Class.TheVariants.{Callback, Out}
use Rattle.marks.specs.declared.side.Side.TheVariants.{Replay, System}
use Rattle.marks.specs.Places.{thread_count}
use Rattle.marks.specs.Marks.{Act, Turn, Load, Store, Enter, Leave, Step, Fault, Made, Mark, is_event}
use Rattle.marks.specs.Bytes.{Byte}
use Rattle.c_code.specs.MarkLists.{same_side}
use Rattle.log_codec.specs.LogText.{chunk_text, head_text}
use Rattle.replay_runs.specs.Runs.{Link, OfThread, OfKey, counts, events_after, has, is_fault, is_listed, keys_of, last_clock, marks_of, new_events, steps_since}
use Rattle.replay_runs.specs.Keys.{key}
use Rattle.replay_runs.specs.Interface.{Interface}
use Rattle.replay_runs.specs.Pool.{registered_from}
use Rattle.replay_runs.specs.Records.{printed_by}
use Rattle.replay_runs.specs.Laws.{fresh}
use Rattle.steps_above_interface.specs.State.{KeptState}
use Rattle.steps_above_interface.specs.Returns.{act_index, last_index}
use Rattle.steps_above_interface.specs.Stands as functions
use Rattle.logical_clock.specs.Counts.{Counts}
use Rattle.logical_clock.specs.Counts as clocks
use Rattle.steps_above_stamps.specs.State.{StampsState}
use Rattle.steps_above_stamps.specs.Stamps.{AreStampsOf, and_event, occurrences}
use Rattle.whole_runs.specs.World.{World}
use Rattle.whole_runs.specs.Sides.{seen}
use Rattle.whole_runs.specs.Outcomes.{act_outcome}
use Rattle.whole_runs.specs.Records.{full_record, size_of, version}
use Rattle.whole_runs.specs.Ends.{events_of}
use Rattle.whole_runs.specs.Log.{act_printed, chunks, kept_back, last_records, replay_output, system_output}
use Rattle.whole_runs.specs.Recorded.{full_records}
use Rattle.recorder_book.specs.Book.{BookState, IsBookOf, IsOfAThread}

append_nil : {X : Type 0} (xs : List X) → xs ++ [] ≡ xs
append_nil [] = refl
append_nil (x ∷ xs) = ap (λ ys. x ∷ ys) (append_nil xs)

no_keys : (a : Act) → is_event a ≡ false → keys_of a ≡ []
no_keys Turn h = refl
no_keys (Load o at bytes) h = refl
no_keys (Store o at bytes) h = refl
no_keys (Enter f args at bytes) h = refl
no_keys (Leave at size) h = refl
no_keys (Step f args v ins pieces freed) h = refl
no_keys (Fault kind crosses ins outs access) h = refl
no_keys (Made ev) h = absurd cc

no_index : (f n : ℕ) (last : Option ℕ) (a : Act) → is_event a ≡ false → act_index f n a last ≡ last
no_index f n last Turn h = refl
no_index f n last (Load o at bytes) h = refl
no_index f n last (Store o at bytes) h = refl
no_index f n last (Enter g args at bytes) h = refl
no_index f n last (Leave at size) h = refl
no_index f n last (Step g args v ins pieces freed) h = refl
no_index f n last (Fault kind crosses ins outs access) h = refl
no_index f n last (Made ev) h = absurd cc

nothing_printed : (t : ℕ) (a : Act) → act_outcome t a ≡ None → act_printed a ≡ []
nothing_printed t Turn h = refl
nothing_printed t (Load o at bytes) h = refl
nothing_printed t (Store o at bytes) h = refl
nothing_printed t (Enter f args at bytes) h = refl
nothing_printed t (Leave at size) h = refl
nothing_printed t (Step f args v ins pieces freed) h = absurd cc
nothing_printed t (Fault kind crosses ins outs access) h = refl
nothing_printed t (Made ev) h = refl

-- it is a step, if it is no fault
pub is_counted : (a : Act) → is_event a ≡ false → is_fault a ≡ 0 → counts a ≡ 1
is_counted Turn p h = refl
is_counted (Load o at bytes) p h = refl
is_counted (Store o at bytes) p h = refl
is_counted (Enter f args at bytes) p h = refl
is_counted (Leave at size) p h = refl
is_counted (Step f args v ins pieces freed) p h = refl
is_counted (Fault kind crosses ins outs access) p h = absurd cc
is_counted (Made ev) p h = absurd cc

-- what a replay sees of a run with a mark
pub seen_above : (past : List Mark) (m : Mark) → m.side ≡ Replay → seen (m ∷ past) ≡ m ∷ seen past
seen_above past m e = ap (λ s. cond (same_side s Replay) (m ∷ seen past) (seen past)) e

pub seen_below : (past : List Mark) (m : Mark) → m.side ≡ System → seen (m ∷ past) ≡ seen past
seen_below past m e = ap (λ s. cond (same_side s Replay) (m ∷ seen past) (seen past)) e

-- what stands for what a replay sees, with the mark or without it
pub with_seen : (P : List Mark → Type 0) (past : List Mark) (m : Mark) → P (m ∷ seen past) → P (seen past) → P (seen (m ∷ past))
with_seen P past m above below = by (same_side m.side Replay)
  where
    by : (b : Bool) → P (cond b (m ∷ seen past) (seen past))
    by true = above
    by false = below

pub same_system_output : (past : List Mark) (m : Mark) (t : ℕ) → act_outcome t m.act ≡ None → system_output (m ∷ past) ≡ system_output past
same_system_output past m t none = ap (λ xs. system_output past ++ xs) (nothing_printed t m.act none) ∙ append_nil (system_output past)

module _ (m : Mark) (plain : is_event m.act ≡ false) where
  no_link : (l : Link) → has m l ≡ false
  no_link (OfThread t) = ap (λ b. b && eqb m.thread t) plain
  no_link (OfKey k) = ap (λ qs. is_listed qs k) (no_keys m.act plain)

  same_events : (before : List Mark) (l : Link) (past : List Mark) → events_after before l (m ∷ past) ≡ events_after before l past
  same_events before l past = ap (λ b. cond b (m ∷ events_after before l past) (events_after before l past)) (no_link l)

  -- nothing is printed above the cut
  pub same_output : (w : World) (past : List Mark) → replay_output w (m ∷ past) ≡ replay_output w past
  same_output w past =
      with_seen (λ ms. printed_by (new_events (OfKey (key Out 0)) ms) ≡ printed_by (new_events (OfKey (key Out 0)) (seen past))) past m
      (ap printed_by (same_events [] (OfKey (key Out 0)) (seen past))) refl

  -- the book stands
  pub same_book : (w : World) (past : List Mark) (b : BookState) → IsBookOf w past b → IsBookOf w (m ∷ past) b
  same_book w past b h = record {
    chunk = h.chunk;
    events = h.events ∙ ap length (sym events_are);
    bytes = h.bytes ∙ ap (sum_by size_of) (sym events_are);
    own = subst (AllByRecursion IsOfAThread) (sym events_are) h.own;
    threads = h.threads ∙ sym records_are;
    log = h.log ∙ ap (λ cs. head_text version ++ flat_map (chunk_text version.number) cs) (sym chunks_are);
  }
    where
      events_are : events_of (m ∷ past) ≡ events_of past
      events_are = ap (λ c. cond c (m ∷ events_of past) (events_of past)) plain

      records_are : full_records w (m ∷ past) ≡ full_records w past
      records_are = λ i. map (λ t. reverse (map full_record (same_events [] (OfThread t) past i))) (range_with_len 0 thread_count)

      chunks_are : chunks w (m ∷ past) ≡ chunks w past
      chunks_are = ap (λ c. chunks w past ++ cond (c && eqb (kept_back w (m ∷ past) m.thread) 0) (last_records w (m ∷ past) m.thread w.file.chunk ∷ []) []) plain ∙ append_nil (chunks w past)

  -- and what is kept of functions
  pub same_functions : (i : Interface) (memory : ℕ → Byte) (past : List Mark) (s : KeptState) → functions.IsStateOf i memory past s → functions.IsStateOf i memory (m ∷ past) s
  same_functions i memory past s h = record {
    registered = λ f lt. h.registered f lt ∙ sym (ap (registered_from false) (same_events [] (OfKey (key Callback f)) past));
    returned = λ t f lt few cached. h.returned t f lt few cached ∙ sym (last t f (eqb m.thread t));
  }
    where
      last : (t f : ℕ) (b : Bool) → last_index f (cond b (m ∷ marks_of (fresh memory) t past) (marks_of (fresh memory) t past)) ≡ last_index f (marks_of (fresh memory) t past)
      last t f true = no_index f m.index (last_index f (marks_of (fresh memory) t past)) m.act plain
      last t f false = refl

  -- a fault is no step
  pub same_stamps : (memory : ℕ → Byte) (past : List Mark) (s : StampsState) → is_fault m.act ≡ 1 → AreStampsOf memory past s → AreStampsOf memory (m ∷ past) s
  same_stamps memory past s fault h = record {
    counts = subst (λ os. Counts os s.clocks) (sym occurrences_are) h.counts;
    clocks = λ l. ap last_clock (same_events [] l past) ∙ (h.clocks l ∙ ap (λ os. clocks.last_clock os l) (sym occurrences_are));
    steps = λ t lt. h.steps t lt ∙ sym (since t (eqb m.thread t));
  }
    where
      none : (a : Act) → is_event a ≡ false → and_event m.thread a (occurrences past) ≡ occurrences past
      none Turn p = refl
      none (Load o at bytes) p = refl
      none (Store o at bytes) p = refl
      none (Enter g args at bytes) p = refl
      none (Leave at size) p = refl
      none (Step g args v ins pieces freed) p = refl
      none (Fault kind crosses ins outs access) p = refl
      none (Made ev) p = absurd cc

      occurrences_are : occurrences (m ∷ past) ≡ occurrences past
      occurrences_are = none m.act plain

      uncounted : (a : Act) → is_fault a ≡ 1 → counts a ≡ 0
      uncounted (Fault kind crosses ins outs access) e = refl
      uncounted Turn e = absurd cc
      uncounted (Load o at bytes) e = absurd cc
      uncounted (Store o at bytes) e = absurd cc
      uncounted (Enter g args at bytes) e = absurd cc
      uncounted (Leave at size) e = absurd cc
      uncounted (Step g args v ins pieces freed) e = absurd cc
      uncounted (Made ev) e = refl

      since : (t : ℕ) (b : Bool) → steps_since (cond b (m ∷ marks_of (fresh memory) t past) (marks_of (fresh memory) t past)) ≡ steps_since (marks_of (fresh memory) t past)
      since t false = refl
      since t true = ap (λ c. cond c 0 (counts m.act + steps_since (marks_of (fresh memory) t past))) plain ∙ (let k = uncounted m.act fault in omega (arith, k))
