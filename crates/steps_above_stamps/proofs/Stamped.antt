-- What the clocks count gives the numbers of the next event.
use Rattle.std.proofs.Common.{◌≡◌, ℕ, zero, suc, ◌^◌, ◌<◌, ◌≤◌, Bool, true, false, ◌||◌, cond, eqb, List, [], ◌∷◌, map, length, get_or, ⊎_elim, refl, sym, ap, ◌∙◌, subst, arith, eq-eqb, eqb-true}
use Rattle.std.specs.Prelude.{slice_index}
use Rattle.std.proofs.Math.ListN.{set}
use Rattle.std.proofs.lemmas.Bool.{cases_eq, true≢false}
use Rattle.std.proofs.lemmas.Bool.Decides.{nat_tests}
use Rattle.std.proofs.lemmas.List.{length-map, get_or-set_same, get_or-set_other}
use Rattle.run_events.specs.declared.key.Key.{Key}
use Rattle.run_events.specs.declared.key.KeyMark.{KeyMark}
use Rattle.marks.specs.declared.side.Side.{Side}
use Rattle.marks.specs.Places.{thread_count}
use Rattle.marks.specs.Marks.{Event, Made, Mark}
use Rattle.marks.specs.Bytes.{Byte}
use Rattle.logical_clock.specs.Events.{Occurrence, occurrence, count, IsClockOf}
use Rattle.logical_clock.specs.Events as clocks
use Rattle.logical_clock.specs.Counts.{Counts, latest}
use Rattle.logical_clock.specs.Counts as counted
use Rattle.logical_clock.specs.State.{ClockState}
use Rattle.logical_clock.proofs.Longest.{link_le, clock_is}
use Rattle.replay_runs.specs.Runs.{Link, OfThread, OfKey, same_key, is_listed, ticket_in, has, ticket, marks_of, events_with, steps_since, last_clock}
use Rattle.replay_runs.specs.Laws.{fresh}
use Rattle.replay_runs.proofs.Keys.{same_key_true}
use Rattle.steps_above_stamps.specs.State.{StampsState}
use Rattle.run_events.specs.Tickets.{with_ticket, with_tickets}
use Rattle.steps_above_stamps.specs.Stamps.{occurrences, AreStampsOf, IsStamped, IsNextEvent}
use Rattle.steps_above_stamps.specs.declared.stamps.EventStamp.{EventStamp}
use Rattle.steps_above_stamps.proofs.Counted.{has_is, has_event, events_counted}
use Rattle.steps_above_stamps.proofs.Latest.{latest_is}

abbrev key_in : KeyMark → Key
key_in q = q.key

-- keys, each with the ticket that belongs to it
abbrev pub ticketed : (Key → ℕ) → List Key → List KeyMark
ticketed f [] = []
ticketed f (k ∷ ks) = with_ticket (f k) k ∷ ticketed f ks

pub ticketed_is : (f : Key → ℕ) (ks : List Key) → with_tickets (map (with_ticket 0) ks) (map f ks) ≡ ticketed f ks
ticketed_is f [] = refl
ticketed_is f (k ∷ ks) = ap (λ qs. with_ticket (f k) k ∷ qs) (ticketed_is f ks)

pub keys_ticketed : (f : Key → ℕ) (ks : List Key) → map (λ (q : KeyMark). q.key) (ticketed f ks) ≡ ks
keys_ticketed f [] = refl
keys_ticketed f (k ∷ ks) = ap (λ js. k ∷ js) (keys_ticketed f ks)

ticket_is : (f : Key → ℕ) (ks : List Key) (k : Key) → is_listed (ticketed f ks) k ≡ true → ticket_in (ticketed f ks) k ≡ f k
ticket_is f [] k h = absurd (true≢false (sym h))
ticket_is f (j ∷ ks) k h = go (same_key j k) refl (ticket_is f ks k)
  where
    go : (b : Bool) → same_key j k ≡ b → (is_listed (ticketed f ks) k ≡ true → ticket_in (ticketed f ks) k ≡ f k) → cond b (f j) (ticket_in (ticketed f ks) k) ≡ f k
    go true e again = ap f (same_key_true j k e)
    go false e again = again (sym (ap (λ b. b || is_listed (ticketed f ks) k) e) ∙ h)

-- the next event of a thread, in the words of the clocks
pub record IsNext (memory : ℕ → Byte) (past : List Mark) (old : StampsState) (t index : ℕ) (e : Event) (ks : List Key) : Type 0 where
  pub thread : t < thread_count
  pub place : index ≡ length (events_with (fresh memory) (OfThread t) past)
  pub steps : e.steps ≡ slice_index old.steps t
  pub keys : e.keys ≡ ticketed (λ k. count (OfKey k) (occurrences past)) ks
  pub clock : IsClockOf (occurrence t ks ∷ occurrences past) e.clock

abbrev mark_of : (t index : ℕ) → Side → Event → Mark
mark_of t index side e = record { thread = t; side = side; index = index; act = Made e }

module _ (memory : ℕ → Byte) (past : List Mark) (old : StampsState) (t index : ℕ) (side : Side) (e : Event) (ks : List Key) where
  last_of : Link → ℕ
  last_of l = counted.last_clock (occurrences past) l

  tickets_of : Key → ℕ
  tickets_of k = count (OfKey k) (occurrences past)

  keys_are : IsNext memory past old t index e ks → map (λ (q : KeyMark). q.key) e.keys ≡ ks
  keys_are n = ap (λ qs. map (λ (q : KeyMark). q.key) qs) n.keys ∙ keys_ticketed (λ k. count (OfKey k) (occurrences past)) ks

  links_are : IsNext memory past old t index e ks → (l : Link) → has (mark_of t index side e) l ≡ clocks.has (occurrence t ks) l
  links_are n l = has_is (mark_of t index side e) l ∙ sym (has_event t e l) ∙ ap (λ js. clocks.has (occurrence t js) l) (keys_are n)

  pub made_stamped : AreStampsOf memory past old → IsNext memory past old t index e ks → IsStamped (fresh memory) past (mark_of t index side e)
  made_stamped h n =
      let rose : e.clock ≡ suc (latest (counted.last_clock (occurrences past)) (occurrence t ks)) = clock_is (occurrences past) (occurrence t ks) e.clock n.clock in
      record {
        index = n.place;
        steps = λ made. n.steps ∙ h.steps t n.thread;
        tickets = numbers;
        rises = λ l b. let z : counted.last_clock (occurrences past) l < e.clock = omega (arith, rose, link_le (counted.last_clock (occurrences past)) (occurrence t ks) l (sym (links_are n l) ∙ b)) in
            omega (arith, z, h.clocks l);
        least = λ made. let w = latest_is (counted.last_clock (occurrences past)) t ks in
            (w.link, links_are n w.link ∙ w.has, rose ∙ ap suc (sym w.is ∙ sym (h.clocks w.link)));
      }
    where
      numbers : (l : Link) → has (mark_of t index side e) l ≡ true → ticket (mark_of t index side e) l ≡ length (events_with (fresh memory) l past)
      numbers (OfThread u) b = n.place ∙ ap (λ v. length (events_with (fresh memory) (OfThread v) past)) (eqb-true t u b)
      numbers (OfKey k) b =
          ap (λ qs. ticket_in qs k) n.keys
          ∙ ticket_is (λ k. count (OfKey k) (occurrences past)) ks k (sym (ap (λ qs. is_listed qs k) n.keys) ∙ b)
          ∙ sym (events_counted memory (OfKey k) past)

  pub stamps_after : (clocks : ClockState) (steps : List ℕ) → AreStampsOf memory past old → IsNext memory past old t index e ks → length old.steps ≡ thread_count → Counts (occurrence t ks ∷ occurrences past) clocks → steps ≡ set old.steps t 0
      → AreStampsOf memory (mark_of t index side e ∷ past) (record { clocks = clocks; steps = steps })
  stamps_after now steps h n len c is =
      record {
        counts = subst (λ js. Counts (occurrence t js ∷ occurrences past) now) (sym (keys_are n)) c;
        clocks = λ l. last (has (mark_of t index side e) l) l ∙ ap (λ b. cond b (suc (latest (counted.last_clock (occurrences past)) (occurrence t (map (λ (q : KeyMark). q.key) e.keys)))) (counted.last_clock (occurrences past) l)) (has_is (mark_of t index side e) l ∙ sym (has_event t e l));
        steps = λ u lt. ap (λ xs. slice_index xs u) is ∙ ⊎_elim (own u) (other u lt) (cases_eq t u);
      }
    where
      rose : e.clock ≡ suc (latest (counted.last_clock (occurrences past)) (occurrence t (map (λ (q : KeyMark). q.key) e.keys)))
      rose = clock_is (occurrences past) (occurrence t ks) e.clock n.clock ∙ ap (λ js. suc (latest (counted.last_clock (occurrences past)) (occurrence t js))) (sym (keys_are n))

      last : (b : Bool) (l : Link) → last_clock (cond b (mark_of t index side e ∷ events_with (fresh memory) l past) (events_with (fresh memory) l past)) ≡ cond b (suc (latest (counted.last_clock (occurrences past)) (occurrence t (map (λ (q : KeyMark). q.key) e.keys)))) (counted.last_clock (occurrences past) l)
      last true l = rose
      last false l = h.clocks l

      own : (u : ℕ) → t ≡ u → slice_index (set old.steps t 0) u ≡ steps_since (cond (eqb t u) (mark_of t index side e ∷ marks_of (fresh memory) u past) (marks_of (fresh memory) u past))
      own u same =
          let z = get_or-set_same old.steps t 0 0 (omega (arith, n.thread, len)) in
          subst (λ v. slice_index (set old.steps t 0) v ≡ 0) same z
          ∙ ap (λ b. steps_since (cond b (mark_of t index side e ∷ marks_of (fresh memory) u past) (marks_of (fresh memory) u past))) (sym (eq-eqb t u same))

      other : (u : ℕ) → u < thread_count → (t ≡ u → ⊥) → slice_index (set old.steps t 0) u ≡ steps_since (cond (eqb t u) (mark_of t index side e ∷ marks_of (fresh memory) u past) (marks_of (fresh memory) u past))
      other u lt ne =
          let z = get_or-set_other old.steps t u 0 0 (λ w. ne (sym w)) in
          let b : eqb t u ≡ false = grind (arith, nat_tests) in
          z ∙ h.steps u lt
          ∙ ap (λ b. steps_since (cond b (mark_of t index side e ∷ marks_of (fresh memory) u past) (marks_of (fresh memory) u past))) (sym b)

-- the same of any mark with the numbers of a stamp

abbrev event_of : (s : EventStamp) (memory : ℕ → Byte) (past : List Mark) (t : ℕ) (m : Mark) → IsNextEvent memory past t s m → Event
event_of s memory past t m n = record { kind = n.kind; steps = s.steps; keys = s.keys; clock = s.clock }

mark_is : (memory : ℕ → Byte) (past : List Mark) (t : ℕ) (s : EventStamp) (m : Mark) (n : IsNextEvent memory past t s m) → mark_of t m.index m.side (event_of s memory past t m n) ≡ m
mark_is memory past t s m n = λ i. record { thread = sym n.of_thread i; side = m.side; index = m.index; act = sym n.act i }

-- what a stamp has of the clocks
pub record IsOfClocks (old : StampsState) (t : ℕ) (ks : List Key) (s : EventStamp) : Type 0 where
  pub thread : t < thread_count
  pub steps : s.steps ≡ slice_index old.steps t
  pub keys : (past : List Occurrence) → Counts past old.clocks → s.keys ≡ ticketed (λ k. count (OfKey k) past) ks
  pub clock : (past : List Occurrence) → Counts past old.clocks → IsClockOf (occurrence t ks ∷ past) s.clock

next_of : (memory : ℕ → Byte) (past : List Mark) (old : StampsState) (t : ℕ) (ks : List Key) (s : EventStamp) (m : Mark) → IsOfClocks old t ks s → AreStampsOf memory past old → (n : IsNextEvent memory past t s m)
    → IsNext memory past old t m.index (event_of s memory past t m n) ks
next_of memory past old t ks s m o h n = record { thread = o.thread; place = n.index; steps = o.steps; keys = o.keys (occurrences past) h.counts; clock = o.clock (occurrences past) h.counts }

pub stamp_is : (memory : ℕ → Byte) (past : List Mark) (old : StampsState) (t : ℕ) (ks : List Key) (s : EventStamp) (m : Mark) → IsOfClocks old t ks s → AreStampsOf memory past old → IsNextEvent memory past t s m → IsStamped (fresh memory) past m
stamp_is memory past old t ks s m o h n = subst (IsStamped (fresh memory) past) (mark_is memory past t s m n) (made_stamped memory past old t m.index m.side (event_of s memory past t m n) ks h (next_of memory past old t ks s m o h n))

pub stamps_then : (memory : ℕ → Byte) (past : List Mark) (old : StampsState) (t : ℕ) (ks : List Key) (s : EventStamp) (m : Mark) (clocks : ClockState) (steps : List ℕ) → IsOfClocks old t ks s → AreStampsOf memory past old → IsNextEvent memory past t s m
    → length old.steps ≡ thread_count → ((past : List Occurrence) → Counts past old.clocks → Counts (occurrence t ks ∷ past) clocks) → steps ≡ set old.steps t 0 → AreStampsOf memory (m ∷ past) (record { clocks = clocks; steps = steps })
stamps_then memory past old t ks s m clocks steps o h n len c is =
    subst (λ m. AreStampsOf memory (m ∷ past) (record { clocks = clocks; steps = steps })) (mark_is memory past t s m n)
    (stamps_after memory past old t m.index m.side (event_of s memory past t m n) ks clocks steps h (next_of memory past old t ks s m o h n) len (c (occurrences past) h.counts) is)

-- tickets are small where events are few

pub tickets_small : (f : Key → ℕ) (n : ℕ) → ((k : Key) → f k ≤ n) → n < 2 ^ 32 → (ks : List Key) (i d : ℕ) → i < length (map f ks) → get_or (map f ks) i d < 2 ^ 32
tickets_small f n h lt [] i d below = absurd (omega (arith, below))
tickets_small f n h lt (k ∷ ks) zero d below = omega (arith, lt, h k)
tickets_small f n h lt (k ∷ ks) (suc i) d below = tickets_small f n h lt ks i d (omega (arith, below))

-- marks to which the tickets were given

pub tickets_are : (ks : List Key) (f : Key → ℕ) (marks : List KeyMark) (tickets : List ℕ) → marks ≡ map (with_ticket 0) ks → tickets ≡ map f ks → with_tickets marks tickets ≡ ticketed f ks
tickets_are ks f marks tickets blank are = (λ i. with_tickets (blank i) (are i)) ∙ ticketed_is f ks

pub as_many : (ks : List Key) (f : Key → ℕ) (marks : List KeyMark) (tickets : List ℕ) → marks ≡ map (with_ticket 0) ks → tickets ≡ map f ks → length tickets ≡ length marks
as_many ks f marks tickets blank are = ap length are ∙ length-map ks f ∙ sym (ap length blank ∙ length-map ks (with_ticket 0))
