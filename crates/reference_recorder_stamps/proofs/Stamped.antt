-- An event whose steps, tickets and clock are counted anew has the numbers that it must have.
use Rattle.std.proofs.Common.{◌≡◌, ℕ, suc, ◌+◌, ◌<◌, ◌≤◌, max, Bool, true, false, ◌||◌, cond, List, [], ◌∷◌, ◌++◌, map, length, get_or, take, drop, refl, sym, ap, ◌∙◌, subst, arith, eq-eqb, eqb-true}
use Rattle.std.proofs.lemmas.Bool.{true≢false, or_cases, cases_lt}
use Rattle.std.proofs.Common.{⊎_elim}
use Rattle.run_events.specs.declared.key.Key.{Key}
use Rattle.run_events.specs.declared.key.KeyMark.{KeyMark}
use Rattle.marks.specs.declared.side.Side.{Side}
use Rattle.marks.specs.Marks.{Event, EventKind, Made, Mark}
use Rattle.replay_runs.specs.Runs.{Link, OfThread, OfKey, same_key, is_listed, ticket_in, has, ticket, events_with, new_events, last_clock}
use Rattle.replay_runs.specs.Laws.{fresh}
use Rattle.replay_runs.proofs.Keys.{same_key_true, same_key_refl}
use Rattle.marks.proofs.Touched.{or_true_left, or_true_right}
use Rattle.std.proofs.lemmas.List.{drop_all, drop_more, map-append, take_more}
use Rattle.run_events.specs.Tickets.{with_ticket}
use Rattle.steps_above_stamps.specs.Stamps.{IsStamped}
use Rattle.steps_above_stamps.specs.declared.stamps.EventStamp.{EventStamp}
use Rattle.whole_runs.specs.Sides.{seen}
use Rattle.reference_recorder_stamps.specs.Numbers.{AreSteps, IsStampOf, SeesEvents, latest, ticket_of, ticketed}

module _ (past : List Mark) where
  ticket_is : (ks : List Key) (k : Key) → is_listed (ticketed past ks) k ≡ true → ticket_in (ticketed past ks) k ≡ ticket_of past k
  ticket_is [] k h = absurd (true≢false (sym h))
  ticket_is (j ∷ ks) k h = go (same_key j k) refl (ticket_is ks k)
    where
      go : (b : Bool) → same_key j k ≡ b → (is_listed (ticketed past ks) k ≡ true → ticket_in (ticketed past ks) k ≡ ticket_of past k) → cond b (ticket_of past j) (ticket_in (ticketed past ks) k) ≡ ticket_of past k
      go true e again = ap (ticket_of past) (same_key_true j k e)
      go false e again = again (sym (ap (λ b. b || is_listed (ticketed past ks) k) e) ∙ h)

  -- the clock of the last event of the thread is no later than the latest
  own_le : (t : ℕ) (ks : List Key) → last_clock (new_events (OfThread t) past) ≤ latest past t ks
  own_le t [] = omega arith
  own_le t (k ∷ ks) = omega (arith, own_le t ks)

  key_le : (t : ℕ) (ks : List Key) (k : Key) → is_listed (ticketed past ks) k ≡ true → last_clock (new_events (OfKey k) past) ≤ latest past t ks
  key_le t [] k h = absurd (true≢false (sym h))
  key_le t (j ∷ ks) k h = ⊎_elim here (λ b. omega (arith, key_le t ks k b)) (or_cases (same_key j k) (is_listed (ticketed past ks) k) h)
    where
      here : same_key j k ≡ true → last_clock (new_events (OfKey k) past) ≤ latest past t (j ∷ ks)
      here e = let z : last_clock (new_events (OfKey j) past) ≡ last_clock (new_events (OfKey k) past) = ap (λ i. last_clock (new_events (OfKey i) past)) (same_key_true j k e) in omega (arith, z)

  -- it is the clock of the last event with one of the links
  record IsOne (t : ℕ) (ks : List Key) : Type 0 where
    link : Link
    number : (index : ℕ) (side : Side) (e : Event) → e.keys ≡ ticketed past ks → has (record { thread = t; side = side; index = index; act = Made e }) link ≡ true
    is : latest past t ks ≡ last_clock (new_events link past)

  is_one : (t : ℕ) (ks : List Key) → IsOne t ks
  is_one t [] = record { link = OfThread t; number = λ index side e keys. eq-eqb t t refl; is = refl }
  is_one t (k ∷ ks) = ⊎_elim (later (is_one t ks)) here (cases_lt (last_clock (new_events (OfKey k) past)) (latest past t ks))
    where
      later : IsOne t ks → last_clock (new_events (OfKey k) past) < latest past t ks → IsOne t (k ∷ ks)
      later rest lt = record {
        link = rest.link;
        number = λ index side e keys. linked rest.link index side e keys (rest.number index side (record e { keys = ticketed past ks }) refl);
        is = omega (arith, lt, rest.is);
      }
        where
          linked : (l : Link) (index : ℕ) (side : Side) (e : Event) → e.keys ≡ ticketed past (k ∷ ks) → has (record { thread = t; side = side; index = index; act = Made (record e { keys = ticketed past ks }) }) l ≡ true → has (record { thread = t; side = side; index = index; act = Made e }) l ≡ true
          linked (OfThread u) index side e keys h = h
          linked (OfKey j) index side e keys h = ap (λ qs. is_listed qs j) keys ∙ or_true_right (same_key k j) (is_listed (ticketed past ks) j) h

      here : latest past t ks ≤ last_clock (new_events (OfKey k) past) → IsOne t (k ∷ ks)
      here le = record {
        link = OfKey k;
        number = λ index side e keys. ap (λ qs. is_listed qs k) keys ∙ or_true_left (same_key k k) (is_listed (ticketed past ks) k) (same_key_refl k);
        is = omega (arith, le);
      }

-- the numbers of a stamp, counted anew
pub record AreCounted (past : List Mark) (t : ℕ) (ks : List Key) (s : EventStamp) : Type 0 where
  pub steps : AreSteps past t s.steps
  pub keys : s.keys ≡ ticketed past ks
  pub clock : s.clock ≡ suc (latest past t ks)

keys_are : (past : List Mark) (ks : List Key) → map (λ (q : KeyMark). q.key) (ticketed past ks) ≡ ks
keys_are past [] = refl
keys_are past (k ∷ ks) = ap (λ js. k ∷ js) (keys_are past ks)

pub stamp_keys : (past : List Mark) (t : ℕ) (ks : List Key) (s : EventStamp) → AreCounted past t ks s → map (λ (q : KeyMark). q.key) s.keys ≡ ks
stamp_keys past t ks s c = ap (λ qs. map (λ (q : KeyMark). q.key) qs) c.keys ∙ keys_are past ks

abbrev event_of : EventStamp → EventKind → Event
event_of s kind = record { kind = kind; steps = s.steps; keys = s.keys; clock = s.clock }

-- the event that is made, by its thread, place and stamp
abbrev made_mark : (t : ℕ) → EventStamp → Mark → EventKind → Mark
made_mark t s m kind = record { thread = t; side = m.side; index = m.index; act = Made (record { kind = kind; steps = s.steps; keys = s.keys; clock = s.clock }) }

pub stamp_is : (past : List Mark) (t : ℕ) (ks : List Key) (s : EventStamp) → SeesEvents past → AreCounted past t ks s → IsStampOf past t s
stamp_is past t ks s sees c memory m n =
    subst (IsStamped (fresh memory) (seen past)) same
    (record {
      index = n.index;
      steps = λ made. c.steps memory;
      tickets = numbers;
      rises = rises;
      least = λ made. let one = is_one past t ks in (one.link, one.number m.index m.side (event_of s n.kind) c.keys, c.clock ∙ ap suc (one.is ∙ ap last_clock (sees one.link)));
    })
  where
    same : made_mark t s m n.kind ≡ m
    same = λ i. record { thread = sym n.of_thread i; side = m.side; index = m.index; act = sym n.act i }

    numbers : (l : Link) → has (made_mark t s m n.kind) l ≡ true → ticket (made_mark t s m n.kind) l ≡ length (events_with (fresh memory) l (seen past))
    numbers (OfThread u) b = n.index ∙ ap (λ v. length (events_with (fresh memory) (OfThread v) (seen past))) (eqb-true t u b)
    numbers (OfKey k) b = ap (λ qs. ticket_in qs k) c.keys ∙ ticket_is past ks k (sym (ap (λ qs. is_listed qs k) c.keys) ∙ b) ∙ ap length (sees (OfKey k))

    rises : (l : Link) → has (made_mark t s m n.kind) l ≡ true → last_clock (events_with (fresh memory) l (seen past)) < s.clock
    rises (OfThread u) b =
        let z : last_clock (new_events (OfThread t) past) ≡ last_clock (events_with (fresh memory) (OfThread u) (seen past)) = ap last_clock (sees (OfThread t)) ∙ ap (λ v. last_clock (new_events (OfThread v) (seen past))) (eqb-true t u b) in
        omega (arith, z, c.clock, own_le past t ks)
    rises (OfKey k) b =
        let z : last_clock (new_events (OfKey k) past) ≡ last_clock (events_with (fresh memory) (OfKey k) (seen past)) = ap last_clock (sees (OfKey k)) in
        omega (arith, z, c.clock, key_le past t ks k (sym (ap (λ qs. is_listed qs k) c.keys) ∙ b))

-- ---- one key more

pub ticketed_more : (past : List Mark) (ks : List Key) (i : ℕ) (d : Key) (qs next : List KeyMark) (n : ℕ) → i < length ks → n ≡ ticket_of past (get_or ks i d) → next ≡ qs ++ with_ticket n (get_or ks i d) ∷ [] → qs ≡ ticketed past (take i ks) → next ≡ ticketed past (take (i + 1) ks)
ticketed_more past ks i d qs next n lt e is h =
    is
    ∙ (λ j. h j ++ with_ticket (e j) (get_or ks i d) ∷ [])
    ∙ sym (ap (ticketed past) (take_more ks i d lt) ∙ map-append (λ k. with_ticket (ticket_of past k) k) (take i ks) (get_or ks i d ∷ []))

pub latest_more : (past : List Mark) (t : ℕ) (ks : List Key) (i : ℕ) (d : Key) (n more next : ℕ) → i < length ks → more ≡ last_clock (new_events (OfKey (get_or ks i d)) past) → next ≡ max more n → max (latest past t (drop i ks)) n ≡ latest past t ks → max (latest past t (drop (i + 1) ks)) next ≡ latest past t ks
latest_more past t ks i d n more next lt e is h =
    let z : latest past t (drop i ks) ≡ max (last_clock (new_events (OfKey (get_or ks i d)) past)) (latest past t (drop (i + 1) ks)) = ap (latest past t) (drop_more ks i d lt) in
    omega (arith, z, e, is, h)

pub latest_all : (past : List Mark) (t : ℕ) (ks : List Key) (i n own all : ℕ) → length ks ≤ i → own ≡ last_clock (new_events (OfThread t) past) → all ≡ max own n → max (latest past t (drop i ks)) n ≡ latest past t ks → all ≡ latest past t ks
latest_all past t ks i n own all le e is h =
    let z : latest past t (drop i ks) ≡ last_clock (new_events (OfThread t) past) = ap (latest past t) (drop_all i ks le) in
    omega (arith, z, e, is, h)

-- the latest clock is that of some link
pub clock_small : (past : List Mark) (t : ℕ) (ks : List Key) → ((l : Link) → last_clock (new_events l past) < 4294967295) → latest past t ks < 4294967295
clock_small past t [] h = h (OfThread t)
clock_small past t (k ∷ ks) h = omega (arith, h (OfKey k), clock_small past t ks h)
