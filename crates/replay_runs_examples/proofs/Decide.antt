-- A test that a written-out run passes only if it is disciplined.
use Rattle.std.proofs.Common.{◌≡◌, inl, inr, ⊎_elim, ℕ, suc, ◌+◌, ◌%◌, ◌≤◌, Bool, true, false, ◌&&◌, ◌||◌, not, eqb, leb, ltb, List, [], ◌∷◌, ◌++◌, map, length, Option, Some, None, refl, sym, ap, ◌∙◌, subst, arith, eq-eqb, eqb-true}
use Rattle.std.proofs.lemmas.Bool.{leb-true, ltb-true, and_from, and_parts, or_cases, true≢false}
use Rattle.run_events.specs.declared.key.Class.{Class}
use Rattle.run_events.specs.declared.key.Class.TheVariants.{Callback, Pool, Async}
use Rattle.run_events.specs.declared.key.Key.{Key}
use Rattle.run_events.specs.declared.key.KeyMark.{KeyMark}
use Rattle.marks.specs.declared.side.Side.{Side}
use Rattle.marks.specs.declared.side.Side.TheVariants.{Replay, System}
use Rattle.marks.specs.declared.fault.FaultKind.{FaultKind}
use Rattle.marks.specs.declared.fault.FaultKind.TheVariants.{ReadOnly}
use Rattle.marks.specs.Places.{thread_count, frame_count, stack, stack_size, replay_pool, pool_size, alignment, is_constant, is_system}
use Rattle.marks.specs.declared.range.Range.{Range}
use Rattle.marks.specs.Ranges.{piece_ranges, piece_bytes, prepared_ranges}
use Rattle.marks.specs.Marks.{Writing, Commit, NoRegion, Withheld, Released, EventKind, Call, Ret, Up, UpRet, Alloc, Free, Stop, Act, Turn, Load, Store, Enter, Leave, Step, Fault, Made, Mark, is_event, logged}
use Rattle.marks.specs.Bytes.{touches, writes, place, conflict}
use Rattle.marks.specs.Wants.{Want, Outside, Turns, Loads, Stores, Enters, Leaves, Allocs, Frees, Calls, Below, Gives, Returns, CallsBack, UpReturns, Steps, Fails}
use Rattle.marks.proofs.Touched.{or_true_left, or_true_right}
use Rattle.replay_runs.specs.Runs.{Link, OfThread, OfKey, same_key, keys_of, is_listed, has, ticket, clock_of, In, Start, marks_of, events_with, new_events, byte, last_clock, steps_since, steps_of, fault_count, RaceFree, Allowed, Run}
use Rattle.replay_runs.specs.Known.{known_at, NoRace}
use Rattle.replay_runs.specs.Interface.{Interface, Program}
use Rattle.replay_runs.specs.Threads.{frames, frame_place, HasRoom, open_calls, open_ups, fault_of, is_stop, is_stopped, last_return, same_return}
use Rattle.replay_runs.specs.Pool.{blocks_from, IsPlace, prepares_key, in_use_from, registered_from}
use Rattle.replay_runs.specs.Keys.{sorted_keys, keys_for}
use Rattle.replay_runs.specs.Rules.{is_reply, AllMayRun, KeepsModes, EventCarries, Carries, HasKeys, OwnRules, PoolRule, CallbackRule, ReleaseRule, AsyncRule, SharedEvent, SharedAct, SharedRules, replay_rules}
use Rattle.replay_runs.specs.Laws.{IsReplayRun}
use Rattle.replay_runs.proofs.Keys.{same_key_true, same_key_refl}
use Rattle.replay_runs.proofs.Race.{race_free_more}
use Rattle.replay_runs_examples.proofs.Bytes.{for_touched, for_touched_true, asks, asks_true}
use Rattle.replay_runs_examples.proofs.Parts.{some_constant, some_constant_true, stops, stops_true, apart, apart_true, are_used, are_used_true, closes, closes_true, closes_up, closes_up_true, commits, commits_true, distinct, distinct_true, not_true, same_bool, same_bool_true, same_fault, same_fault_true, same_keys, same_keys_true, same_prepared, same_prepared_true, same_range, same_range_true, same_ranges, same_ranges_true, whole, whole_true}

-- a mark of a run so far, in a program whose wants and annotations are given
module _ (program : Program) (s : Start) where
  abbrev i : Interface
  i = program.interface

  abbrev event_carries : ℕ → List Mark → EventKind → Bool
  event_carries t mine (Call f args ins outs prepared) = same_ranges (piece_ranges ins) (i.ins f args) && (whole ins && (same_ranges outs (i.outs f args) && (same_prepared prepared (i.prepares f args) && (apart (outs ++ prepared_ranges prepared) && distinct prepared))))
  event_carries t mine (Ret f args v same outs commit) = closes (open_calls mine) f args (piece_ranges outs) && (i.gives f v && (are_used (i.used f args v) outs && (commits (i.commits f args v) commit && same_bool same (i.is_cached f && same_return (last_return (s.returned t f) f mine) (record { result = v; bytes = piece_bytes outs ++ logged commit })))))
  event_carries t mine (Up f args) = i.may_run Replay f && i.takes f args
  event_carries t mine (UpRet f v) = closes_up (open_ups mine) f
  event_carries t mine (Alloc at size) = true
  event_carries t mine (Free at size) = same_bool (eqb at 0) (eqb size 0)
  event_carries t mine (Stop fault) = same_fault fault (fault_of mine)

  event_carries_true : (t : ℕ) (mine : List Mark) (k : EventKind) → event_carries t mine k ≡ true → EventCarries i s t mine k
  event_carries_true t mine (Call f args ins outs prepared) h =
      let a = and_parts (same_ranges (piece_ranges ins) (i.ins f args)) _ h in
      let b = and_parts (whole ins) _ a.1 in
      let c = and_parts (same_ranges outs (i.outs f args)) _ b.1 in
      let d = and_parts (same_prepared prepared (i.prepares f args)) _ c.1 in
      let e = and_parts (apart (outs ++ prepared_ranges prepared)) (distinct prepared) d.1 in
      (same_ranges_true _ _ a.0, whole_true ins b.0, same_ranges_true _ _ c.0, same_prepared_true _ _ d.0, apart_true _ e.0, distinct_true prepared e.1)
  event_carries_true t mine (Ret f args v same outs commit) h =
      let a = and_parts (closes (open_calls mine) f args (piece_ranges outs)) _ h in
      let b = and_parts (i.gives f v) _ a.1 in
      let c = and_parts (are_used (i.used f args v) outs) _ b.1 in
      let d = and_parts (commits (i.commits f args v) commit) (same_bool same (i.is_cached f && same_return (last_return (s.returned t f) f mine) (record { result = v; bytes = piece_bytes outs ++ logged commit }))) c.1 in
      record { closes = closes_true (open_calls mine) f args (piece_ranges outs) a.0; result_is = b.0; used = are_used_true (i.used f args v) outs c.0; committed = commits_true (i.commits f args v) commit d.0; repeats = same_bool_true same _ d.1 }
  event_carries_true t mine (Up f args) h = and_parts (i.may_run Replay f) (i.takes f args) h
  event_carries_true t mine (UpRet f v) h = closes_up_true (open_ups mine) f h
  event_carries_true t mine (Alloc at size) h = tt
  event_carries_true t mine (Free at size) h = same_bool_true (eqb at 0) (eqb size 0) h
  event_carries_true t mine (Stop fault) h = same_fault_true fault (fault_of mine) h

  abbrev has_room : ℕ → List Mark → ℕ → Bool
  has_room t mine size = leb (frame_place t mine + size) (stack Replay t + stack_size) && ltb (length (frames mine)) frame_count

  has_room_true : (t : ℕ) (mine : List Mark) (size : ℕ) → has_room t mine size ≡ true → HasRoom t mine size
  has_room_true t mine size h = let w = and_parts (leb (frame_place t mine + size) (stack Replay t + stack_size)) (ltb (length (frames mine)) frame_count) h in (leb-true _ _ w.0, ltb-true _ _ w.1)

  -- that a stack is full isn't tried
  abbrev pub carries : ℕ → List Mark → Want → Act → Bool
  carries t mine want (Made e) = event_carries t mine e.kind
  carries t mine (Enters indirect f args bytes) (Enter g vs at b) = eqb at (frame_place t mine) && has_room t mine (length bytes)
  carries t mine (Enters indirect f args bytes) (Fault k cr ins outs a) = false
  carries t mine (Calls indirect f args) (Fault k cr ins outs a) = stops (i.ins f args) (i.outs f args ++ prepared_ranges (i.prepares f args)) k ins outs a
  carries t mine (Stores o at bytes) (Fault ReadOnly cr ins outs (Writing r)) = some_constant r
  carries t mine want act = true

  pub carries_true : (t : ℕ) (mine : List Mark) (want : Want) (a : Act) → carries t mine want a ≡ true → Carries i s t mine want a
  carries_true t mine want (Made e) h = event_carries_true t mine e.kind h
  carries_true t mine Outside a h = tt
  carries_true t mine Turns a h = tt
  carries_true t mine (Loads o at n) a h = tt
  carries_true t mine (Stores o at bytes) (Fault ReadOnly cr ins outs (Writing r)) h = some_constant_true r h
  carries_true t mine (Stores o at bytes) a h = tt
  carries_true t mine (Enters indirect f args bytes) (Enter g vs at b) h =
      let w = and_parts (eqb at (frame_place t mine)) (has_room t mine (length bytes)) h in
      (eqb-true _ _ w.0, has_room_true t mine (length bytes) w.1)
  carries_true t mine (Enters indirect f args bytes) (Fault k cr ins outs a) h = absurd (true≢false (sym h))
  carries_true t mine (Enters indirect f args bytes) a h = tt
  carries_true t mine (Leaves at n) a h = tt
  carries_true t mine (Allocs n) a h = tt
  carries_true t mine (Frees at) a h = tt
  carries_true t mine (Calls indirect f args) (Fault k cr ins outs a) h = stops_true (i.ins f args) (i.outs f args ++ prepared_ranges (i.prepares f args)) k ins outs a h
  carries_true t mine (Calls indirect f args) a h = tt
  carries_true t mine (Below f args) a h = tt
  carries_true t mine (Gives f args) a h = tt
  carries_true t mine (Returns f args v) a h = tt
  carries_true t mine (CallsBack f args bytes) a h = tt
  carries_true t mine (UpReturns f v) a h = tt
  carries_true t mine (Steps indirect f args) a h = tt
  carries_true t mine (Fails k) a h = tt

  abbrev pub has_keys : ℕ → List Mark → Act → Bool
  has_keys t mine (Made e) = same_keys (map (λ q. q.key) e.keys) (sorted_keys (keys_for i t mine e.kind))
  has_keys t mine a = true

  pub has_keys_true : (t : ℕ) (mine : List Mark) (a : Act) → has_keys t mine a ≡ true → HasKeys i t mine a
  has_keys_true t mine (Made e) h = same_keys_true _ _ h
  has_keys_true t mine Turn h = tt
  has_keys_true t mine (Load o at bytes) h = tt
  has_keys_true t mine (Store o at bytes) h = tt
  has_keys_true t mine (Enter f args at bytes) h = tt
  has_keys_true t mine (Leave at size) h = tt
  has_keys_true t mine (Step f args v ins pieces freed) h = tt
  has_keys_true t mine (Fault k cr ins outs a) h = tt

  abbrev all_may_run : List ℕ → Bool
  all_may_run [] = true
  all_may_run (f ∷ fs) = i.may_run Replay f && all_may_run fs

  all_may_run_true : (fs : List ℕ) → all_may_run fs ≡ true → AllMayRun i fs
  all_may_run_true [] h = tt
  all_may_run_true (f ∷ fs) h = let w = and_parts (i.may_run Replay f) (all_may_run fs) h in (w.0, all_may_run_true fs w.1)

  abbrev modes : Want → Bool
  modes (Enters indirect f args bytes) = not indirect || i.may_run Replay f
  modes (Calls indirect f args) = (not indirect || i.may_run System f) && all_may_run (i.registers f args)
  modes (Steps indirect f args) = false
  modes want = true

  pub if_so : (a b : Bool) → (not a || b) ≡ true → a ≡ true → b ≡ true
  if_so true b h e = h
  if_so false b h e = absurd (true≢false (sym e))

  modes_true : (want : Want) → modes want ≡ true → KeepsModes i want
  modes_true (Enters indirect f args bytes) h = if_so indirect (i.may_run Replay f) h
  modes_true (Calls indirect f args) h = let w = and_parts (not indirect || i.may_run System f) (all_may_run (i.registers f args)) h in (if_so indirect (i.may_run System f) w.0, all_may_run_true (i.registers f args) w.1)
  modes_true (Steps indirect f args) h = absurd (true≢false (sym h))
  modes_true want h = tt

  abbrev has_no_fault : Option FaultKind → Bool
  has_no_fault None = true
  has_no_fault (Some k) = false

  no_fault_true : (o : Option FaultKind) → has_no_fault o ≡ true → o ≡ None
  no_fault_true None h = refl
  no_fault_true (Some k) h = absurd (true≢false (sym h))

  abbrev own : List Mark → Mark → Bool
  own mine m =
      ltb m.thread thread_count
      && (is_reply (program.want m.thread mine) m.act
      && ((is_stop m.act || modes (program.want m.thread mine))
      && (carries m.thread mine (program.want m.thread mine) m.act
      && (has_keys m.thread mine m.act
      && (for_touched m.act (λ x. not (is_system x))
      && (for_touched m.act (λ x. not (writes m.act x) || not (is_constant x))
      && (not (is_stopped mine)
      && (has_no_fault (fault_of mine) || is_stop m.act))))))))

  or_not : (a b : Bool) → (a || b) ≡ true → a ≡ false → b ≡ true
  or_not true b h e = absurd (true≢false e)
  or_not false b h e = h

  own_true : (mine : List Mark) (m : Mark) → m.side ≡ Replay → own mine m ≡ true → OwnRules program s mine m
  own_true mine m side h =
      let a = and_parts (ltb m.thread thread_count) _ h in
      let b = and_parts (is_reply (program.want m.thread mine) m.act) _ a.1 in
      let c = and_parts (is_stop m.act || modes (program.want m.thread mine)) _ b.1 in
      let d = and_parts (carries m.thread mine (program.want m.thread mine) m.act) _ c.1 in
      let e = and_parts (has_keys m.thread mine m.act) _ d.1 in
      let f = and_parts (for_touched m.act (λ x. not (is_system x))) _ e.1 in
      let g = and_parts (for_touched m.act (λ x. not (writes m.act x) || not (is_constant x))) _ f.1 in
      let j = and_parts (not (is_stopped mine)) (has_no_fault (fault_of mine) || is_stop m.act) g.1 in
      record {
        thread = ltb-true _ _ a.0;
        side = side;
        replies = b.0;
        modes = λ z. modes_true (program.want m.thread mine) (or_not (is_stop m.act) (modes (program.want m.thread mine)) c.0 z);
        carries = carries_true m.thread mine (program.want m.thread mine) m.act d.0;
        keys = has_keys_true m.thread mine m.act e.0;
        other_space = λ x t. not_true (is_system x) (for_touched_true m.act (λ x. not (is_system x)) f.0 x t);
        read_only = λ x w. not_true (is_constant x) (if_so (writes m.act x) (not (is_constant x)) (for_touched_true m.act (λ x. not (writes m.act x) || not (is_constant x)) g.0 x (or_true_right _ (writes m.act x) w)) w);
        running = not_true (is_stopped mine) j.0;
        after_fault = λ ne. ⊎_elim (λ z. absurd (ne (no_fault_true (fault_of mine) z))) (λ z. z) (or_cases (has_no_fault (fault_of mine)) (is_stop m.act) j.1);
      }

  -- the rules of a key: a block is tried only at the pool's first byte, with no other there
  abbrev first_place : List Range → ℕ → ℕ → Bool
  first_place [] size at = eqb at replay_pool && (leb 1 size && leb size pool_size)
  first_place (b ∷ bs) size at = false

  first_place_true : (bs : List Range) (size at : ℕ) → first_place bs size at ≡ true → IsPlace replay_pool bs size at
  first_place_true [] size at h =
      let a = and_parts (eqb at replay_pool) _ h in
      let b = and_parts (leb 1 size) (leb size pool_size) a.1 in
      let is : at ≡ replay_pool = eqb-true _ _ a.0 in
      let low : 1 ≤ size = leb-true _ _ b.0 in
      let high : size ≤ pool_size = leb-true _ _ b.1 in
      inl (record { some = low; aligned = ap (λ z. z % alignment) is; low = omega (arith, is); high = omega (arith, is, high); free = tt }, λ x f. omega (arith, is, f.low))
  first_place_true (b ∷ bs) size at h = absurd (true≢false (sym h))

  abbrev is_none : Option Range → Bool
  is_none None = true
  is_none (Some r) = false

  is_none_true : (o : Option Range) → is_none o ≡ true → o ≡ None
  is_none_true None h = refl
  is_none_true (Some r) h = absurd (true≢false (sym h))

  abbrev pool_rule : List Range → EventKind → Bool
  pool_rule bs (Alloc at size) = first_place bs size at
  pool_rule bs k = true

  pool_rule_true : (bs : List Range) (k : EventKind) → pool_rule bs k ≡ true → PoolRule bs k
  pool_rule_true bs (Alloc at size) h = first_place_true bs size at h
  pool_rule_true bs k h = tt

  abbrev callback_rule : Bool → EventKind → Bool
  callback_rule registered (Up f args) = eqb f i.main || registered
  callback_rule registered k = true

  callback_rule_true : (registered : Bool) (k : EventKind) → callback_rule registered k ≡ true → CallbackRule i registered k
  callback_rule_true registered (Up f args) h = ⊎_elim (λ z. inl (eqb-true _ _ z)) inr (or_cases (eqb f i.main) registered h)
  callback_rule_true registered k h = tt

  abbrev release_rule : ℕ → Option Range → Commit → Bool
  release_rule k region (Released j p) = not (eqb j k) || same_range region (Some p.range)
  release_rule k region c = true

  release_rule_true : (k : ℕ) (region : Option Range) (c : Commit) → release_rule k region c ≡ true → ReleaseRule k region c
  release_rule_true k region NoRegion h = tt
  release_rule_true k region Withheld h = tt
  release_rule_true k region (Released j p) h = λ e. same_range_true region (Some p.range) (if_so (eqb j k) (same_range region (Some p.range)) h (eq-eqb j k e))

  abbrev async_rule : ℕ → Option Range → EventKind → Bool
  async_rule k region (Call f args ins outs prepared) = not (prepares_key prepared k) || is_none region
  async_rule k region (Ret f args v same outs commit) = release_rule k region commit
  async_rule k region e = true

  async_rule_true : (k : ℕ) (region : Option Range) (e : EventKind) → async_rule k region e ≡ true → AsyncRule k region e
  async_rule_true k region (Call f args ins outs prepared) h = λ e. is_none_true region (if_so (prepares_key prepared k) (is_none region) h e)
  async_rule_true k region (Ret f args v same outs commit) h = release_rule_true k region commit h
  async_rule_true k region e h = tt

  abbrev shared_event : Class → ℕ → List Mark → EventKind → Bool
  shared_event Pool value past k = pool_rule (blocks_from s.blocks past) k
  shared_event Callback value past k = callback_rule (registered_from (s.registered value) past) k
  shared_event Async value past k = async_rule value (in_use_from value (s.in_use value) past) k
  shared_event c value past k = true

  shared_event_true : (c : Class) (value : ℕ) (past : List Mark) (k : EventKind) → shared_event c value past k ≡ true → SharedEvent i s c value past k
  shared_event_true Pool value past k h = pool_rule_true (blocks_from s.blocks past) k h
  shared_event_true Callback value past k h = callback_rule_true (registered_from (s.registered value) past) k h
  shared_event_true Async value past k h = async_rule_true value (in_use_from value (s.in_use value) past) k h
  shared_event_true c value past k h = tt

  abbrev shared_act : Key → List Mark → Act → Bool
  shared_act k past (Made e) = shared_event k.class k.value past e.kind
  shared_act k past a = true

  shared_act_true : (k : Key) (past : List Mark) (a : Act) → shared_act k past a ≡ true → SharedAct i s k past a
  shared_act_true k past (Made e) h = shared_event_true k.class k.value past e.kind h
  shared_act_true k past Turn h = tt
  shared_act_true k past (Load o at bytes) h = tt
  shared_act_true k past (Store o at bytes) h = tt
  shared_act_true k past (Enter f args at bytes) h = tt
  shared_act_true k past (Leave at size) h = tt
  shared_act_true k past (Step f args v ins pieces freed) h = tt
  shared_act_true k past (Fault kd cr ins outs a) h = tt

  -- each link of a mark passes

  unfoldable pub all_keys : List KeyMark → (Key → Bool) → Bool
  all_keys [] p = true
  all_keys (q ∷ qs) p = p q.key && all_keys qs p

  all_keys_true : (qs : List KeyMark) (p : Key → Bool) → all_keys qs p ≡ true → (k : Key) → is_listed qs k ≡ true → p k ≡ true
  unfolding all_keys
  all_keys_true [] p h k e = absurd (true≢false (sym e))
  all_keys_true (q ∷ qs) p h k e =
      let w = and_parts (p q.key) (all_keys qs p) h in
      ⊎_elim (λ z. sym (ap p (same_key_true q.key k z)) ∙ w.0) (λ z. all_keys_true qs p w.1 k z) (or_cases (same_key q.key k) (is_listed qs k) e)

  abbrev pub all_links : Mark → (Link → Bool) → Bool
  all_links m p = (not (is_event m.act) || p (OfThread m.thread)) && all_keys (keys_of m.act) (λ k. p (OfKey k))

  pub all_links_true : (m : Mark) (p : Link → Bool) → all_links m p ≡ true → (l : Link) → has m l ≡ true → p l ≡ true
  all_links_true m p h (OfThread t) e =
      let w = and_parts (not (is_event m.act) || p (OfThread m.thread)) _ h in
      let u = and_parts (is_event m.act) (eqb m.thread t) e in
      subst (λ z. p (OfThread z) ≡ true) (eqb-true m.thread t u.1) (if_so (is_event m.act) (p (OfThread m.thread)) w.0 u.0)
  all_links_true m p h (OfKey k) e =
      let w = and_parts (not (is_event m.act) || p (OfThread m.thread)) (all_keys (keys_of m.act) (λ k. p (OfKey k))) h in
      all_keys_true (keys_of m.act) (λ k. p (OfKey k)) w.1 k e

  -- some link of an event passes

  unfoldable pub some_key : List KeyMark → (Key → Bool) → Bool
  some_key [] p = false
  some_key (q ∷ qs) p = p q.key || some_key qs p

  some_key_true : (qs : List KeyMark) (p : Key → Bool) → some_key qs p ≡ true → (k : Key) × (is_listed qs k ≡ true) × (p k ≡ true)
  unfolding some_key
  some_key_true [] p h = absurd (true≢false (sym h))
  some_key_true (q ∷ qs) p h =
      ⊎_elim
      (λ z. (q.key, or_true_left (same_key q.key q.key) (is_listed qs q.key) (same_key_refl q.key), z))
      (λ z. let w = some_key_true qs p z in (w.0, or_true_right (same_key q.key w.0) (is_listed qs w.0) w.1, w.2))
      (or_cases (p q.key) (some_key qs p) h)

  abbrev pub some_link : Mark → (Link → Bool) → Bool
  some_link m p = p (OfThread m.thread) || some_key (keys_of m.act) (λ k. p (OfKey k))

  pub some_link_true : (m : Mark) (p : Link → Bool) → some_link m p ≡ true → is_event m.act ≡ true → (l : Link) × (has m l ≡ true) × (p l ≡ true)
  some_link_true m p h made =
      ⊎_elim
      (λ z. (OfThread m.thread, and_from _ _ made (eq-eqb m.thread m.thread refl), z))
      (λ z. let w = some_key_true (keys_of m.act) (λ k. p (OfKey k)) z in (OfKey w.0, w.1, w.2))
      (or_cases (p (OfThread m.thread)) (some_key (keys_of m.act) (λ k. p (OfKey k))) h)

  abbrev pub shared : Link → List Mark → Mark → Bool
  shared (OfThread t) past m = true
  shared (OfKey k) past m = shared_act k past m.act

  pub shared_true : (l : Link) (past : List Mark) (m : Mark) → shared l past m ≡ true → SharedRules i s l past m
  shared_true (OfThread t) past m h = tt
  shared_true (OfKey k) past m h = shared_act_true k past m.act h

  abbrev is_allowed : List Mark → Mark → Bool
  is_allowed past m =
      own (marks_of s m.thread past) m
      && (eqb m.index (length (events_with s (OfThread m.thread) past))
      && ((not (is_event m.act) || eqb (steps_of m.act) (steps_since (marks_of s m.thread past)))
      && (all_links m (λ l. eqb (ticket m l) (length (events_with s l past)))
      && (all_links m (λ l. shared l (new_events l past) m)
      && (all_links m (λ l. ltb (last_clock (events_with s l past)) (clock_of m.act))
      && ((not (is_event m.act) || some_link m (λ l. eqb (clock_of m.act) (suc (last_clock (events_with s l past)))))
      && asks m.act (λ x. byte s x past)))))))

  allowed_true : (past : List Mark) (m : Mark) → m.side ≡ Replay → is_allowed past m ≡ true → Allowed (replay_rules program s) s past m
  allowed_true past m side h =
      let a = and_parts (own (marks_of s m.thread past) m) _ h in
      let b = and_parts (eqb m.index (length (events_with s (OfThread m.thread) past))) _ a.1 in
      let c = and_parts (not (is_event m.act) || eqb (steps_of m.act) (steps_since (marks_of s m.thread past))) _ b.1 in
      let d = and_parts (all_links m (λ l. eqb (ticket m l) (length (events_with s l past)))) _ c.1 in
      let e = and_parts (all_links m (λ l. shared l (new_events l past) m)) _ d.1 in
      let f = and_parts (all_links m (λ l. ltb (last_clock (events_with s l past)) (clock_of m.act))) _ e.1 in
      let g = and_parts (not (is_event m.act) || some_link m (λ l. eqb (clock_of m.act) (suc (last_clock (events_with s l past))))) (asks m.act (λ x. byte s x past)) f.1 in
      record {
        own = own_true (marks_of s m.thread past) m side a.0;
        index = eqb-true _ _ b.0;
        steps = λ made. eqb-true _ _ (if_so (is_event m.act) _ c.0 made);
        tickets = λ l z. eqb-true _ _ (all_links_true m (λ l. eqb (ticket m l) (length (events_with s l past))) d.0 l z);
        shared = λ l z. shared_true l (new_events l past) m (all_links_true m (λ l. shared l (new_events l past) m) e.0 l z);
        rises = λ l z. ltb-true _ _ (all_links_true m (λ l. ltb (last_clock (events_with s l past)) (clock_of m.act)) f.0 l z);
        least = λ made. let w = some_link_true m (λ l. eqb (clock_of m.act) (suc (last_clock (events_with s l past)))) (if_so (is_event m.act) _ g.0 made) made in (w.0, w.1, eqb-true _ _ w.2);
        bytes = asks_true m.act (λ x. byte s x past) g.1;
      }

  -- no race with an earlier mark

  abbrev no_conflict : Act → Act → Bool
  no_conflict a b = for_touched b (λ x. not (conflict a b x))

  unfoldable pub all_past : List Mark → (Mark → Bool) → Bool
  all_past [] p = true
  all_past (a ∷ past) p = p a && all_past past p

  pub all_past_true : (past : List Mark) (p : Mark → Bool) → all_past past p ≡ true → (a : Mark) → In a past → p a ≡ true
  unfolding all_past
  all_past_true [] p h a j = absurd j
  all_past_true (b ∷ past) p h a (inl e) = ap p e ∙ (and_parts (p b) (all_past past p) h).0
  all_past_true (b ∷ past) p h a (inr j) = all_past_true past p (and_parts (p b) (all_past past p) h).1 a j

  abbrev is_known : List Mark → Mark → Mark → Bool
  is_known past m a = eqb a.thread m.thread || (no_conflict a.act m.act || ltb (place a) (known_at past m a.thread))

  abbrev no_race : List Mark → Mark → Bool
  no_race past m = all_past past (is_known past m)

  touched_too : (a b : Act) (x : ℕ) → conflict a b x ≡ true → touches b x ≡ true
  touched_too a b x h = ⊎_elim
      (λ z. (and_parts (writes a x) (touches b x) z).1)
      (λ z. or_true_right _ (writes b x) (and_parts (touches a x) (writes b x) z).1)
      (or_cases (writes a x && touches b x) (touches a x && writes b x) h)

  no_race_true : (past : List Mark) (m : Mark) → no_race past m ≡ true → NoRace past m
  no_race_true past m h a j ne x c =
      ⊎_elim
      (λ z. absurd (ne (eqb-true _ _ z)))
      (λ z. ⊎_elim
      (λ u. absurd (true≢false (sym c ∙ not_true (conflict a.act m.act x) (for_touched_true m.act (λ y. not (conflict a.act m.act y)) u x (touched_too a.act m.act x c)))))
      (λ u. ltb-true _ _ u)
      (or_cases (no_conflict a.act m.act) (ltb (place a) (known_at past m a.thread)) z))
      (or_cases (eqb a.thread m.thread) (no_conflict a.act m.act || ltb (place a) (known_at past m a.thread)) (all_past_true past (is_known past m) h a j))

  abbrev is_above_cut : Side → Bool
  is_above_cut Replay = true
  is_above_cut System = false

  above_true : (x : Side) → is_above_cut x ≡ true → x ≡ Replay
  above_true Replay h = refl
  above_true System h = absurd (true≢false (sym h))

  -- each mark may follow those before it
  unfoldable pub is_run : List Mark → Bool
  is_run [] = true
  is_run (m ∷ past) = (is_above_cut m.side && is_allowed past m) && is_run past

  pub is_run_true : (run : List Mark) → is_run run ≡ true → Run (replay_rules program s) s run
  unfolding is_run
  is_run_true [] h = tt
  is_run_true (m ∷ past) h =
      let w = and_parts (is_above_cut m.side && is_allowed past m) (is_run past) h in
      let u = and_parts (is_above_cut m.side) (is_allowed past m) w.0 in
      (allowed_true past m (above_true m.side u.0) u.1, is_run_true past w.1)

  -- and races with none of them
  unfoldable pub is_race_free : List Mark → Bool
  is_race_free [] = true
  is_race_free (m ∷ past) = no_race past m && is_race_free past

  race_free_true : (run : List Mark) → Run (replay_rules program s) s run → is_race_free run ≡ true → RaceFree run
  unfolding is_race_free
  race_free_true [] r h = λ a b j k ne x c. absurd j
  race_free_true (m ∷ past) r h =
      let w = and_parts (no_race past m) (is_race_free past) h in
      race_free_more (replay_rules program s) s past m r (race_free_true past r.1 w.1) (no_race_true past m w.0)

  unfoldable pub is_disciplined : List Mark → Bool
  is_disciplined run = is_run run && (is_race_free run && leb (s.faults + fault_count run) 1)

  pub disciplined : (run : List Mark) → is_disciplined run ≡ true → IsReplayRun program s run
  unfolding is_disciplined
  disciplined run h =
      let w = and_parts (is_run run) _ h in
      let u = and_parts (is_race_free run) (leb (s.faults + fault_count run) 1) w.1 in
      record { steps = is_run_true run w.0; race_free = race_free_true run (is_run_true run w.0) u.0; one_fault = leb-true _ _ u.1 }
