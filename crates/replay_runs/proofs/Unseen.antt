-- What no one sees races with nothing: by induction over the marks of a run.
use Rattle.std.proofs.Common.{◌≡◌, ◌⊎◌, inl, inr, ⊎_elim, ℕ, ◌+◌, ◌<◌, ◌≤◌, Bool, true, false, ◌&&◌, ◌||◌, not, cond, eqb, List, [], ◌∷◌, ◌++◌, length, refl, sym, ap, ◌∙◌, subst, arith, eq-eqb, eqb-true}
use Rattle.std.proofs.lemmas.Bool.{and_parts, or_cases, or_parts, true≢false, cases_Bool, cases_eq, cases_lt, ne_eqb}
use Rattle.run_events.specs.declared.key.Class.TheVariants.{Pool, Async}
use Rattle.run_events.specs.declared.key.KeyMark.{KeyMark}
use Rattle.marks.specs.declared.side.Side.{Side}
use Rattle.marks.specs.declared.side.Side.TheVariants.{Replay}
use Rattle.marks.specs.Places.{is_constant, thread_count, stack, stack_size, replay_pool, pool_size}
use Rattle.marks.specs.declared.range.Range.{Range}
use Rattle.marks.specs.Ranges.{range, within, any_range, any_prepared, byte_at}
use Rattle.marks.specs.Marks.{EventKind, Call, Ret, Up, UpRet, Alloc, Free, Stop, Act, Turn, Load, Store, Enter, Leave, Step, Fault, Made, Mark, is_event, released}
use Rattle.marks.specs.Bytes.{Cell, Dead, Live, IsLive, IsHeld, granted, hold, give_any, event_reads, event_writes, event_leaves, reads, writes, touches, late, place}
use Rattle.marks.proofs.Touched.{or_true_left, or_true_right, keeps}
use Rattle.replay_runs.specs.Runs.{OfThread, Start, Allowed, Run, has, is_listed, is_fault, marks_of, new_events, byte}
use Rattle.replay_runs.specs.Known.{known, NoRace}
use Rattle.replay_runs.specs.Interface.{Program}
use Rattle.replay_runs.specs.Threads.{frame_place, frames_after, frames, end_of, open_calls, act_calls, calls_after}
use Rattle.replay_runs.specs.Pool.{IsPlace, blocks_from, blocks}
use Rattle.replay_runs.specs.Keys.{key}
use Rattle.replay_runs.specs.Rules.{replay_rules}
use Rattle.replay_runs.specs.Laws.{fresh}
use Rattle.replay_runs.proofs.Keys.{listed_last}
use Rattle.replay_runs.proofs.Facts.{race_prefix}
use Rattle.replay_runs.proofs.Race.{race_free_test}
use Rattle.replay_runs.specs.Blocks.{ListsBlocks, size_at}
use Rattle.replay_runs.specs.Unseen.{Holder, Calling, Preparing, link_of, any_held, holds, AreKnown, BytesAreKnown, LeavesFirst, Stacked, InPool, Once, IsWhole, Calm, IsNewOrBack, TakesUnseen, CalmRunsAreWhole, FramesRaceWithNothing, FreshStartsAreWhole, UnseenBytesAreKnown, UnseenBytesRaceWithNothing}
use Rattle.replay_runs.proofs.Blocks.{more, bounds, cond_true, cond_false}
use Rattle.replay_runs.proofs.Holding.{not_dead, held_not_dead, not_both_ways, cond_live, hold_holds, given_live, holds_cases, act_taken, event_taken, taken, one_taken, once_tail}
use Rattle.replay_runs.proofs.Lies.{ends_above, one_stack, not_both_areas, inside, without_in_pool, block_in_pool, left_or_freed, no_block_at_zero}
use Rattle.replay_runs.proofs.Pending.{owed_after}
use Rattle.replay_runs.proofs.Telling.{stays_known, thread_knows, key_knows}
use Rattle.replay_runs.proofs.Touch.{pool, Inv, Over, Touch, live, over, touch, enters, entered, allocated, returned, own, other}

module _ (program : Program) (s : Start) (past : List Mark) (inv : Inv s past) (agreed : ListsBlocks (blocks s past) (λ x. (byte s x past).block)) (t n : ℕ) (sd : Side) where
  abbrev mk : Act → Mark
  mk a = record { thread = t; side = sd; index = n; act = a }

  abbrev mine : List Mark
  mine = marks_of s t past

  abbrev bs : List Range
  bs = blocks s past

  abbrev cell : ℕ → Cell
  cell x = (byte s x past).cell

  abbrev May : Act → Type 0
  May a = Allowed (replay_rules program s) s past (mk a)

  abbrev after : Act → ℕ → Cell
  after a x = (byte s x (mk a ∷ past)).cell

  same_cell : (a : Act) (x : ℕ) → touches a x ≡ false → after a x ≡ cell x
  same_cell a x e = ap (λ b. b.cell) (keeps a x (byte s x past) (or_parts (reads a x) (writes a x) e).1)

  -- a dead byte that the mark doesn't make live stays dead
  stays_dead : (a : Act) → May a → is_fault a ≡ 0 → (x : ℕ) → cell x ≡ Dead → (Over s past (mk a) x → ⊥) → after a x ≡ Dead
  stays_dead a h nf x d not = ⊎_elim (λ e. from (touch program s past inv t n sd a h nf x e)) (λ e. same_cell a x e ∙ d) (cases_Bool (touches a x))
    where
      from : Touch s past (mk a) x → after a x ≡ Dead
      from (live l) = absurd (not_dead (cell x) l d)
      from (over o) = absurd (not o)

  -- frames

  stands : (a : Act) → May a → LeavesFirst a (frames mine) → Stacked (stack Replay t) (frames_after a (frames mine)) × (end_of (stack Replay t) (frames_after a (frames mine)) ≤ stack Replay t + stack_size)
  stands (Enter f vs at b) h lf = let k = enters program s past inv t n sd f vs at b h in ((k.0, inv.whole.stacked t), omega (arith, k.0, k.1.0))
  stands (Leave at size) h lf = go (frames mine) lf (inv.whole.stacked t) (inv.whole.room t)
    where
      go : (fs : List Range) → LeavesFirst (Leave at size) fs → Stacked (stack Replay t) fs → end_of (stack Replay t) fs ≤ stack Replay t + stack_size → Stacked (stack Replay t) (frames_after (Leave at size) fs) × (end_of (stack Replay t) (frames_after (Leave at size) fs) ≤ stack Replay t + stack_size)
      go [] l st r = absurd l
      go (f ∷ fs) l st r = (st.1, omega (arith, r, st.0))
  stands Turn h lf = (inv.whole.stacked t, inv.whole.room t)
  stands (Load o at b) h lf = (inv.whole.stacked t, inv.whole.room t)
  stands (Store o at b) h lf = (inv.whole.stacked t, inv.whole.room t)
  stands (Step f args v ins pieces freed) h lf = (inv.whole.stacked t, inv.whole.room t)
  stands (Fault k cr ins outs at) h lf = (inv.whole.stacked t, inv.whole.room t)
  stands (Made e) h lf = (inv.whole.stacked t, inv.whole.room t)

  -- what is above the frames then was so before, or was left
  was_above : (a : Act) → May a → LeavesFirst a (frames mine) → (x : ℕ) → end_of (stack Replay t) (frames_after a (frames mine)) ≤ x → (end_of (stack Replay t) (frames mine) ≤ x) ⊎ (after a x ≡ Dead)
  was_above (Enter f vs at b) h lf x le = let k = enters program s past inv t n sd f vs at b h in inl (omega (arith, k.0, le))
  was_above (Leave at size) h lf x le = go (frames mine) lf (inv.whole.stacked t) le
    where
      go : (fs : List Range) → LeavesFirst (Leave at size) fs → Stacked (stack Replay t) fs → end_of (stack Replay t) (frames_after (Leave at size) fs) ≤ x → (end_of (stack Replay t) fs ≤ x) ⊎ (after (Leave at size) x ≡ Dead)
      go [] l st le = absurd l
      go (f ∷ fs) l st le = ⊎_elim
          (λ lt. inr (cond_true (within at size x) Dead (cell x) (inside at size x (omega (arith, l.0, st.0, le)) (omega (arith, l.0, l.1, lt)))))
          (λ k. inl k)
          (cases_lt x (f.addr + f.len))
  was_above Turn h lf x le = inl le
  was_above (Load o at b) h lf x le = inl le
  was_above (Store o at b) h lf x le = inl le
  was_above (Step f args v ins pieces freed) h lf x le = inl le
  was_above (Fault k cr ins outs at) h lf x le = inl le
  was_above (Made e) h lf x le = inl le

  stacks_after : (a : Act) → May a → LeavesFirst a (frames mine) → (u : ℕ) → Stacked (stack Replay u) (frames (marks_of s u (mk a ∷ past))) × (frame_place u (marks_of s u (mk a ∷ past)) ≤ stack Replay u + stack_size)
  stacks_after a h lf u = ⊎_elim
      (λ e. subst (λ v. Stacked (stack Replay v) (frames (marks_of s v (mk a ∷ past))) × (frame_place v (marks_of s v (mk a ∷ past)) ≤ stack Replay v + stack_size)) e
      (subst (λ l. Stacked (stack Replay t) (frames l) × (frame_place t l ≤ stack Replay t + stack_size)) (sym (own program s past inv t n sd a)) (stands a h lf)))
      (λ ne. subst (λ l. Stacked (stack Replay u) (frames l) × (frame_place u l ≤ stack Replay u + stack_size)) (sym (other program s past inv t n sd a u ne)) (inv.whole.stacked u, inv.whole.room u))
      (cases_eq t u)

  above_after : (a : Act) → May a → is_fault a ≡ 0 → LeavesFirst a (frames mine) → (u x : ℕ) → u < thread_count → frame_place u (marks_of s u (mk a ∷ past)) ≤ x → x < stack Replay u + stack_size → after a x ≡ Dead
  above_after a h nf lf u x lt le hi = ⊎_elim
      (λ e. ⊎_elim
      (λ k. rest (subst (λ v. frame_place v (marks_of s v past) ≤ x) e k))
      (λ d. d)
      (was_above a h lf x (subst (λ l. frame_place t l ≤ x) (own program s past inv t n sd a) (subst (λ v. frame_place v (marks_of s v (mk a ∷ past)) ≤ x) (sym e) le))))
      (λ ne. rest (subst (λ l. frame_place u l ≤ x) (other program s past inv t n sd a u ne) le))
      (cases_eq t u)
    where
      rest : frame_place u (marks_of s u past) ≤ x → after a x ≡ Dead
      rest k = stays_dead a h nf x (inv.whole.above u x lt k hi)
          (λ o. let w = ends_above (stack Replay u) (frames (marks_of s u past)) (inv.whole.stacked u) in o.not_above u lt (omega (arith, w, k)) le hi)

  -- blocks

  module _ (st : ℕ) (ks : List KeyMark) (c : ℕ) where
    abbrev ev : EventKind → Act
    ev k = Made (record { kind = k; steps = st; keys = ks; clock = c })

    -- the block that a Free gives back is the list's
    freed_size : (at size : ℕ) → May (ev (Free at size)) → 1 ≤ size → size_at at bs ≡ size
    freed_size at size h l = sym (agreed.same at) ∙ (h.bytes at (inside at size at (omega arith) (omega (arith, l)))).1 refl

    pool_after : (k : EventKind) → May (ev k) → (d : Bool) → is_listed ks (key Pool 0) ≡ d → InPool (blocks_from s.blocks (cond d (mk (ev k) ∷ new_events pool past) (new_events pool past)))
    pool_after k h false e = inv.whole.in_pool
    pool_after (Alloc at size) h true e = go (h.shared pool e)
      where
        go : IsPlace replay_pool bs size at → InPool (cond (eqb (granted at size) 0) bs (range at size ∷ bs))
        go (inl f) = pick (eqb (granted at size) 0)
          where
            pick : (b : Bool) → InPool (cond b bs (range at size ∷ bs))
            pick true = inv.whole.in_pool
            pick false = (f.0.low, f.0.high, inv.whole.in_pool)
        go (inr z) = subst InPool (sym (cond_true (eqb (granted at size) 0) bs (range at size ∷ bs) (eq-eqb (granted at size) 0 (cond_true (eqb at 0) 0 size (eq-eqb at 0 z.0))))) inv.whole.in_pool
    pool_after (Free at size) h true e = without_in_pool bs at inv.whole.in_pool
    pool_after (Call f args ins outs ps) h true e = inv.whole.in_pool
    pool_after (Ret f args v same outs commit) h true e = inv.whole.in_pool
    pool_after (Up f args) h true e = inv.whole.in_pool
    pool_after (UpRet f v) h true e = inv.whole.in_pool
    pool_after (Stop f) h true e = inv.whole.in_pool

    -- what is in no block then was so before, or was freed
    was_unused : (k : EventKind) → May (ev k) → (x : ℕ) (d : Bool) → any_range (blocks_from s.blocks (cond d (mk (ev k) ∷ new_events pool past) (new_events pool past))) x ≡ false → (any_range bs x ≡ false) ⊎ (after (ev k) x ≡ Dead)
    was_unused k h x false e = inl e
    was_unused (Alloc at size) h x true e = inl (pick (eqb (granted at size) 0) e)
      where
        pick : (b : Bool) → any_range (cond b bs (range at size ∷ bs)) x ≡ false → any_range bs x ≡ false
        pick true z = z
        pick false z = (or_parts (within at size x) (any_range bs x) z).1
    was_unused (Free at size) h x true e = ⊎_elim
        (λ y. ⊎_elim
        (λ z. absurd (true≢false (sym z ∙ e)))
        (λ z. inr (gone z))
        (left_or_freed bs at x y))
        (λ y. inl y)
        (cases_Bool (any_range bs x))
      where
        gone : within at (size_at at bs) x ≡ true → after (ev (Free at size)) x ≡ Dead
        gone z = ⊎_elim
            (λ none. let w = bounds at (size_at at bs) x z in
            let zero : at ≡ 0 = eqb-true at 0 (h.own.carries ∙ eq-eqb size 0 none) in
            let nothing : size_at at bs ≡ 0 = ap (λ v. size_at v bs) zero ∙ no_block_at_zero bs agreed.apart in
            absurd (omega (arith, w.0, w.1, nothing)))
            (λ some. let l : 1 ≤ size = ⊎_elim (λ k. absurd (some (omega (arith, k)))) (λ k. k) (cases_lt size 1) in
            cond_true (within at size x) Dead (cell x) (subst (λ v. within at v x ≡ true) (freed_size at size h l) z))
            (cases_eq size 0)
    was_unused (Call f args ins outs ps) h x true e = inl e
    was_unused (Ret f args v same outs commit) h x true e = inl e
    was_unused (Up f args) h x true e = inl e
    was_unused (UpRet f v) h x true e = inl e
    was_unused (Stop f) h x true e = inl e

  in_pool_after : (a : Act) → May a → InPool (blocks s (mk a ∷ past))
  in_pool_after (Made e) h = pool_after e.steps e.keys e.clock e.kind h (is_listed e.keys (key Pool 0)) refl
  in_pool_after Turn h = inv.whole.in_pool
  in_pool_after (Load o at b) h = inv.whole.in_pool
  in_pool_after (Store o at b) h = inv.whole.in_pool
  in_pool_after (Enter f vs at b) h = inv.whole.in_pool
  in_pool_after (Leave at size) h = inv.whole.in_pool
  in_pool_after (Step f args v ins pieces freed) h = inv.whole.in_pool
  in_pool_after (Fault k cr ins outs at) h = inv.whole.in_pool

  unused_before : (a : Act) → May a → (x : ℕ) → any_range (blocks s (mk a ∷ past)) x ≡ false → (any_range bs x ≡ false) ⊎ (after a x ≡ Dead)
  unused_before (Made e) h x z = was_unused e.steps e.keys e.clock e.kind h x (is_listed e.keys (key Pool 0)) z
  unused_before Turn h x z = inl z
  unused_before (Load o at b) h x z = inl z
  unused_before (Store o at b) h x z = inl z
  unused_before (Enter f vs at b) h x z = inl z
  unused_before (Leave at size) h x z = inl z
  unused_before (Step f args v ins pieces freed) h x z = inl z
  unused_before (Fault k cr ins outs at) h x z = inl z

  unused_after : (a : Act) → May a → is_fault a ≡ 0 → (x : ℕ) → replay_pool ≤ x → x < replay_pool + pool_size → any_range (blocks s (mk a ∷ past)) x ≡ false → after a x ≡ Dead
  unused_after a h nf x lo hi z = ⊎_elim
      (λ y. stays_dead a h nf x (inv.whole.unused x lo hi y) (λ o. o.not_unused lo hi z))
      (λ d. d)
      (unused_before a h x z)

  -- holders

  -- a byte that a Call takes had no holder
  abbrev Free_of : ℕ → Type 0
  Free_of x = (h : Holder) → holds s past x h ≡ true → ⊥

  live_free : (x : ℕ) → IsLive (cell x) → Free_of x
  live_free x l h e = not_both_ways (cell x) l (inv.whole.held x h e)

  -- who holds a byte after the mark
  data Holds (a : Act) (x : ℕ) (h : Holder) : Type 0 where
    keeps_it : touches a x ≡ false → holds s past x h ≡ true → Holds a x h
    takes_it : IsLive (cell x) → act_taken a t x h ≡ true → has (mk a) (link_of h) ≡ true → Holds a x h

  holding : (a : Act) → May a → is_fault a ≡ 0 → (x : ℕ) (h : Holder) → holds s (mk a ∷ past) x h ≡ true → Holds a x h
  holding a may nf x h e = ⊎_elim
      (λ z. from z (touch program s past inv t n sd a may nf x z) (holds_cases s past (mk a) x h e))
      (λ z. ⊎_elim (λ y. keeps_it z y) (λ y. absurd (true≢false (sym (or_true_right (reads a x) (writes a x) (taken a t x h y.0).writes_it) ∙ z))) (holds_cases s past (mk a) x h e))
      (cases_Bool (touches a x))
    where
      from : touches a x ≡ true → Touch s past (mk a) x → (holds s past x h ≡ true) ⊎ ((act_taken a t x h ≡ true) × (has (mk a) (link_of h) ≡ true)) → Holds a x h
      from z (over o) w = absurd (o.none_held h e)
      from z (live l) (inl y) = absurd (live_free x l h y)
      from z (live l) (inr y) = takes_it l y.0 y.1

  held_after : (a : Act) → (x : ℕ) (h : Holder) → Holds a x h → IsHeld (after a x)
  held_after a x h (keeps_it z e) = subst IsHeld (sym (same_cell a x z)) (inv.whole.held x h e)
  held_after a x h (takes_it l e k) = (taken a t x h e).holds_it (cell x) l

  act_one : (a : Act) → May a → (x : ℕ) (h j : Holder) → act_taken a t x h ≡ true → act_taken a t x j ≡ true → h ≡ j
  act_one (Made e) may x h j p q = go e.steps e.keys e.clock e.kind may p q
    where
      go : (st : ℕ) (ks : List KeyMark) (c : ℕ) (k : EventKind) → May (Made (record { kind = k; steps = st; keys = ks; clock = c })) → event_taken k t x h ≡ true → event_taken k t x j ≡ true → h ≡ j
      go st ks c (Call f args ins outs ps) may p q = one_taken f args ins outs ps t x h j may.own.carries.4 p q
      go st ks c (Ret f args v same outs commit) may p q = absurd (true≢false (sym p))
      go st ks c (Up f args) may p q = absurd (true≢false (sym p))
      go st ks c (UpRet f v) may p q = absurd (true≢false (sym p))
      go st ks c (Alloc at size) may p q = absurd (true≢false (sym p))
      go st ks c (Free at size) may p q = absurd (true≢false (sym p))
      go st ks c (Stop f) may p q = absurd (true≢false (sym p))
  act_one Turn may x h j p q = absurd (true≢false (sym p))
  act_one (Load o at b) may x h j p q = absurd (true≢false (sym p))
  act_one (Store o at b) may x h j p q = absurd (true≢false (sym p))
  act_one (Enter f vs at b) may x h j p q = absurd (true≢false (sym p))
  act_one (Leave at size) may x h j p q = absurd (true≢false (sym p))
  act_one (Step f args v ins pieces freed) may x h j p q = absurd (true≢false (sym p))
  act_one (Fault k cr ins outs at) may x h j p q = absurd (true≢false (sym p))

  one_after : (a : Act) → May a → (x : ℕ) (h j : Holder) → Holds a x h → Holds a x j → h ≡ j
  one_after a may x h j (keeps_it z e) (keeps_it y f) = inv.whole.one x h j e f
  one_after a may x h j (keeps_it z e) (takes_it l f k) = absurd (live_free x l h e)
  one_after a may x h j (takes_it l e k) (keeps_it y f) = absurd (live_free x l j f)
  one_after a may x h j (takes_it l e k) (takes_it l' f k') = act_one a may x h j e f

  once_calls : (a : Act) → May a → (x : ℕ) → Once (act_calls a (open_calls mine)) x
  once_calls (Made e) may x = go e.steps e.keys e.clock e.kind may
    where
      go : (st : ℕ) (ks : List KeyMark) (c : ℕ) (k : EventKind) → May (Made (record { kind = k; steps = st; keys = ks; clock = c })) → Once (calls_after k (open_calls mine)) x
      go st ks c (Call f args ins outs ps) may = (λ e. none (cases_Bool (any_held (open_calls mine) x)) ((may.bytes x).1 (or_true_left (any_range outs x) (any_prepared ps x) e)), inv.whole.once t x)
        where
          none : (any_held (open_calls mine) x ≡ true) ⊎ (any_held (open_calls mine) x ≡ false) → IsLive (cell x) → any_held (open_calls mine) x ≡ false
          none (inl y) l = absurd (live_free x l (Calling t) y)
          none (inr y) l = y
      go st ks c (Ret f args v same outs commit) may = once_tail (open_calls mine) x (inv.whole.once t x)
      go st ks c (Up f args) may = inv.whole.once t x
      go st ks c (UpRet f v) may = inv.whole.once t x
      go st ks c (Alloc at size) may = inv.whole.once t x
      go st ks c (Free at size) may = inv.whole.once t x
      go st ks c (Stop f) may = inv.whole.once t x
  once_calls Turn may x = inv.whole.once t x
  once_calls (Load o at b) may x = inv.whole.once t x
  once_calls (Store o at b) may x = inv.whole.once t x
  once_calls (Enter f vs at b) may x = inv.whole.once t x
  once_calls (Leave at size) may x = inv.whole.once t x
  once_calls (Step f args v ins pieces freed) may x = inv.whole.once t x
  once_calls (Fault k cr ins outs at) may x = inv.whole.once t x

  once_after : (a : Act) → May a → (u x : ℕ) → Once (open_calls (marks_of s u (mk a ∷ past))) x
  once_after a may u x = ⊎_elim
      (λ e. subst (λ v. Once (open_calls (marks_of s v (mk a ∷ past))) x) e (subst (λ l. Once (open_calls l) x) (sym (own program s past inv t n sd a)) (once_calls a may x)))
      (λ ne. subst (λ l. Once (open_calls l) x) (sym (other program s past inv t n sd a u ne)) (inv.whole.once u x))
      (cases_eq t u)

  -- where a live byte dies

  data Dies (a : Act) (x : ℕ) : Type 0 where
    leaves_it : writes a x ≡ true → late a ≡ false → stack Replay t ≤ x → x < stack Replay t + stack_size → Dies a x
    frees_it : writes a x ≡ true → late a ≡ false → has (mk a) pool ≡ true → replay_pool ≤ x → x < replay_pool + pool_size → Dies a x

  dies : (a : Act) → May a → LeavesFirst a (frames mine) → (x : ℕ) → IsLive (cell x) → after a x ≡ Dead → Dies a x
  dies Turn may lf x l d = absurd (not_dead (cell x) l d)
  dies (Load o at b) may lf x l d = absurd (not_dead (cell x) l d)
  dies (Store o at b) may lf x l d = absurd (not_dead (after (Store o at b) x) (cond_live (within at (length b) x) (Live (byte_at at b x)) (cell x) tt l) d)
  dies (Enter f vs at b) may lf x l d = absurd (not_dead (after (Enter f vs at b) x) (cond_live (within at (length b) x) (Live (byte_at at b x)) (cell x) tt l) d)
  dies (Step f args v ins pieces freed) may lf x l d = absurd (not_dead (cell x) l d)
  dies (Fault k cr ins outs at) may lf x l d = absurd (not_dead (cell x) l d)
  dies (Leave at size) may lf x l d = ⊎_elim
      (λ e. go (frames mine) lf (inv.whole.stacked t) (inv.whole.room t) e (bounds at size x e))
      (λ e. absurd (not_dead (cell x) l (sym (cond_false (within at size x) Dead (cell x) e) ∙ d)))
      (cases_Bool (within at size x))
    where
      go : (fs : List Range) → LeavesFirst (Leave at size) fs → Stacked (stack Replay t) fs → end_of (stack Replay t) fs ≤ stack Replay t + stack_size → within at size x ≡ true → (at ≤ x) × (x < at + size) → Dies (Leave at size) x
      go [] lf st r e w = absurd lf
      go (f ∷ fs) lf st r e w = let k = ends_above (stack Replay t) fs st.1 in leaves_it e refl (omega (arith, w.0, lf.0, st.0, k)) (omega (arith, w.1, lf.0, lf.1, r))
  dies (Made e) may lf x l d = go e.steps e.keys e.clock e.kind may d
    where
      go : (st : ℕ) (ks : List KeyMark) (c : ℕ) (k : EventKind) → May (Made (record { kind = k; steps = st; keys = ks; clock = c })) → event_leaves k x (cell x) ≡ Dead → Dies (Made (record { kind = k; steps = st; keys = ks; clock = c })) x
      go st ks c (Call f args ins outs ps) may d = absurd (pick (any_range outs x || any_prepared ps x) d)
        where
          pick : (b : Bool) → cond b (hold (cell x)) (cell x) ≡ Dead → ⊥
          pick true d = held_not_dead (hold (cell x)) (hold_holds (cell x) l) d
          pick false d = not_dead (cell x) l d
      go st ks c (Ret f args v same outs commit) may d = absurd (not_dead (give_any (outs ++ released commit) x (cell x)) (given_live (outs ++ released commit) x (cell x) l) d)
      go st ks c (Up f args) may d = absurd (not_dead (cell x) l d)
      go st ks c (UpRet f v) may d = absurd (not_dead (cell x) l d)
      go st ks c (Alloc at size) may d = absurd (not_dead (event_leaves (Alloc at size) x (cell x)) (cond_live (within at (granted at size) x) (Live 0) (cell x) tt l) d)
      go st ks c (Free at size) may d = ⊎_elim
          (λ e. let w = bounds at size x e in
          let some : 1 ≤ size = omega (arith, w.0, w.1) in
          let k = block_in_pool bs at size inv.whole.in_pool (freed_size st ks c at size may some) some in
          frees_it e refl (listed_last ks [] (key Pool 0) may.own.keys) (omega (arith, w.0, k.0)) (omega (arith, w.1, k.1)))
          (λ e. absurd (not_dead (cell x) l (sym (cond_false (within at size x) Dead (cell x) e) ∙ d)))
          (cases_Bool (within at size x))
      go st ks c (Stop f) may d = absurd (not_dead (cell x) l d)

  -- what is known

  module _ (steps : Run (replay_rules program s) s past) (a : Act) (may : May a) (nf : is_fault a ≡ 0) (lf : LeavesFirst a (frames mine)) (free : NoRace past (mk a)) where
    t_knows : (x : ℕ) → writes a x ≡ true → late a ≡ false → AreKnown (mk a ∷ past) (OfThread t) x
    t_knows x w e = thread_knows (replay_rules program s) s past (mk a) steps may.index free x w e

    -- a byte that is dead then was dead and isn't touched, or dies
    dead_known : (x : ℕ) → after a x ≡ Dead → ((cell x ≡ Dead) × (touches a x ≡ false)) ⊎ Dies a x
    dead_known x d = ⊎_elim
        (λ z. inr (from (touch program s past inv t n sd a may nf x z)))
        (λ z. inl (sym (same_cell a x z) ∙ d, z))
        (cases_Bool (touches a x))
      where
        from : Touch s past (mk a) x → Dies a x
        from (live l) = dies a may lf x l d
        from (over o) = absurd (not_dead (after a x) o.live_after d)

    in_stack : (u x : ℕ) → u < thread_count → stack Replay u ≤ x → x < stack Replay u + stack_size → Dies a x → AreKnown (mk a ∷ past) (OfThread u) x
    in_stack u x lt lo hi (leaves_it w e lo' hi') = subst (λ v. AreKnown (mk a ∷ past) (OfThread v) x) (one_stack t u x lo' hi' lo hi) (t_knows x w e)
    in_stack u x lt lo hi (frees_it w e h lo' hi') = absurd (not_both_areas u x lt hi lo')

    in_the_pool : (x : ℕ) → replay_pool ≤ x → Dies a x → AreKnown (mk a ∷ past) pool x
    in_the_pool x lo (leaves_it w e lo' hi') = absurd (not_both_areas t x may.own.thread hi' lo)
    in_the_pool x lo (frees_it w e h lo' hi') = key_knows (replay_rules program s) s past (mk a) steps may.index free x w e (key Pool 0) h

    by_holder : (x : ℕ) (h : Holder) → Holds a x h → AreKnown (mk a ∷ past) (link_of h) x
    by_holder x h (keeps_it z e) = stays_known past (mk a) (link_of h) x z ((inv.known x).held h e)
    by_holder x (Calling u) (takes_it l e k) = let w = taken a t x (Calling u) e in subst (λ v. AreKnown (mk a ∷ past) (OfThread v) x) (eqb-true t u (and_parts (is_event a) (eqb t u) k).1) (t_knows x w.writes_it w.early)
    by_holder x (Preparing i) (takes_it l e k) = let w = taken a t x (Preparing i) e in key_knows (replay_rules program s) s past (mk a) steps may.index free x w.writes_it w.early (key Async i) k

    known_after : (x : ℕ) → BytesAreKnown s (mk a ∷ past) x
    known_after x = record {
      stacks = λ u lt lo hi d. ⊎_elim (λ z. stays_known past (mk a) (OfThread u) x z.1 ((inv.known x).stacks u lt lo hi z.0)) (λ z. in_stack u x lt lo hi z) (dead_known x d);
      pool = λ lo hi d. ⊎_elim (λ z. stays_known past (mk a) pool x z.1 ((inv.known x).pool lo hi z.0)) (λ z. in_the_pool x lo z) (dead_known x d);
      held = λ h e. by_holder x h (holding a may nf x h e);
    }

    pub step : Inv s (mk a ∷ past)
    step = record {
      whole = record {
        stacked = λ u. (stacks_after a may lf u).0;
        room = λ u. (stacks_after a may lf u).1;
        above = λ u x lt le hi. above_after a may nf lf u x lt le hi;
        listed = more program s past (mk a) may agreed;
        in_pool = in_pool_after a may;
        unused = λ x lo hi z. unused_after a may nf x lo hi z;
        once = λ u x. once_after a may u x;
        held = λ x h e. held_after a x h (holding a may nf x h e);
        one = λ x h j e f. one_after a may x h j (holding a may nf x h e) (holding a may nf x j f);
        owed = λ x h. owed_after program s past inv inv.whole.owed t n sd a may nf x h;
      };
      known = known_after;
    }

pub fresh_whole : FreshStartsAreWhole
fresh_whole memory none = record {
  stacked = λ t. tt;
  room = λ t. omega arith;
  above = λ t x lt le hi. none.cells x (omega (arith, le)) (omega (arith, lt, hi));
  listed = record { apart = tt; same = none.blocks };
  in_pool = tt;
  unused = λ x lo hi z. none.cells x (omega (arith, lo)) (omega (arith, hi));
  once = λ t x. tt;
  held = λ x h e. absurd (holds_none x h e);
  one = λ x h j e f. absurd (holds_none x h e);
  owed = λ x h. absurd (none.unheld x h);
}
  where
    holds_none : (x : ℕ) (h : Holder) → holds (fresh memory) [] x h ≡ true → ⊥
    holds_none x (Calling u) e = true≢false (sym e)
    holds_none x (Preparing k) e = true≢false (sym e)

-- before the first mark there is no access
begins : (s : Start) → IsWhole s [] → Inv s []
begins s whole = record {
  whole = whole;
  known = λ x. record { stacks = λ t lt lo hi d a i. absurd i; pool = λ lo hi d a i. absurd i; held = λ h e a i. absurd i };
}

runs : (program : Program) (s : Start) (run : List Mark) → Calm program s run → Inv s run
runs program s [] c = begins s c.starts
runs program s (m ∷ past) c =
    let before = runs program s past (record { starts = c.starts; steps = c.steps.1; race_free = race_prefix (replay_rules program s) s (m ∷ []) past c.steps c.race_free; in_order = c.in_order.1; no_fault = omega (arith, c.no_fault) }) in
    step program s past before before.whole.listed
    m.thread m.index m.side c.steps.1 m.act c.steps.0 (omega (arith, c.no_fault)) c.in_order.0
    (race_free_test (replay_rules program s) s past m c.steps c.race_free)

pub are_known : (program : Program) (s : Start) → UnseenBytesAreKnown program s
are_known program s run calm x = (runs program s run calm).known x

pub stay_whole : (program : Program) (s : Start) → CalmRunsAreWhole program s
stay_whole program s run calm = (runs program s run calm).whole

-- a frame, a new block and a return touch nothing but what their threads know of

module _ (program : Program) (s : Start) (past : List Mark) (inv : Inv s past) (t n : ℕ) (sd : Side) where
  takes_unseen : (a : Act) → Allowed (replay_rules program s) s past (record { thread = t; side = sd; index = n; act = a }) → TakesUnseen a → (x : ℕ) → touches a x ≡ true → Over s past (record { thread = t; side = sd; index = n; act = a }) x
  takes_unseen (Enter f vs at b) h u x e = entered program s past inv t n sd f vs at b h x e
  takes_unseen (Made e) h u x z = go e.steps e.keys e.clock e.kind h u z
    where
      go : (st : ℕ) (ks : List KeyMark) (c : ℕ) (k : EventKind) → Allowed (replay_rules program s) s past (record { thread = t; side = sd; index = n; act = Made (record { kind = k; steps = st; keys = ks; clock = c }) }) → IsNewOrBack k → (event_reads k x || event_writes k x) ≡ true → Over s past (record { thread = t; side = sd; index = n; act = Made (record { kind = k; steps = st; keys = ks; clock = c }) }) x
      go st ks c (Alloc at size) h u z = allocated program s past inv t n sd st ks c at size h x z
      go st ks c (Ret f args v same outs commit) h u z = returned program s past inv t n sd st ks c f args v same outs commit h x z
      go st ks c (Call f args ins outs ps) h u z = absurd u
      go st ks c (Up f args) h u z = absurd u
      go st ks c (UpRet f v) h u z = absurd u
      go st ks c (Free at size) h u z = absurd u
      go st ks c (Stop f) h u z = absurd u
  takes_unseen Turn h u x z = absurd u
  takes_unseen (Load o at b) h u x z = absurd u
  takes_unseen (Store o at b) h u x z = absurd u
  takes_unseen (Leave at size) h u x z = absurd u
  takes_unseen (Step f args v ins pieces gone) h u x z = absurd u
  takes_unseen (Fault k cr ins outs at) h u x z = absurd u

-- both of two that conflict touch the byte
both_touch : (wa ra wm rm : Bool) → ((wa && (rm || wm)) || ((ra || wa) && wm)) ≡ true → ((ra || wa) ≡ true) × ((rm || wm) ≡ true)
both_touch wa ra wm rm e = ⊎_elim
    (λ z. let p = and_parts wa (rm || wm) z in (or_true_right ra wa p.0, p.1))
    (λ z. let p = and_parts (ra || wa) wm z in (p.0, or_true_right rm wm p.1))
    (or_cases (wa && (rm || wm)) ((ra || wa) && wm) e)

pub race_with_nothing : (program : Program) (s : Start) → UnseenBytesRaceWithNothing program s
race_with_nothing program s past calm m may unseen a i ne x e =
    let w = both_touch (writes a.act x) (reads a.act x) (writes m.act x) (reads m.act x) e in
    (takes_unseen program s past (runs program s past calm) m.thread m.index m.side m.act may unseen x w.1).seen a i (λ z. ne (sym z)) w.0

-- whoever races at a byte touches it
racer_touches : (w t c : Bool) → (w || (true && (c && t))) ≡ true → (r : Bool) → (r || w) ≡ t → t ≡ true
racer_touches true t c e r is = sym is ∙ or_true_right r true refl
racer_touches false t c e r is = (and_parts c t e).1

pub frames_unraced : (program : Program) (s : Start) → FramesRaceWithNothing program s
frames_unraced program s past calm t size lt room x u e w =
    let a = w.0 in
    let place_of : place a < known past (OfThread t) a.thread = (inv.known x).stacks t lt low high (inv.whole.above t x lt in_frame.0 high) a w.1 (ne_eqb t a.thread (λ z. w.3 (sym (z ∙ w.2)))) (racer_touches (writes a.act x) (touches a.act x) (not (is_constant x)) w.4 (reads a.act x) refl) in
    let same : known past (OfThread t) a.thread ≡ known past (OfThread t) u = ap (known past (OfThread t)) w.2 in
    absurd (omega (arith, place_of, same, w.5))
  where
    inv : Inv s past
    inv = runs program s past calm

    in_frame : (frame_place t (marks_of s t past) ≤ x) × (x < frame_place t (marks_of s t past) + size)
    in_frame = bounds (frame_place t (marks_of s t past)) size x e

    low : stack Replay t ≤ x
    low = omega (arith, in_frame.0, ends_above (stack Replay t) (frames (marks_of s t past)) (inv.whole.stacked t))

    high : x < stack Replay t + stack_size
    high = omega (arith, in_frame.1, room.0)
