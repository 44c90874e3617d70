-- In a run without a fault, the bytes of frames and blocks are in live objects.
use Rattle.std.proofs.Common.{◌≡◌, ◌≢◌, ⊎_elim, ℕ, ◌+◌, ◌<◌, ◌≤◌, Bool, true, false, cond, ◌||◌, eqb, ltb, List, [], ◌∷◌, ◌++◌, map, length, refl, sym, ap, ◌∙◌, subst, arith, eqb-true}
use Rattle.std.proofs.lemmas.Bool.{or_cases, true≢false, eqb-false}
use Rattle.run_events.specs.declared.key.Class.TheVariants.{Pool}
use Rattle.marks.specs.declared.side.Side.TheVariants.{Replay}
use Rattle.marks.specs.Places.{thread_count, stack, stack_size, replay_pool, pool_size}
use Rattle.marks.specs.declared.range.Range.{Range}
use Rattle.marks.specs.Ranges.{Piece, range, within, covers, any_range, any_prepared, byte_at}
use Rattle.marks.specs.Marks.{EventKind, Call, Ret, Up, UpRet, Alloc, Free, Stop, Event, Act, Turn, Load, Store, Enter, Leave, Step, Fault, Made, Mark, released}
use Rattle.marks.specs.Opens.{tail, frames_after, frames}
use Rattle.marks.specs.Bytes.{Asks, EventAsks, Cell, Dead, Live, Held, granted, hold, release, give, give_any, event_leaves, cell_after}
use Rattle.replay_runs.specs.Runs.{Start, Link, OfKey, has, is_listed, keys_of, marks_of, new_events, byte, Allowed}
use Rattle.replay_runs.specs.Interface.{Program}
use Rattle.replay_runs.specs.Threads.{end_of}
use Rattle.replay_runs.specs.Pool.{without, blocks_after, act_blocks, blocks_from, blocks}
use Rattle.replay_runs.specs.Keys.{key, sorted_keys, keys_for}
use Rattle.replay_runs.specs.Rules.{HasKeys, replay_rules}
use Rattle.replay_runs.specs.Unseen.{LeavesFirst, Stacked, InPool, IsWhole, Calm}
use Rattle.replay_runs.proofs.Blocks.{bounds}
use Rattle.replay_runs.specs.Blocks.{LieApart, size_at}
use Rattle.replay_runs.proofs.Lies.{inside, ends_above, one_stack, not_both_areas, meets_none_out}
use Rattle.marks.proofs.Touched.{or_true_left, or_true_right}
use Rattle.replay_runs.proofs.Keys.{listed_last}
use Rattle.replay_runs.proofs.Facts.{race_prefix}
use Rattle.replay_runs.proofs.Unseen.{stay_whole}

-- ---- cells

not_live_dead : (v : ℕ) → Live v ≢ Dead
not_live_dead v e = cc

cond_alive : (b : Bool) (c d : Cell) → c ≢ Dead → d ≢ Dead → cond b c d ≢ Dead
cond_alive true c d h k = h
cond_alive false c d h k = k

hold_alive : (c : Cell) → c ≢ Dead → hold c ≢ Dead
hold_alive Dead h e = h e
hold_alive (Live v) h e = cc
hold_alive (Held v) h e = cc

release_alive : (c : Cell) → c ≢ Dead → release c ≢ Dead
release_alive Dead h e = h e
release_alive (Live v) h e = cc
release_alive (Held v) h e = cc

give_alive : (ps : List Piece) (x : ℕ) (c : Cell) → c ≢ Dead → give_any ps x c ≢ Dead
give_alive [] x c h = h
give_alive (p ∷ ps) x c h = cond_alive (covers p.range x) (give p x c) (give_any ps x c)
    (cond_alive (ltb x (p.range.addr + length p.bytes)) (Live (byte_at p.range.addr p.bytes x)) (release c) (not_live_dead _) (release_alive c h))
    (give_alive ps x c h)

abbrev left_at : Act → ℕ
left_at (Leave at size) = at
left_at a = 0

abbrev left_size : Act → ℕ
left_size (Leave at size) = size
left_size a = 0

-- what takes an object away
abbrev event_ends : EventKind → ℕ → Bool
event_ends (Free at size) x = within at size x
event_ends (Call f args ins outs prepared) x = false
event_ends (Ret f args v same outs commit) x = false
event_ends (Up f args) x = false
event_ends (UpRet f v) x = false
event_ends (Alloc at size) x = false
event_ends (Stop fault) x = false

abbrev ends : Act → ℕ → Bool
ends (Leave at size) x = within at size x
ends (Made e) x = event_ends e.kind x
ends Turn x = false
ends (Load o at bytes) x = false
ends (Store o at bytes) x = false
ends (Enter f args at bytes) x = false
ends (Step f args v ins pieces freed) x = false
ends (Fault k c ins outs at) x = false

-- all else leaves what lives
event_alive : (k : EventKind) (x : ℕ) (c : Cell) → event_ends k x ≡ false → c ≢ Dead → event_leaves k x c ≢ Dead
event_alive (Call f args ins outs prepared) x c n h = cond_alive (any_range outs x || any_prepared prepared x) (hold c) c (hold_alive c h) h
event_alive (Ret f args v same outs commit) x c n h = give_alive (outs ++ released commit) x c h
event_alive (Up f args) x c n h = h
event_alive (UpRet f v) x c n h = h
event_alive (Alloc at size) x c n h = cond_alive (within at (granted at size) x) (Live 0) c (not_live_dead 0) h
event_alive (Free at size) x c n h = subst (λ b. cond b Dead c ≢ Dead) (sym n) h
event_alive (Stop fault) x c n h = h

act_alive : (a : Act) (x : ℕ) (c : Cell) → ends a x ≡ false → c ≢ Dead → cell_after a x c ≢ Dead
act_alive Turn x c n h = h
act_alive (Load o at bytes) x c n h = h
act_alive (Store o at bytes) x c n h = cond_alive (within at (length bytes) x) _ c (not_live_dead _) h
act_alive (Enter f args at bytes) x c n h = cond_alive (within at (length bytes) x) _ c (not_live_dead _) h
act_alive (Leave at size) x c n h = subst (λ b. cond b Dead c ≢ Dead) (sym n) h
act_alive (Step f args v ins pieces freed) x c n h = h
act_alive (Fault k cr ins outs at) x c n h = h
act_alive (Made e) x c n h = event_alive e.kind x c n h

-- ---- frames and blocks

false_of : (b : Bool) → (b ≡ true → ⊥) → b ≡ false
false_of true n = absurd (n refl)
false_of false n = refl

in_stack : (base : ℕ) (fs : List Range) (x : ℕ) → Stacked base fs → any_range fs x ≡ true → (base ≤ x) × (x < end_of base fs)
in_stack base [] x st e = absurd (true≢false (sym e))
in_stack base (f ∷ fs) x st e = ⊎_elim
    (λ z. let b = bounds f.addr f.len x z in let k = ends_above base fs st.1 in (omega (arith, b.0, k, st.0), b.1))
    (λ z. let r = in_stack base fs x st.1 z in (r.0, omega (arith, r.1, st.0)))
    (or_cases (covers f x) (any_range fs x) e)

in_pool : (bs : List Range) (x : ℕ) → InPool bs → any_range bs x ≡ true → (replay_pool ≤ x) × (x < replay_pool + pool_size)
in_pool [] x h e = absurd (true≢false (sym e))
in_pool (b ∷ bs) x h e = ⊎_elim
    (λ z. let w = bounds b.addr b.len x z in (omega (arith, w.0, h.0), omega (arith, w.1, h.1)))
    (λ z. in_pool bs x h.2 z)
    (or_cases (covers b x) (any_range bs x) e)

-- each byte of a frame of one of the threads, or of a block, is in a live object
pub record AreAlive (s : Start) (past : List Mark) : Type 0 where
  pub framed : (t x : ℕ) → t < thread_count → any_range (frames (marks_of s t past)) x ≡ true → (byte s x past).cell ≢ Dead
  pub blocked : (x : ℕ) → any_range (blocks s past) x ≡ true → (byte s x past).cell ≢ Dead

-- the block that begins there is one of them
pub size_in : (bs : List Range) (at x : ℕ) → within at (size_at at bs) x ≡ true → any_range bs x ≡ true
size_in [] at x e = let b = bounds at 0 x e in absurd (omega (arith, b.0, b.1))
size_in (b ∷ bs) at x e = go (eqb b.addr at) refl e (λ z. size_in bs at x z)
  where
    go : (c : Bool) → eqb b.addr at ≡ c → within at (cond c b.len (size_at at bs)) x ≡ true → (within at (size_at at bs) x ≡ true → any_range bs x ≡ true) → (covers b x || any_range bs x) ≡ true
    go true f z again = or_true_left (covers b x) (any_range bs x) (subst (λ u. within u b.len x ≡ true) (sym (eqb-true b.addr at f)) z)
    go false f z again = or_true_right (covers b x) (any_range bs x) (again z)

-- without the block that is freed nothing of it is left
apart_without : (bs : List Range) (at x : ℕ) → LieApart bs → any_range (without at bs) x ≡ true → (any_range bs x ≡ true) × (within at (size_at at bs) x ≡ false)
apart_without [] at x h e = absurd (true≢false (sym e))
apart_without (b ∷ bs) at x h e = go (eqb b.addr at) refl e (λ z. apart_without bs at x h.3 z)
  where
    outside : any_range bs x ≡ true → covers b x ≡ true → ⊥
    outside z y = let w = bounds b.addr b.len x y in true≢false (sym z ∙ meets_none_out bs b.addr b.len x h.2 w.0 w.1)

    go : (c : Bool) → eqb b.addr at ≡ c → any_range (cond c bs (b ∷ without at bs)) x ≡ true → (any_range (without at bs) x ≡ true → (any_range bs x ≡ true) × (within at (size_at at bs) x ≡ false)) →
        (any_range (b ∷ bs) x ≡ true) × (within at (cond c b.len (size_at at bs)) x ≡ false)
    go true f y again = (or_true_right (covers b x) (any_range bs x) y, false_of _ (λ z. outside y (subst (λ u. within u b.len x ≡ true) (sym (eqb-true b.addr at f)) z)))
    go false f y again = ⊎_elim
        (λ z. (or_true_left (covers b x) (any_range bs x) z, false_of _ (λ q. outside (size_in bs at x q) z)))
        (λ z. let w = again z in (or_true_right (covers b x) (any_range bs x) w.0, w.1))
        (or_cases (covers b x) (any_range (without at bs) x) y)

module _ (program : Program) (s : Start) (past : List Mark) (whole : IsWhole s past) (alive : AreAlive s past) (m : Mark) (may : Allowed (replay_rules program s) s past m) (first : LeavesFirst m.act (frames (marks_of s m.thread past))) where
  abbrev now : List Mark
  now = m ∷ past

  abbrev cell : ℕ → Cell
  cell x = (byte s x past).cell

  abbrev pool : Link
  pool = OfKey (key Pool 0)

  -- the frame that ends
  ended_frame : (at size : ℕ) → m.act ≡ Leave at size → (x : ℕ) → within at size x ≡ true → any_range (frames (marks_of s m.thread past)) x ≡ true
  ended_frame at size is x e = go (frames (marks_of s m.thread past)) (subst (λ a. LeavesFirst a (frames (marks_of s m.thread past))) is first)
    where
      go : (fs : List Range) → LeavesFirst (Leave at size) fs → any_range fs x ≡ true
      go [] z = absurd z
      go (f ∷ fs) z = or_true_left (covers f x) (any_range fs x) (subst (λ n. within f.addr n x ≡ true) z.1 (subst (λ a. within a size x ≡ true) z.0 e))

  -- the block that is freed
  freed_block : (e : Event) (at size : ℕ) → m.act ≡ Made e → e.kind ≡ Free at size → (x : ℕ) → within at size x ≡ true → size_at at (blocks s past) ≡ size
  freed_block e at size is kind x z =
      let b = bounds at size x z in
      sym (whole.listed.same at) ∙ (subst (λ k. EventAsks k at (byte s at past)) kind (subst (λ a. Asks a (λ v. byte s v past)) is may.bytes at) (inside at size at (omega arith) (omega (arith, b.0, b.1)))).1 refl

  module _ (x : ℕ) where
    in_frames : (t : ℕ) → any_range (frames (marks_of s t past)) x ≡ true → (stack Replay t ≤ x) × (x < stack Replay t + stack_size)
    in_frames t e = let z = in_stack (stack Replay t) (frames (marks_of s t past)) x (whole.stacked t) e in let r = whole.room t in (z.0, omega (arith, z.1, r))

    frame_or_block : (t : ℕ) → t < thread_count → any_range (frames (marks_of s t past)) x ≡ true → any_range (blocks s past) x ≡ true → ⊥
    frame_or_block t lt e b = let z = in_frames t e in let q = in_pool (blocks s past) x whole.in_pool b in not_both_areas t x lt z.1 q.0

    -- nothing of a frame that stays ends with the mark
    frame_stays : (t : ℕ) → t < thread_count → any_range (frames (marks_of s t past)) x ≡ true → ((at size : ℕ) → m.act ≡ Leave at size → within at size x ≡ true → ⊥) → ends m.act x ≡ false
    frame_stays t lt e unless = by m.act refl
      where
        by_kind : (ev : Event) → m.act ≡ Made ev → (k : EventKind) → ev.kind ≡ k → event_ends k x ≡ false
        by_kind ev is (Free at size) kind = false_of _ (λ z. frame_or_block t lt e (size_in (blocks s past) at x (subst (λ n. within at n x ≡ true) (sym (freed_block ev at size is kind x z)) z)))
        by_kind ev is (Call f args ins outs prepared) kind = refl
        by_kind ev is (Ret f args v same outs commit) kind = refl
        by_kind ev is (Up f args) kind = refl
        by_kind ev is (UpRet f v) kind = refl
        by_kind ev is (Alloc at size) kind = refl
        by_kind ev is (Stop fault) kind = refl

        by : (a : Act) → m.act ≡ a → ends a x ≡ false
        by (Leave at size) is = false_of _ (unless at size is)
        by (Made ev) is = by_kind ev is ev.kind refl
        by Turn is = refl
        by (Load o at bytes) is = refl
        by (Store o at bytes) is = refl
        by (Enter f args at bytes) is = refl
        by (Step f args v ins pieces freed) is = refl
        by (Fault k c ins outs at) is = refl

    kept : (b : Bool) → ends m.act x ≡ false → cell x ≢ Dead → (byte s x now).cell ≢ Dead
    kept b n h = act_alive m.act x (cell x) n h

    other_thread : (t : ℕ) → t < thread_count → m.thread ≢ t → any_range (frames (marks_of s t past)) x ≡ true → (byte s x now).cell ≢ Dead
    other_thread t lt ne e = kept true
        (frame_stays t lt e (λ at size is z.
        let mine = in_frames m.thread (ended_frame at size is x z) in
        let theirs = in_frames t e in
        ne (one_stack m.thread t x mine.0 mine.1 theirs.0 theirs.1)))
        (alive.framed t x lt e)

    same_thread : any_range (frames_after m.act (frames (marks_of s m.thread past))) x ≡ true → (byte s x now).cell ≢ Dead
    same_thread e = by m.act refl e
      where
        fs : List Range
        fs = frames (marks_of s m.thread past)

        as_before : any_range fs x ≡ true → ((at size : ℕ) → m.act ≡ Leave at size → within at size x ≡ true → ⊥) → (byte s x now).cell ≢ Dead
        as_before z unless = kept true (frame_stays m.thread may.own.thread z unless) (alive.framed m.thread x may.own.thread z)

        no_leave : (a : Act) → m.act ≡ a → ((at size : ℕ) → a ≢ Leave at size) → (at size : ℕ) → m.act ≡ Leave at size → within at size x ≡ true → ⊥
        no_leave a is n at size z y = n at size (sym is ∙ z)

        left : (at size : ℕ) (gs : List Range) → LeavesFirst (Leave at size) gs → Stacked (stack Replay m.thread) gs → any_range (tail gs) x ≡ true → (any_range gs x ≡ true) × (within at size x ≡ true → ⊥)
        left at size [] z st y = absurd z
        left at size (f ∷ gs) z st y =
            let r = in_stack (stack Replay m.thread) gs x st.1 y in
            (or_true_right (covers f x) (any_range gs x) y, λ q. let b = bounds at size x q in absurd (omega (arith, b.0, r.1, st.0, z.0)))

        by : (a : Act) → m.act ≡ a → any_range (frames_after a fs) x ≡ true → (byte s x now).cell ≢ Dead
        by (Enter f args at bytes) is z = ⊎_elim
            (λ y. subst (λ a. cell_after a x (cell x) ≢ Dead) (sym is) (subst (λ b. cond b (Live (byte_at at bytes x)) (cell x) ≢ Dead) (sym y) (not_live_dead _)))
            (λ y. as_before y (no_leave _ is (λ at size q. cc)))
            (or_cases (within at (length bytes) x) (any_range fs x) z)
        by (Leave at size) is z =
            let l = left at size fs (subst (λ a. LeavesFirst a fs) is first) (whole.stacked m.thread) z in
            as_before l.0 (λ at' size' q y. l.1 (same_leave at' size' q y))
          where
            same_leave : (at' size' : ℕ) → m.act ≡ Leave at' size' → within at' size' x ≡ true → within at size x ≡ true
            same_leave at' size' q y =
                let e : Leave at' size' ≡ Leave at size = sym q ∙ is in
                subst (λ n. within at n x ≡ true) (ap left_size e) (subst (λ a. within a size' x ≡ true) (ap left_at e) y)
        by Turn is z = as_before z (no_leave _ is (λ at size q. cc))
        by (Load o at bytes) is z = as_before z (no_leave _ is (λ at size q. cc))
        by (Store o at bytes) is z = as_before z (no_leave _ is (λ at size q. cc))
        by (Step f args v ins pieces freed) is z = as_before z (no_leave _ is (λ at size q. cc))
        by (Fault k c ins outs at) is z = as_before z (no_leave _ is (λ at size q. cc))
        by (Made ev) is z = as_before z (no_leave _ is (λ at size q. cc))

    framed_now : (t : ℕ) → t < thread_count → any_range (frames (marks_of s t now)) x ≡ true → (byte s x now).cell ≢ Dead
    framed_now t lt e = go (eqb m.thread t) refl e
      where
        go : (b : Bool) → eqb m.thread t ≡ b → any_range (frames (cond b (m ∷ marks_of s t past) (marks_of s t past))) x ≡ true → (byte s x now).cell ≢ Dead
        go true d z = same_thread (subst (λ u. any_range (frames_after m.act (frames (marks_of s u past))) x ≡ true) (sym (eqb-true m.thread t d)) z)
        go false d z = other_thread t lt (eqb-false m.thread t d) z

    -- ---- blocks

    blocks_now : (b : Bool) → has m pool ≡ b → blocks s now ≡ cond b (act_blocks m.act (blocks s past)) (blocks s past)
    blocks_now true e = ap (λ c. blocks_from s.blocks (cond c (m ∷ new_events pool past) (new_events pool past))) e
    blocks_now false e = ap (λ c. blocks_from s.blocks (cond c (m ∷ new_events pool past) (new_events pool past))) e

    has_pool : (e : Event) → m.act ≡ Made e → (k : EventKind) → e.kind ≡ k → keys_for program.interface m.thread (marks_of s m.thread past) k ≡ key Pool 0 ∷ [] → has m pool ≡ true
    has_pool e is k kind ks =
        let keyed : HasKeys program.interface m.thread (marks_of s m.thread past) (Made e) = subst (HasKeys program.interface m.thread (marks_of s m.thread past)) is may.own.keys in
        let listed : is_listed e.keys (key Pool 0) ≡ true = listed_last e.keys [] (key Pool 0) (subst (λ q. map (λ y. y.key) e.keys ≡ sorted_keys (keys_for program.interface m.thread (marks_of s m.thread past) q)) kind keyed ∙ ap sorted_keys ks) in
        ap (λ a. is_listed (keys_of a) (key Pool 0)) is ∙ listed

    block_stays : any_range (blocks s past) x ≡ true → ((e : Event) (at size : ℕ) → m.act ≡ Made e → e.kind ≡ Free at size → within at size x ≡ true → ⊥) → (byte s x now).cell ≢ Dead
    block_stays b unless = kept true (by m.act refl) (alive.blocked x b)
      where
        by_kind : (ev : Event) → m.act ≡ Made ev → (k : EventKind) → ev.kind ≡ k → event_ends k x ≡ false
        by_kind ev is (Free at size) kind = false_of _ (unless ev at size is kind)
        by_kind ev is (Call f args ins outs prepared) kind = refl
        by_kind ev is (Ret f args v same outs commit) kind = refl
        by_kind ev is (Up f args) kind = refl
        by_kind ev is (UpRet f v) kind = refl
        by_kind ev is (Alloc at size) kind = refl
        by_kind ev is (Stop fault) kind = refl

        by : (a : Act) → m.act ≡ a → ends a x ≡ false
        by (Leave at size) is = false_of _ (λ z. frame_or_block m.thread may.own.thread (ended_frame at size is x z) b)
        by (Made ev) is = by_kind ev is ev.kind refl
        by Turn is = refl
        by (Load o at bytes) is = refl
        by (Store o at bytes) is = refl
        by (Enter f args at bytes) is = refl
        by (Step f args v ins pieces freed) is = refl
        by (Fault k c ins outs at) is = refl

    blocked_now : any_range (blocks s now) x ≡ true → (byte s x now).cell ≢ Dead
    blocked_now e = by m.act refl
      where
        bs : List Range
        bs = blocks s past

        unchanged : act_blocks m.act bs ≡ bs → any_range bs x ≡ true
        unchanged same = go (has m pool) refl
          where
            go : (b : Bool) → has m pool ≡ b → any_range bs x ≡ true
            go true d = ap (λ q. any_range q x) (sym same) ∙ (ap (λ q. any_range q x) (sym (blocks_now true d)) ∙ e)
            go false d = ap (λ q. any_range q x) (sym (blocks_now false d)) ∙ e

        no_free : (a : Act) → m.act ≡ a → ((ev : Event) → a ≢ Made ev) → (ev : Event) (at size : ℕ) → m.act ≡ Made ev → ev.kind ≡ Free at size → within at size x ≡ true → ⊥
        no_free a is n ev at size z k y = n ev (sym is ∙ z)

        plain : (a : Act) → m.act ≡ a → act_blocks a bs ≡ bs → ((ev : Event) → a ≢ Made ev) → (byte s x now).cell ≢ Dead
        plain a is same n = block_stays (unchanged (ap (λ q. act_blocks q bs) is ∙ same)) (no_free a is n)

        -- an event that frees nothing
        other_kind : (ev : Event) → m.act ≡ Made ev → (k : EventKind) → ev.kind ≡ k → blocks_after k bs ≡ bs → ((at size : ℕ) → k ≢ Free at size) → (byte s x now).cell ≢ Dead
        other_kind ev is k kind same n = block_stays (unchanged (ap (λ q. act_blocks q bs) is ∙ (ap (λ q. blocks_after q bs) kind ∙ same)))
            (λ ev' at size is' kind' y. n at size (sym kind ∙ (ap event_kind (sym is ∙ is') ∙ kind')))
          where
            event_kind : Act → EventKind
            event_kind (Made z) = z.kind
            event_kind a = ev.kind

        by_kind : (ev : Event) → m.act ≡ Made ev → (k : EventKind) → ev.kind ≡ k → (byte s x now).cell ≢ Dead
        by_kind ev is (Call f args ins outs prepared) kind = other_kind ev is _ kind refl (λ at size q. cc)
        by_kind ev is (Ret f args v same outs commit) kind = other_kind ev is _ kind refl (λ at size q. cc)
        by_kind ev is (Up f args) kind = other_kind ev is _ kind refl (λ at size q. cc)
        by_kind ev is (UpRet f v) kind = other_kind ev is _ kind refl (λ at size q. cc)
        by_kind ev is (Stop fault) kind = other_kind ev is _ kind refl (λ at size q. cc)
        by_kind ev is (Free at size) kind =
            let there : any_range (without at bs) x ≡ true = ap (λ q. any_range q x) (sym (blocks_now true (has_pool ev is (Free at size) kind refl) ∙ (ap (λ q. act_blocks q bs) is ∙ ap (λ q. blocks_after q bs) kind))) ∙ e in
            let left = apart_without bs at x whole.listed.apart there in
            block_stays left.0 (λ ev' at' size' is' kind' y.
            let same : Free at' size' ≡ Free at size = sym kind' ∙ (ap event_kind (sym is' ∙ is) ∙ kind) in
            let here : within at size x ≡ true = subst (λ n. within at n x ≡ true) (ap freed_size same) (subst (λ a. within a size' x ≡ true) (ap freed_at same) y) in
            true≢false (sym (subst (λ n. within at n x ≡ true) (sym (freed_block ev at size is kind x here)) here) ∙ left.1))
          where
            event_kind : Act → EventKind
            event_kind (Made z) = z.kind
            event_kind a = ev.kind

            freed_at : EventKind → ℕ
            freed_at (Free a n) = a
            freed_at k = 0

            freed_size : EventKind → ℕ
            freed_size (Free a n) = n
            freed_size k = 0
        by_kind ev is (Alloc at size) kind =
            let there : any_range (cond (eqb (granted at size) 0) bs (range at size ∷ bs)) x ≡ true = ap (λ q. any_range q x) (sym (blocks_now true (has_pool ev is (Alloc at size) kind refl) ∙ (ap (λ q. act_blocks q bs) is ∙ ap (λ q. blocks_after q bs) kind))) ∙ e in
            go (eqb at 0) refl there
          where
            old : any_range bs x ≡ true → (byte s x now).cell ≢ Dead
            old y = block_stays y (λ ev' at' size' is' kind' q. let z : Alloc at size ≡ Free at' size' = sym kind ∙ (ap event_kind (sym is ∙ is') ∙ kind') in cc)
              where
                event_kind : Act → EventKind
                event_kind (Made z) = z.kind
                event_kind a = ev.kind

            fresh : within at (granted at size) x ≡ true → (byte s x now).cell ≢ Dead
            fresh y = subst (λ a. cell_after a x (cell x) ≢ Dead) (sym is) (subst (λ k. event_leaves k x (cell x) ≢ Dead) (sym kind) (subst (λ b. cond b (Live 0) (cell x) ≢ Dead) (sym y) (not_live_dead 0)))

            go : (b : Bool) → eqb at 0 ≡ b → any_range (cond (eqb (granted at size) 0) bs (range at size ∷ bs)) x ≡ true → (byte s x now).cell ≢ Dead
            go true d z = old (ap (λ c. any_range (cond (eqb (cond c 0 size) 0) bs (range at size ∷ bs)) x) (sym d) ∙ z)
            go false d z = some (eqb size 0) (ap (λ c. any_range (cond (eqb (cond c 0 size) 0) bs (range at size ∷ bs)) x) (sym d) ∙ z)
              where
                some : (c : Bool) → any_range (cond c bs (range at size ∷ bs)) x ≡ true → (byte s x now).cell ≢ Dead
                some true q = old q
                some false q = ⊎_elim (λ y. fresh (ap (λ c. within at (cond c 0 size) x) d ∙ y)) old (or_cases (within at size x) (any_range bs x) q)

        by : (a : Act) → m.act ≡ a → (byte s x now).cell ≢ Dead
        by (Made ev) is = by_kind ev is ev.kind refl
        by Turn is = plain _ is refl (λ ev q. cc)
        by (Load o at bytes) is = plain _ is refl (λ ev q. cc)
        by (Store o at bytes) is = plain _ is refl (λ ev q. cc)
        by (Enter f args at bytes) is = plain _ is refl (λ ev q. cc)
        by (Leave at size) is = plain _ is refl (λ ev q. cc)
        by (Step f args v ins pieces freed) is = plain _ is refl (λ ev q. cc)
        by (Fault k c ins outs at) is = plain _ is refl (λ ev q. cc)

  still_alive : AreAlive s now
  still_alive = record { framed = λ t x lt e. framed_now x t lt e; blocked = λ x e. blocked_now x e }

-- what a calm run has in frames and blocks is alive
pub objects_alive : (program : Program) (s : Start) → AreAlive s [] → (run : List Mark) → Calm program s run → AreAlive s run
objects_alive program s begins [] calm = begins
objects_alive program s begins (m ∷ past) calm =
    let before : Calm program s past = record {
      starts = calm.starts;
      steps = calm.steps.1;
      race_free = race_prefix (replay_rules program s) s (m ∷ []) past calm.steps calm.race_free;
      in_order = calm.in_order.1;
      no_fault = let z = calm.no_fault in omega (arith, z);
    } in
    still_alive program s past (stay_whole program s past before) (objects_alive program s begins past before) m calm.steps.0 calm.in_order.0
