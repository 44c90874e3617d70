-- Blocks that are given and freed.
use Rattle.std.proofs.Common.{◌≡◌, ℕ, ◌+◌, ◌≤◌, Bool, true, false, cond, ◌||◌, eqb, List, ◌∷◌, Option, Some, None, is_some, inl, inr, refl, ap, sym, ◌∙◌, subst, arith}
use Rattle.std.specs.Prelude.{unwrap_or, option_map}
use Rattle.std.proofs.lemmas.Bool.{cases_eq, cond-true, cond-false, eq-eqb, ne_eqb, true≢false}
use Rattle.run_events.specs.declared.key.Class.TheVariants.{Pool}
use Rattle.marks.specs.declared.side.Side.TheVariants.{Replay}
use Rattle.marks.specs.Places.{stack, stack_size, replay_pool, pool_size, is_system}
use Rattle.marks.specs.declared.range.Range.{Range}
use Rattle.marks.specs.Ranges.{within, range, covers, any_range, NoneIn}
use Rattle.marks.specs.Marks.{Alloc, Free, Event, Made, Mark}
use Rattle.marks.specs.Bytes.{Dead, Live, IsLive, granted, event_leaves, cell_after, event_block, block_after, Asks, EventAsks}
use Rattle.memory_map.specs.declared.areas.TheConstants.{SYSTEM_MEMORY}
use Rattle.space_memory_bytes.specs.Areas.{byte_at, IsDead}
use Rattle.space_memory_bytes.specs.Numbers.{FillsWith}
use Rattle.space_memory.specs.StackFrames.{stack_of}
use Rattle.pool_list.specs.Blocks.{PoolState, LieBetween, length_at, with_block, without_block}
use Rattle.pool_list.specs.Places.{IsLeastPlace}
use Rattle.pool_list.specs.Places as pool
use Rattle.space_memory_access.specs.declared.holder.Region.{Region}
use Rattle.space_memory_access.specs.Held.{HeldState, prepared_region, IsPending}
use Rattle.space_memory_access.specs.declared.refusal.Refusal.TheVariants.{Pending}
use Rattle.replay_runs.specs.Runs.{Start, OfKey, has, marks_of, byte}
use Rattle.replay_runs.specs.Keys.{key}
use Rattle.replay_runs.specs.Threads.{frames_after, OpenCall, calls_after, act_calls, open_calls}
use Rattle.replay_runs.specs.Pool.{without, blocks_after, act_blocks, blocks, use_after, act_use, Fits, IsPlace}
use Rattle.space_memory.specs.declared.sides.Sides.{Sides}
use Rattle.space_memory.specs.Sides.{SideState, with_blocks}
use Rattle.space_memory.specs.Spaces.{SpaceState}
use Rattle.space_memory.specs.Cells.{is_held}
use Rattle.space_memory_laws.specs.Shown.{value_when_held, cell_of, stack_with, pool_with, by_address}
use Rattle.space_memory_laws.specs.Held.{AreHeld}
use Rattle.space_memory_laws.specs.Sound.{IsBelow, AreStacked, JustTheseLive, IsSound}
use Rattle.space_memory_laws.specs.StandsFor.{HoldsFor, StandsFor}
use Rattle.space_memory_laws.specs.Marks.{IsMark}
use Rattle.space_memory_laws.specs.PoolMarks.{IsAlloc, AllocsAreMarks, RefusedAllocsAreMarks, FreesAreMarks, FreesOfNullAreMarks}
use Rattle.space_memory_laws.proofs.Backs.{still_leaves, frames_stay, calls_stay, keys_stay, blocks_more}
use Rattle.space_memory_laws.proofs.Cells.{cover_cases, cover_parts, covered, dead_from, unheld, below_system, in_replay}
use Rattle.space_memory_laws.proofs.Access.{live_cell}
use Rattle.space_memory_laws.proofs.Least.{none_in}
use Rattle.space_memory_laws.proofs.Moved.{moved}
use Rattle.space_memory_laws.proofs.Blocks.{block_of, lie_with_block, lie_without, by_address_without, nothing_without, any_block, any_is, begins_from, any_without, length_with, none_begins, length_without, none_inside, meets_none, misses_all, none_meets, any_there}

-- a mark that changes the live blocks, and bytes of one range of the pool
record Repools (s : Start) (past : List Mark) (old new : SpaceState) (m : Mark) (bs : List Range) (r : Range) : Type 0 where
  own : blocks s (m ∷ past) ≡ bs
  frames : (fs : List Range) → frames_after m.act fs ≡ fs
  calls : (cs : List OpenCall) → act_calls m.act cs ≡ cs
  keys : (k : ℕ) (q : Option Range) → act_use k m.act q ≡ q
  begins : (x : ℕ) → is_system x ≡ false → (byte s x (m ∷ past)).block ≡ unwrap_or (length_at (by_address bs) x) 0
  side : new.sides.replay ≡ with_blocks old.sides.replay (by_address bs)
  system : new.sides.system ≡ old.sides.system
  held : new.held ≡ old.held
  laid_out : LieBetween replay_pool (replay_pool + pool_size) (by_address bs)
  from : replay_pool ≤ r.addr
  to : r.addr + r.len ≤ replay_pool + pool_size
  outside : (x : ℕ) → covers r x ≡ false → byte_at new.bytes x ≡ byte_at old.bytes x
  bytes : (x : ℕ) → is_system x ≡ false → (byte s x (m ∷ past)).cell ≡ cell_of (byte_at new.bytes x) (value_when_held old.held.regions x)
  live : JustTheseLive (range replay_pool pool_size) bs new.bytes
  unheld : (x : ℕ) → covers r x ≡ true → value_when_held old.held.regions x ≡ None

module _ (s : Start) (past : List Mark) (old new : SpaceState) (m : Mark) (bs : List Range) (r : Range) (h : StandsFor s past old) (k : Repools s past old new m bs r) where
  repooled_sound : IsSound s (m ∷ past) new
  repooled_sound = record {
    ends = λ x last. elim (cover_cases r x) [
      | inl in' ↦ absurd (omega (arith, in'.below, last, k.to))
      | inr out ↦ k.outside x out.is ∙ h.sound.ends x last
    ];
    unheld = λ x dead. ap (λ (q : HeldState). value_when_held q.regions x) k.held ∙ elim (cover_cases r x) [
      | inl in' ↦ k.unheld x in'.is
      | inr out ↦ h.sound.unheld x (sym (k.outside x out.is) ∙ dead)
    ];
    own = λ x is. ap (λ (q : HeldState). value_when_held q.regions x) k.held ∙ h.sound.own x is;
    inside = λ x a b c. elim (cover_cases r x) [
      | inl in' ↦ absurd (true≢false (sym (in_replay x (omega (arith, in'.from, k.from)) (omega (arith, in'.below, k.to))) ∙ b))
      | inr out ↦ k.outside x out.is ∙ h.sound.inside x a b c
    ];
    below = subst IsBelow (sym k.system) h.sound.below;
    held = subst AreHeld (sym k.held) h.sound.held;
    stacked = λ t lt. subst (AreStacked (stack Replay t)) (sym (frames_stay s m past k.frames t)) (h.sound.stacked t lt);
    frames_live = λ t lt x is. elim (cover_cases r x) [
      | inl in' ↦
          let p = cover_parts (range (stack Replay t) stack_size) x is in
          absurd (omega (arith, in'.from, k.from, p.1, lt))
      | inr out ↦ ap is_some (k.outside x out.is) ∙ h.sound.frames_live t lt x is ∙ ap (λ gs. any_range gs x) (sym (frames_stay s m past k.frames t))
    ];
    laid_out = subst (λ bs. LieBetween replay_pool (replay_pool + pool_size) (by_address bs)) (sym k.own) k.laid_out;
    blocks_live = λ x is. k.live x is ∙ ap (λ gs. any_range gs x) (sym k.own);
  }

  repooled : StandsFor s (m ∷ past) new
  repooled = record {
    bytes = λ x own. k.bytes x own ∙ ap (λ (q : HeldState). cell_of (byte_at new.bytes x) (value_when_held q.regions x)) (sym k.held);
    begins = λ x own. k.begins x own ∙ ap (λ (q : SideState). unwrap_or (length_at q.pool.blocks x) 0) (sym k.side);
    stacks = λ t lt. ap (λ (q : SideState). stack_of q.stacks t) k.side ∙ h.stacks t lt ∙ ap (stack_with t) (sym (frames_stay s m past k.frames t));
    pool = ap (λ (q : SideState). q.pool) k.side ∙ ap (λ (q : PoolState). let p : PoolState = record { base = q.base; size = q.size; blocks = by_address bs } in p) h.pool ∙ ap pool_with (sym k.own);
    calls = λ t lt. subst (λ cs. HoldsFor new.held t cs) (sym (calls_stay s m past k.calls t)) (subst (λ q. HoldsFor q t (open_calls (marks_of s t past))) (sym k.held) (h.calls t lt));
    keys = λ j. ap (λ (q : HeldState). option_map (λ (r : Region). r.range) (prepared_region q.regions j)) k.held ∙ h.keys j ∙ sym (keys_stay s m past k.keys j);
    sound = repooled_sound;
  }

-- a place in the pool is one by the run's list of blocks
fits : (bs : List Range) (size addr : ℕ) → 1 ≤ size → pool.IsPlace (pool_with bs) size addr → Fits replay_pool bs size addr
fits bs size addr some p = record { some = some; aligned = p.aligned; low = p.from_base; high = p.in_pool; free = meets_none bs addr size p.free }

fits_back : (bs : List Range) (size addr : ℕ) → Fits replay_pool bs size addr → pool.IsPlace (pool_with bs) size addr
fits_back bs size addr f = record { aligned = f.aligned; from_base = f.low; in_pool = f.high; free = misses_all bs addr size f.free }

-- an Alloc that is to be made
record Allocs (s : Start) (past : List Mark) (old new : SpaceState) (m : Mark) (e : Event) (size addr : ℕ) (bs : List Range) : Type 0 where
  were : blocks s past ≡ bs
  place : IsLeastPlace (pool_with bs) size addr
  some : 1 ≤ size
  side : new.sides.replay ≡ with_blocks old.sides.replay (by_address (range addr size ∷ bs))
  system : new.sides.system ≡ old.sides.system
  fills : FillsWith (record { addr = addr; len = size }) (Some 0) old.bytes new.bytes
  held : new.held ≡ old.held
  is : m.act ≡ Made e
  kind : e.kind ≡ Alloc addr size
  keyed : has m (OfKey (key Pool 0)) ≡ true

module _ (s : Start) (past : List Mark) (old new : SpaceState) (m : Mark) (e : Event) (size addr : ℕ) (bs : List Range) (h : StandsFor s past old) (a : Allocs s past old new m e size addr bs) where
  abbrev r : Range
  r = range addr size

  laid : LieBetween replay_pool (replay_pool + pool_size) (by_address bs)
  laid = subst (λ l. LieBetween replay_pool (replay_pool + pool_size) (by_address l)) a.were h.sound.laid_out

  granted_all : granted addr size ≡ size
  granted_all = cond-false (eqb addr 0) 0 size (ne_eqb addr 0 (λ z. absurd (omega (arith, z, a.place.is_place.from_base))))

  new_blocks : blocks s (m ∷ past) ≡ r ∷ bs
  new_blocks =
      let l = blocks s past in
      blocks_more s m past
      ∙ cond-true (has m (OfKey (key Pool 0))) (act_blocks m.act l) l a.keyed
      ∙ ap (λ z. act_blocks z l) a.is
      ∙ ap (λ z. blocks_after z l) a.kind
      ∙ ap (λ n. cond (eqb n 0) l (r ∷ l)) granted_all
      ∙ cond-false (eqb size 0) l (r ∷ l) (ne_eqb size 0 (λ z. absurd (omega (arith, z, a.some))))
      ∙ ap (λ q. r ∷ q) a.were

  was_dead : (x : ℕ) → covers r x ≡ true → IsDead old.bytes x
  was_dead x c =
      let p = cover_parts r x c in
      let in' : covers (range replay_pool pool_size) x ≡ true = covered (range replay_pool pool_size) x (omega (arith, p.0, a.place.is_place.from_base)) (omega (arith, p.1, a.place.is_place.in_pool)) in
      dead_from (byte_at old.bytes x) (h.sound.blocks_live x in' ∙ ap (λ l. any_range l x) a.were ∙ none_meets bs addr size x (meets_none bs addr size a.place.is_place.free) p.0 p.1)

  alloc_bytes : (x : ℕ) → is_system x ≡ false → cond (covers r x) (Live 0) (byte s x past).cell ≡ cell_of (byte_at new.bytes x) (value_when_held old.held.regions x)
  alloc_bytes x own = elim (cover_cases r x) [
    | inl in' ↦
        cond-true (covers r x) _ _ in'.is
        ∙ sym (ap (cell_of (byte_at new.bytes x)) (h.sound.unheld x (was_dead x in'.is)) ∙ ap (λ b. cell_of b None) (a.fills.filled x in'.is))
    | inr out ↦ cond-false (covers r x) _ _ out.is ∙ h.bytes x own ∙ ap (λ b. cell_of b (value_when_held old.held.regions x)) (sym (a.fills.others.bytes x out.is))
  ]

  old_begins : (x : ℕ) → is_system x ≡ false → (byte s x past).block ≡ unwrap_or (length_at (by_address bs) x) 0
  old_begins x own = h.begins x own ∙ ap (λ (q : PoolState). unwrap_or (length_at q.blocks x) 0) h.pool ∙ ap (λ l. unwrap_or (length_at (by_address l) x) 0) a.were

  new_begins : (x : ℕ) → unwrap_or (length_at (by_address (r ∷ bs)) x) 0 ≡ cond (eqb addr x) size (unwrap_or (length_at (by_address bs) x) 0)
  new_begins x =
      ap (λ o. unwrap_or o 0) (length_with (by_address bs) (block_of r) x (none_begins replay_pool (replay_pool + pool_size) (by_address bs) addr size addr laid a.place.is_place.free (omega arith) (omega (arith, a.some))))
      ∙ elim (eqb addr x) as (λ c. unwrap_or (cond c (Some size) (length_at (by_address bs) x)) 0 ≡ cond c size (unwrap_or (length_at (by_address bs) x) 0)) [ true ↦ refl | false ↦ refl ]

  alloc_begins : (x : ℕ) → is_system x ≡ false → cond (covers r x) (cond (eqb x addr) size 0) (byte s x past).block ≡ unwrap_or (length_at (by_address (r ∷ bs)) x) 0
  alloc_begins x own = elim (cases_eq x addr) [
    | inl e ↦
        cond-true (covers r x) _ _ (covered r x (omega (arith, e)) (omega (arith, e, a.some)))
        ∙ cond-true (eqb x addr) size 0 (eq-eqb x addr e)
        ∙ sym (new_begins x ∙ cond-true (eqb addr x) size _ (eq-eqb addr x (sym e)))
    | inr ne ↦ elim (cover_cases r x) [
      | inl in' ↦
          cond-true (covers r x) _ _ in'.is
          ∙ cond-false (eqb x addr) size 0 (ne_eqb x addr ne)
          ∙ sym (new_begins x ∙ cond-false (eqb addr x) size _ (ne_eqb addr x (λ z. ne (sym z))) ∙ ap (λ o. unwrap_or o 0)
          (none_begins replay_pool (replay_pool + pool_size) (by_address bs) addr size x laid a.place.is_place.free in'.from in'.below))
      | inr out ↦
          cond-false (covers r x) _ _ out.is
          ∙ old_begins x own
          ∙ sym (new_begins x ∙ cond-false (eqb addr x) size _ (ne_eqb addr x (λ z. ne (sym z))))
    ]
  ]

  alloc_live : JustTheseLive (range replay_pool pool_size) (r ∷ bs) new.bytes
  alloc_live x is = elim (cover_cases r x) [
    | inl in' ↦ ap is_some (a.fills.filled x in'.is) ∙ sym (ap (λ b. b || any_range bs x) in'.is)
    | inr out ↦ ap is_some (a.fills.others.bytes x out.is) ∙ h.sound.blocks_live x is ∙ ap (λ l. any_range l x) a.were ∙ sym (ap (λ b. b || any_range bs x) out.is)
  ]

  alloc_repools : Repools s past old new m (r ∷ bs) r
  alloc_repools = record {
    own = new_blocks;
    frames = λ fs. ap (λ z. frames_after z fs) a.is;
    calls = λ cs. ap (λ z. act_calls z cs) a.is ∙ ap (λ z. calls_after z cs) a.kind;
    keys = λ k q. ap (λ z. act_use k z q) a.is ∙ ap (λ z. use_after k z q) a.kind;
    begins = λ x own. ap (λ z. block_after z x (byte s x past).block) a.is ∙ ap (λ z. event_block z x (byte s x past).block) a.kind ∙ ap
        (λ n. cond (within addr n x) (cond (eqb x addr) size 0) (byte s x past).block) granted_all ∙ alloc_begins x own;
    side = a.side;
    system = a.system;
    held = a.held;
    laid_out = lie_with_block replay_pool (replay_pool + pool_size) (by_address bs) (block_of r) a.place.is_place.from_base a.place.is_place.aligned a.some a.place.is_place.in_pool a.place.is_place.free laid;
    from = a.place.is_place.from_base;
    to = a.place.is_place.in_pool;
    outside = a.fills.others.bytes;
    bytes = λ x own. ap (λ z. cell_after z x (byte s x past).cell) a.is ∙ ap (λ z. event_leaves z x (byte s x past).cell) a.kind ∙ ap (λ n. cond (within addr n x) (Live 0) (byte s x past).cell) granted_all ∙ alloc_bytes x own;
    live = alloc_live;
    unheld = λ x c. h.sound.unheld x (was_dead x c);
  }

  alloc_made : IsAlloc s past m size addr new
  alloc_made = record {
    mark = record {
      asks = subst (λ z. Asks z (λ x. byte s x past)) (sym a.is) (λ x. subst (λ z. EventAsks z x (byte s x past)) (sym a.kind) tt);
      stands = repooled s past old new m (r ∷ bs) r h alloc_repools;
    };
    place = subst (λ l. IsPlace replay_pool l size addr) (sym a.were) (inl (fits bs size addr a.some a.place.is_place, λ x f. a.place.least x (fits_back bs size x f)));
  }

pub allocs : AllocsAreMarks
allocs s past old new m e size addr h t is kind keyed =
    alloc_made s past old new m e size addr (blocks s past) h (record {
      were = refl;
      place = subst (λ q. IsLeastPlace q size addr) h.pool t.least;
      some = t.some;
      system = ap (λ (q : Sides). q.system) t.sides;
      side = ap (λ (q : Sides). q.replay) t.sides ∙ ap (λ (q : PoolState). with_blocks old.sides.replay (with_block q.blocks (record { addr = addr; len = size }))) h.pool;
      fills = t.fills;
      held = t.held;
      is = is;
      kind = kind;
      keyed = keyed;
    })

-- an Alloc at 0 changes nothing
null_within : (x : ℕ) → within 0 0 x ≡ false
null_within x = elim (cover_cases (record { addr = 0; len = 0 }) x) [ inl in' ↦ absurd (omega (arith, in'.below)) | inr out ↦ out.is ]

pub refused_allocs : RefusedAllocsAreMarks
refused_allocs s past memory m e size h none is kind = record {
  mark = record {
    asks = subst (λ z. Asks z (λ x. byte s x past)) (sym is) (λ x. subst (λ z. EventAsks z x (byte s x past)) (sym kind) tt);
    stands = moved s m past memory memory h
        (still_leaves s m past (record {
          frames = λ fs. ap (λ z. frames_after z fs) is;
          calls = λ cs. ap (λ z. act_calls z cs) is ∙ ap (λ z. calls_after z cs) kind;
          blocks = λ bs. ap (λ z. act_blocks z bs) is ∙ ap (λ z. blocks_after z bs) kind;
          keys = λ k q. ap (λ z. act_use k z q) is ∙ ap (λ z. use_after k z q) kind;
        }))
        refl refl
        (λ x own. ap (λ z. cell_after z x (byte s x past).cell) is ∙ ap (λ z. event_leaves z x (byte s x past).cell) kind ∙ cond-false (within 0 0 x) _ _ (null_within x) ∙ h.bytes x own)
        (λ x. ap (λ z. block_after z x (byte s x past).block) is ∙ ap (λ z. event_block z x (byte s x past).block) kind ∙ cond-false (within 0 0 x) _ _ (null_within x))
        (λ x. refl);
  };
  place = inr (
    refl,
    λ x f. elim none [
      | inl z ↦ absurd (omega (arith, z, f.some))
      | inr nowhere ↦ nowhere x (subst (λ q. pool.IsPlace q size x) (sym h.pool) (fits_back (blocks s past) size x f))
    ],
  );
}

-- a Free that is to be made
record Frees (s : Start) (past : List Mark) (old new : SpaceState) (m : Mark) (e : Event) (addr size : ℕ) (bs : List Range) : Type 0 where
  were : blocks s past ≡ bs
  there : length_at (by_address bs) addr ≡ Some size
  side : new.sides.replay ≡ with_blocks old.sides.replay (without_block (by_address bs) addr)
  system : new.sides.system ≡ old.sides.system
  fills : FillsWith (record { addr = addr; len = size }) None old.bytes new.bytes
  free : (x : ℕ) → covers (record { addr = addr; len = size }) x ≡ true → value_when_held old.held.regions x ≡ None
  held : new.held ≡ old.held
  is : m.act ≡ Made e
  kind : e.kind ≡ Free addr size
  keyed : has m (OfKey (key Pool 0)) ≡ true

module _ (s : Start) (past : List Mark) (old new : SpaceState) (m : Mark) (e : Event) (addr size : ℕ) (bs : List Range) (h : StandsFor s past old) (a : Frees s past old new m e addr size bs) where
  abbrev freed : Range
  freed = range addr size

  abbrev left : List Range
  left = without addr bs

  laid_before : LieBetween replay_pool (replay_pool + pool_size) (by_address bs)
  laid_before = subst (λ l. LieBetween replay_pool (replay_pool + pool_size) (by_address l)) a.were h.sound.laid_out

  lies : (replay_pool ≤ addr) × (1 ≤ size) × (addr + size ≤ replay_pool + pool_size)
  lies = begins_from replay_pool (replay_pool + pool_size) (by_address bs) addr size laid_before a.there

  left_is : by_address left ≡ without_block (by_address bs) addr
  left_is = by_address_without replay_pool (replay_pool + pool_size) bs addr laid_before

  left_blocks : blocks s (m ∷ past) ≡ left
  left_blocks =
      let l = blocks s past in
      blocks_more s m past
      ∙ cond-true (has m (OfKey (key Pool 0))) (act_blocks m.act l) l a.keyed
      ∙ ap (λ z. act_blocks z l) a.is
      ∙ ap (λ z. blocks_after z l) a.kind
      ∙ ap (without addr) a.were

  in_pool : (x : ℕ) → covers freed x ≡ true → covers (range replay_pool pool_size) x ≡ true
  in_pool x c =
      let p = cover_parts freed x c in
      covered (range replay_pool pool_size) x (omega (arith, p.0, lies.0)) (omega (arith, p.1, lies.2))

  -- which bytes the blocks that are left have
  any_left : (x : ℕ) → any_range left x ≡ cond (covers freed x) false (any_range bs x)
  any_left x =
      any_is left x ∙ ap (λ l. any_block l x) left_is ∙ any_without replay_pool (replay_pool + pool_size) (by_address bs) addr size x laid_before a.there
      ∙ ap (cond (covers freed x) false) (sym (any_is bs x))

  free_bytes : (x : ℕ) → is_system x ≡ false → cond (covers freed x) Dead (byte s x past).cell ≡ cell_of (byte_at new.bytes x) (value_when_held old.held.regions x)
  free_bytes x own = elim (cover_cases freed x) [
    | inl in' ↦ cond-true (covers freed x) _ _ in'.is ∙ ap (λ b. cell_of b (value_when_held old.held.regions x)) (sym (a.fills.filled x in'.is))
    | inr out ↦ cond-false (covers freed x) _ _ out.is ∙ h.bytes x own ∙ ap (λ b. cell_of b (value_when_held old.held.regions x)) (sym (a.fills.others.bytes x out.is))
  ]

  free_live : JustTheseLive (range replay_pool pool_size) left new.bytes
  free_live x is = elim (cover_cases freed x) [
    | inl in' ↦ ap is_some (a.fills.filled x in'.is) ∙ sym (any_left x ∙ cond-true (covers freed x) false (any_range bs x) in'.is)
    | inr out ↦ ap is_some (a.fills.others.bytes x out.is) ∙ h.sound.blocks_live x is ∙ ap (λ l. any_range l x) a.were ∙ sym (any_left x ∙ cond-false (covers freed x) false (any_range bs x) out.is)
  ]

  begins_before : (x : ℕ) → is_system x ≡ false → (byte s x past).block ≡ unwrap_or (length_at (by_address bs) x) 0
  begins_before x own = h.begins x own ∙ ap (λ (q : PoolState). unwrap_or (length_at q.blocks x) 0) h.pool ∙ ap (λ l. unwrap_or (length_at (by_address l) x) 0) a.were

  begins_left : (x : ℕ) → unwrap_or (length_at (by_address left) x) 0 ≡ cond (eqb addr x) 0 (unwrap_or (length_at (by_address bs) x) 0)
  begins_left x =
      ap (λ l. unwrap_or (length_at l x) 0) left_is ∙ ap (λ o. unwrap_or o 0) (length_without (by_address bs) addr x)
      ∙ elim (eqb addr x) as (λ c. unwrap_or (cond c None (length_at (by_address bs) x)) 0 ≡ cond c 0 (unwrap_or (length_at (by_address bs) x) 0)) [ true ↦ refl | false ↦ refl ]

  free_begins : (x : ℕ) → is_system x ≡ false → cond (covers freed x) 0 (byte s x past).block ≡ unwrap_or (length_at (by_address left) x) 0
  free_begins x own = elim (cases_eq addr x) [
    | inl e ↦
        cond-true (covers freed x) 0 _ (covered freed x (omega (arith, e)) (omega (arith, e, lies.1)))
        ∙ sym (begins_left x ∙ cond-true (eqb addr x) 0 _ (eq-eqb addr x e))
    | inr ne ↦ elim (cover_cases freed x) [
      | inl in' ↦
          cond-true (covers freed x) 0 _ in'.is
          ∙ sym (begins_left x ∙ cond-false (eqb addr x) 0 _ (ne_eqb addr x ne) ∙ ap (λ o. unwrap_or o 0)
          (none_inside replay_pool (replay_pool + pool_size) (by_address bs) addr size x laid_before a.there
          (omega (arith, in'.from, ne)) in'.below))
      | inr out ↦ cond-false (covers freed x) 0 _ out.is ∙ begins_before x own ∙ sym (begins_left x ∙ cond-false (eqb addr x) 0 _ (ne_eqb addr x ne))
    ]
  ]

  free_repools : Repools s past old new m left freed
  free_repools = record {
    own = left_blocks;
    frames = λ fs. ap (λ z. frames_after z fs) a.is;
    calls = λ cs. ap (λ z. act_calls z cs) a.is ∙ ap (λ z. calls_after z cs) a.kind;
    keys = λ k q. ap (λ z. act_use k z q) a.is ∙ ap (λ z. use_after k z q) a.kind;
    begins = λ x own. ap (λ z. block_after z x (byte s x past).block) a.is ∙ ap (λ z. event_block z x (byte s x past).block) a.kind ∙ free_begins x own;
    system = a.system;
    side = a.side ∙ ap (with_blocks old.sides.replay) (sym left_is);
    held = a.held;
    laid_out = subst (LieBetween replay_pool (replay_pool + pool_size)) (sym left_is) (lie_without replay_pool (replay_pool + pool_size) (by_address bs) addr laid_before);
    from = lies.0;
    to = lies.2;
    outside = a.fills.others.bytes;
    bytes = λ x own. ap (λ z. cell_after z x (byte s x past).cell) a.is ∙ ap (λ z. event_leaves z x (byte s x past).cell) a.kind ∙ free_bytes x own;
    live = free_live;
    unheld = a.free;
  }

  was_live : (x : ℕ) → covers freed x ≡ true → IsLive (byte s x past).cell
  was_live x c =
      let p = cover_parts freed x c in
      let live : is_some (byte_at old.bytes x) ≡ true = h.sound.blocks_live x (in_pool x c) ∙ ap (λ l. any_range l x) a.were ∙ in_block x c in
      subst IsLive (sym (h.bytes x (below_system x (omega (arith, p.1, lies.2))) ∙ ap (cell_of (byte_at old.bytes x)) (a.free x c))) (live_cell (byte_at old.bytes x) (λ dead. absurd (true≢false (sym live ∙ ap is_some dead))))
    where
      in_block : (x : ℕ) → covers freed x ≡ true → any_range bs x ≡ true
      in_block x c = any_is bs x ∙ any_there replay_pool (replay_pool + pool_size) (by_address bs) addr size x laid_before a.there c

  free_asks : (x : ℕ) → EventAsks (Free addr size) x (byte s x past)
  free_asks x w = (was_live x w, λ e. begins_before x (below_system x (let p = cover_parts freed x w in omega (arith, p.1, lies.2))) ∙ ap (λ y. unwrap_or (length_at (by_address bs) y) 0) e ∙ ap (λ o. unwrap_or o 0) a.there)

  free_made : IsMark s past m new
  free_made = record {
    asks = subst (λ z. Asks z (λ x. byte s x past)) (sym a.is) (λ x. subst (λ z. EventAsks z x (byte s x past)) (sym a.kind) (free_asks x));
    stands = repooled s past old new m left freed h free_repools;
  }

pub frees : FreesAreMarks
frees s past old new m e addr size h g free is kind keyed =
    let bs = blocks s past in
    let there' : length_at (by_address bs) addr ≡ Some size = sym (ap (λ (q : PoolState). length_at q.blocks addr) h.pool) ∙ g.block in
    let lies = begins_from replay_pool (replay_pool + pool_size) (by_address bs) addr size h.sound.laid_out there' in
    let own : covers SYSTEM_MEMORY addr ≡ false = elim (cover_cases SYSTEM_MEMORY addr) [ inl in' ↦ absurd (omega (arith, in'.from, lies.1, lies.2)) | inr out ↦ out.is ] in
    let none : NoneIn (record { addr = addr; len = size }) (IsPending old.held.regions) = none_in (record { addr = addr; len = size }) (λ x. is_held old.held.regions x) (λ x least. free (Pending x) (own, (size, g.block, least))) in
    free_made s past old new m e addr size bs h (record {
      were = refl;
      there = there';
      system = ap (λ (q : Sides). q.system) g.sides;
      side = ap (λ (q : Sides). q.replay) g.sides ∙ ap (λ (q : PoolState). with_blocks old.sides.replay (without_block q.blocks addr)) h.pool;
      fills = g.dead;
      free = λ x c. let p = cover_parts (record { addr = addr; len = size }) x c in unheld old.held.regions x (none x (p.0, p.1, omega (arith, p.1, lies.2)));
      held = g.held;
      is = is;
      kind = kind;
      keyed = keyed;
    })

pub frees_of_null : FreesOfNullAreMarks
frees_of_null s past memory m e h is kind = record {
  asks = subst (λ z. Asks z (λ x. byte s x past)) (sym is) (λ x. subst (λ z. EventAsks z x (byte s x past)) (sym kind) (λ w. absurd (true≢false (sym w ∙ null_within x))));
  stands = moved s m past memory memory h
      (record {
        frames = frames_stay s m past (λ fs. ap (λ z. frames_after z fs) is);
        calls = calls_stay s m past (λ cs. ap (λ z. act_calls z cs) is ∙ ap (λ z. calls_after z cs) kind);
        blocks = blocks_more s m past ∙ either (has m (OfKey (key Pool 0)));
        keys = keys_stay s m past (λ k q. ap (λ z. act_use k z q) is ∙ ap (λ z. use_after k z q) kind);
      })
      refl refl
      (λ x own. ap (λ z. cell_after z x (byte s x past).cell) is ∙ ap (λ z. event_leaves z x (byte s x past).cell) kind ∙ cond-false (within 0 0 x) _ _ (null_within x) ∙ h.bytes x own)
      (λ x. ap (λ z. block_after z x (byte s x past).block) is ∙ ap (λ z. event_block z x (byte s x past).block) kind ∙ cond-false (within 0 0 x) _ _ (null_within x))
      (λ x. refl);
}
  where
    either : (b : Bool) → cond b (act_blocks m.act (blocks s past)) (blocks s past) ≡ blocks s past
    either false = refl
    either true =
        let l = blocks s past in
        ap (λ z. act_blocks z l) is ∙ ap (λ z. blocks_after z l) kind ∙ nothing_without replay_pool (replay_pool + pool_size) l 0 h.sound.laid_out (omega arith)
