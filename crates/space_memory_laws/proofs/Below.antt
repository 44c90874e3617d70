-- What code below the cut does isn't seen above it.
use Rattle.std.proofs.Common.{◌≡◌, ◌⊎◌, ℕ, suc, ◌+◌, ◌-◌, ◌^◌, ◌<◌, ◌≤◌, Bool, true, false, ◌&&◌, ◌||◌, not, leb, ltb, List, [], ◌∷◌, ◌++◌, length, Option, Some, None, is_some, inl, inr, refl, ap, sym, ◌∙◌, subst, arith, All}
use Rattle.std.specs.Prelude.{unwrap_or, option_map, slice_get}
use Rattle.std.specs.List.{list_any}
use Rattle.std.proofs.lemmas.Bool.{cases_Bool, cases_eq, cases_lt, true≢false, and_parts, and_from, le-leb, lt-ltb, or_cases, leb-true, ltb-true}
use Rattle.std.proofs.lemmas.List.{length-set}
use Rattle.std.proofs.lemmas.List.Elements.{All-append, All-head, All-tail, All-cons, All-nil}
use Rattle.marks.specs.declared.side.Side.TheVariants.{Replay, System}
use Rattle.marks.specs.Places.{thread_count, stack, stack_size, constants, replay_globals, replay_end, replay_pool, system_globals, system_end, pool_size, is_constant, is_replay, is_system}
use Rattle.marks.specs.declared.range.Range.{Range}
use Rattle.marks.specs.Ranges.{range, covers}
use Rattle.marks.specs.Marks.{Mark}
use Rattle.memory_map.specs.declared.areas.TheConstants.{STACK_SIZE}
use Rattle.space_memory_bytes.specs.Areas.{byte_at, IsDead}
use Rattle.space_memory_bytes.specs.Numbers.{SameOutside}
use Rattle.space_memory.specs.StackFrames.{StackState, stack_of, end_of, LieInStack}
use Rattle.pool_list.specs.declared.block.Block.{Block}
use Rattle.pool_list.specs.Blocks.{length_at, with_block, without_block, LieBetween}
use Rattle.space_memory_access.specs.declared.holder.Region.{Region}
use Rattle.space_memory_access.specs.declared.holder.Holder.{Holder}
use Rattle.space_memory_access.specs.declared.holder.Holder.TheVariants.{In, Out, Key}
use Rattle.space_memory_access.specs.Holders.{is_pending, serves}
use Rattle.space_memory_access.specs.Held.{HeldState, IsPending, IsServed, prepared_region}
use Rattle.space_memory_access.specs.declared.refusal.Refusal.TheVariants.{StackFull}
use Rattle.space_memory_access.specs.Accesses.{IsAllowed}
use Rattle.replay_runs.specs.Runs.{Start, marks_of}
use Rattle.replay_runs.specs.Threads.{open_calls}
use Rattle.space_memory.specs.declared.sides.Sides.{Sides}
use Rattle.space_memory.specs.Sides.{SideState, frames_of, with_thread, with_blocks}
use Rattle.space_memory.specs.Spaces.{SpaceState}
use Rattle.space_memory_laws.specs.Shown.{value_when_held, cell_of}
use Rattle.space_memory_laws.specs.Held.{AreHeld}
use Rattle.space_memory_laws.specs.Sound.{IsBelow, IsSound}
use Rattle.space_memory_laws.specs.StandsFor.{HoldsFor, StandsFor}
use Rattle.space_memory_laws.specs.Below.{StoresBelowAreUnseen, WritesBelowAreUnseen, FramesBelowAreUnseen, ArgumentsBelowAreUnseen, LeavesBelowAreUnseen, AllocsBelowAreUnseen, FreesBelowAreUnseen}
use Rattle.space_memory_laws.proofs.Cells.{cover_cases, cover_parts, held_by, live_ends, below_system, dead_as}
use Rattle.space_memory_laws.proofs.Access.{some_live}
use Rattle.space_memory_laws.proofs.Blocks.{lie_with_block, lie_without, begins_from}
use Rattle.space_memory_laws.proofs.Stacks.{same_stack, other_stack}
use Rattle.space_memory_laws.proofs.Args.{outside}

-- memory whose bytes out of system memory show a run the same
record IsUnseen (old new : SpaceState) : Type 0 where
  held : new.held ≡ old.held
  side : new.sides.replay ≡ old.sides.replay
  cells : (x : ℕ) → is_system x ≡ false → cell_of (byte_at new.bytes x) (value_when_held old.held.regions x) ≡ cell_of (byte_at old.bytes x) (value_when_held old.held.regions x)
  lives : (x : ℕ) → is_system x ≡ false → is_some (byte_at new.bytes x) ≡ is_some (byte_at old.bytes x)
  below : IsBelow new.sides.system

past_system : (x : ℕ) → system_end ≤ x → is_system x ≡ false
past_system x le = elim (cases_Bool (is_system x)) [
  | inr not ↦ not
  | inl is ↦
      let to : x < system_end = ltb-true x system_end (and_parts (leb system_globals x) (ltb x system_end) is).1 in
      absurd (omega (arith, to, le))
]

module _ (s : Start) (past : List Mark) (old new : SpaceState) (h : StandsFor s past old) (k : IsUnseen old new) where
  unheld_now : (x : ℕ) → IsDead new.bytes x → value_when_held new.held.regions x ≡ None
  unheld_now x dead = ap (λ (q : HeldState). value_when_held q.regions x) k.held ∙ elim (cases_Bool (is_system x)) [
    | inl is ↦ h.sound.own x is
    | inr not ↦ h.sound.unheld x (dead_as (sym (k.lives x not)) dead)
  ]

  unseen_sound : IsSound s past new
  unseen_sound = record {
    ends = λ x last. dead_as (k.lives x (past_system x (omega (arith, last)))) (h.sound.ends x last);
    unheld = unheld_now;
    own = λ x is. ap (λ (q : HeldState). value_when_held q.regions x) k.held ∙ h.sound.own x is;
    inside = λ x a b c. dead_as (k.lives x c) (h.sound.inside x a b c);
    below = k.below;
    held = subst AreHeld (sym k.held) h.sound.held;
    stacked = h.sound.stacked;
    frames_live = λ t lt x is. k.lives x (below_system x (let p = cover_parts (range (stack Replay t) stack_size) x is in omega (arith, p.1, lt))) ∙ h.sound.frames_live t lt x is;
    laid_out = h.sound.laid_out;
    blocks_live = λ x is. k.lives x (below_system x (let p = cover_parts (range replay_pool pool_size) x is in omega (arith, p.1))) ∙ h.sound.blocks_live x is;
  }

  unseen : StandsFor s past new
  unseen = record {
    bytes = λ x own. h.bytes x own ∙ sym (k.cells x own) ∙ ap (λ (q : HeldState). cell_of (byte_at new.bytes x) (value_when_held q.regions x)) (sym k.held);
    begins = λ x own. h.begins x own ∙ ap (λ (q : SideState). unwrap_or (length_at q.pool.blocks x) 0) (sym k.side);
    stacks = λ t lt. ap (λ (q : SideState). stack_of q.stacks t) k.side ∙ h.stacks t lt;
    pool = ap (λ (q : SideState). q.pool) k.side ∙ h.pool;
    calls = λ t lt. subst (λ q. HoldsFor q t (open_calls (marks_of s t past))) (sym k.held) (h.calls t lt);
    keys = λ j. ap (λ (q : HeldState). option_map (λ (r : Region). r.range) (prepared_region q.regions j)) k.held ∙ h.keys j;
    sound = unseen_sound;
  }

-- a store to system memory, or to a region that waits
written_waits : (thread : ℕ) (o : Holder) → serves thread true o ≡ true → is_pending o ≡ true
written_waits thread (In c) is = is
written_waits thread (Out c) is = refl
written_waits thread (Key k by) is = refl

served_waits : (rs : List Region) (thread x : ℕ) → IsServed rs thread true x → IsPending rs x
served_waits [] thread x is = is
served_waits (r ∷ rest) thread x is = elim (or_cases (serves thread true r.holder && covers r.range x) (list_any (λ (q : Region). serves thread true q.holder && covers q.range x) rest) is) [
  | inl here ↦ (let p = and_parts (serves thread true r.holder) (covers r.range x) here in ap
      (λ b. b || list_any (λ (q : Region). is_pending q.holder && covers q.range x) rest)
      (and_from (is_pending r.holder) (covers r.range x) (written_waits thread r.holder p.0) p.1))
  | inr more ↦ ap (λ b. (is_pending r.holder && covers r.range x) || b) (served_waits rest thread x more) ∙ or_true (is_pending r.holder && covers r.range x)
]
  where
    or_true : (b : Bool) → (b || true) ≡ true
    or_true true = refl
    or_true false = refl

held_alike : (a b : Option ℕ) (v : ℕ) → is_some a ≡ true → is_some b ≡ true → cell_of a (Some v) ≡ cell_of b (Some v)
held_alike None b v live live' = absurd (true≢false (sym live))
held_alike (Some x) None v live live' = absurd (true≢false (sym live'))
held_alike (Some x) (Some y) v live live' = refl

module _ (s : Start) (past : List Mark) (old new : SpaceState) (thread addr width : ℕ) (h : StandsFor s past old) (small : addr < 2 ^ 64)
    (lives : (i : ℕ) → i < width → is_some (byte_at new.bytes (addr + i)) ≡ true)
    (same : SameOutside (record { addr = addr; len = width }) old.bytes new.bytes) (rest : new ≡ record old { bytes = new.bytes })
    (ok : IsAllowed old.bytes old.held.regions
    (record { side = System; thread = thread; range = record { addr = addr; len = width }; write = true })) where
  abbrev r : Range
  r = record { addr = addr; len = width }

  ends : addr + width < 2 ^ 64
  ends = live_ends old.bytes r h.sound.ends small ok.live

  was_live : (x : ℕ) → covers r x ≡ true → is_some (byte_at old.bytes x) ≡ true
  was_live x c = let p = cover_parts r x c in some_live (byte_at old.bytes x) (ok.live x (p.0, p.1, omega (arith, p.1, ends)))

  is_live : (x : ℕ) → covers r x ≡ true → is_some (byte_at new.bytes x) ≡ true
  is_live x c =
      let p = cover_parts r x c in
      let at : addr + (x - addr) ≡ x = omega (arith, p.0) in
      ap is_some (ap (byte_at new.bytes) (sym at)) ∙ lives (x - addr) (omega (arith, p.0, p.1))

  -- a byte above the cut that is written waits
  waits : (x : ℕ) → covers r x ≡ true → is_system x ≡ false → IsPending old.held.regions x
  waits x c own =
      let p = cover_parts r x c in
      let not_constant : is_constant x ≡ false = elim (cases_Bool (is_constant x)) [
        | inr not ↦ not
        | inl is ↦
            let q = and_parts (leb constants x) (ltb x replay_globals) is in
            let low : constants ≤ x = leb-true constants x q.0 in
            let high : x < replay_globals = ltb-true x replay_globals q.1 in
            absurd (ok.writable x (p.0, p.1, omega (arith, p.1, ends)) (low, high, omega (arith, high)))
      ] in
      elim (cases_Bool (is_replay x)) [
        | inr not ↦ absurd (true≢false (sym (was_live x c) ∙ ap is_some (h.sound.inside x not_constant not own)))
        | inl is ↦
            let q = and_parts (leb replay_globals x) (ltb x replay_end) is in
            let low : replay_globals ≤ x = leb-true replay_globals x q.0 in
            let high : x < replay_end = ltb-true x replay_end q.1 in
            elim (cases_Bool (list_any (λ (g : Region). serves thread true g.holder && covers g.range x) old.held.regions)) [
              | inl served ↦ served_waits old.held.regions thread x served
              | inr none ↦ absurd (ok.own x (p.0, p.1, omega (arith, p.1, ends)) ((low, high, omega (arith, high)), λ right. true≢false (sym right.1 ∙ none)))
            ]
      ]

  changed : StandsFor s past new
  changed = unseen s past old new h (record {
    held = ap (λ (q : SpaceState). q.held) rest;
    side = ap (λ (q : SpaceState). q.sides.replay) rest;
    cells = λ x own. elim (cover_cases r x) [
      | inl in' ↦
          let v = held_by old.held.regions x (waits x in'.is own) in
          ap (cell_of (byte_at new.bytes x)) v.1 ∙ held_alike (byte_at new.bytes x) (byte_at old.bytes x) v.0 (is_live x in'.is) (was_live x in'.is) ∙ sym (ap (cell_of (byte_at old.bytes x)) v.1)
      | inr out ↦ ap (λ b. cell_of b (value_when_held old.held.regions x)) (same.bytes x out.is)
    ];
    lives = λ x own. elim (cover_cases r x) [
      | inl in' ↦ is_live x in'.is ∙ sym (was_live x in'.is)
      | inr out ↦ ap is_some (same.bytes x out.is)
    ];
    below = subst IsBelow (ap (λ (q : SpaceState). q.sides.system) (sym rest)) h.sound.below;
  })

pub stored : StoresBelowAreUnseen
stored s past old new thread addr width value h small k = changed s past old new thread addr width h small (λ i lt. ap is_some (k.number i lt)) k.others k.rest k.allowed

pub written : WritesBelowAreUnseen
written s past old new thread addr bytes h small k =
    changed s past old new thread addr (length bytes) h small (λ i lt. ap is_some (k.bytes_are i lt)) k.others k.rest k.allowed

-- a change of bytes of system memory alone
only_system : (s : Start) (past : List Mark) (old new : SpaceState) (r : Range) → StandsFor s past old → new.held ≡ old.held →
    new.sides.replay ≡ old.sides.replay → IsBelow new.sides.system →
    ((x : ℕ) → covers r x ≡ false → byte_at new.bytes x ≡ byte_at old.bytes x) → system_globals ≤ r.addr → r.addr + r.len ≤ system_end →
    StandsFor s past new
only_system s past old new r h held side below bytes low high = unseen s past old new h (record {
  held = held;
  side = side;
  cells = λ x own. ap (λ b. cell_of b (value_when_held old.held.regions x)) (same x own);
  lives = λ x own. ap is_some (same x own);
  below = below;
})
  where
    same : (x : ℕ) → is_system x ≡ false → byte_at new.bytes x ≡ byte_at old.bytes x
    same x own = elim (cover_cases r x) [
      | inl in' ↦ absurd (true≢false (sym (and_from (leb system_globals x) (ltb x system_end) (le-leb system_globals x (omega (arith, low, in'.from))) (lt-ltb x system_end (omega (arith, high, in'.below)))) ∙ own))
      | inr out ↦ bytes x out.is
    ]

-- a frame lies in a stack
abbrev IsInStack : StackState → Range → Type 0
IsInStack k f = (k.base ≤ f.addr) × (f.addr + f.len ≤ k.base + STACK_SIZE)

-- the end of frames that lie in a stack lies in it
end_low : (base from : ℕ) (fs : List Range) → base ≤ from → All (λ (f : Range). (base ≤ f.addr) × (f.addr + f.len ≤ base + STACK_SIZE)) fs → base ≤ end_of from fs
end_low base from [] le all = le
end_low base from (f ∷ fs) le all =
    let k = All-head (λ (f : Range). (base ≤ f.addr) × (f.addr + f.len ≤ base + STACK_SIZE)) f fs all in
    end_low base (f.addr + f.len) fs (omega (arith, k.0)) (All-tail (λ (f : Range). (base ≤ f.addr) × (f.addr + f.len ≤ base + STACK_SIZE)) f fs all)

last_all : (P : Range → Type 0) (fs : List Range) (f : Range) → All P (fs ++ f ∷ []) → P f
last_all P [] f all = All-head P f [] all
last_all P (g ∷ fs) f all = last_all P fs f (All-tail P g (fs ++ f ∷ []) all)

first_all : (P : Range → Type 0) (fs : List Range) (f : Range) → All P (fs ++ f ∷ []) → All P fs
first_all P [] f all = All-nil P
first_all P (g ∷ fs) f all = All-cons P g fs (All-head P g (fs ++ f ∷ []) all) (first_all P fs f (All-tail P g (fs ++ f ∷ []) all))

-- other frames of one thread, which lie in its stack
frames_below : (side : SideState) (t : ℕ) (fs : List Range) → IsBelow side → t < thread_count →
    LieInStack (record { base = (stack_of side.stacks t).base; frames = fs }) → IsBelow (with_thread side t fs)
frames_below side t fs k lt lie = record {
  threads = length-set side.stacks t (record { base = (stack_of side.stacks t).base; frames = fs }) ∙ k.threads;
  bases = λ u lt'. elim (cases_eq t u) [
    | inl e ↦ subst (λ v. (stack_of (with_thread side t fs).stacks v).base ≡ stack System v) e (ap (λ (q : StackState). q.base) own ∙ k.bases t lt)
    | inr ne ↦ ap (λ (q : StackState). q.base) (other_stack side.stacks t u fs ne) ∙ k.bases u lt'
  ];
  frames = λ u lt'. elim (cases_eq t u) [
    | inl e ↦ subst (λ v. LieInStack (stack_of (with_thread side t fs).stacks v)) e (subst LieInStack (sym own) lie)
    | inr ne ↦ subst LieInStack (sym (other_stack side.stacks t u fs ne)) (k.frames u lt')
  ];
  pool_from = k.pool_from;
  pool_bytes = k.pool_bytes;
  blocks = k.blocks;
}
  where
    own : stack_of (with_thread side t fs).stacks t ≡ record { base = (stack_of side.stacks t).base; frames = fs }
    own = same_stack side.stacks t fs (omega (arith, lt, k.threads))

blocks_below : (side : SideState) (bs : List Block) → IsBelow side → LieBetween side.pool.base (side.pool.base + side.pool.size) bs → IsBelow (with_blocks side bs)
blocks_below side bs k laid = record { threads = k.threads; bases = k.bases; frames = k.frames; pool_from = k.pool_from; pool_bytes = k.pool_bytes; blocks = laid }

pub entered : FramesBelowAreUnseen
entered s past old new t addr size h lt f fills =
    only_system s past old new (record { addr = addr; len = size }) h f.held (ap (λ (q : Sides). q.replay) f.sides)
    (subst IsBelow (ap (λ (q : Sides). q.system) (sym f.sides))
    (frames_below old.sides.system t (frames_of old.sides.system t ++ record { addr = addr; len = size } ∷ []) h.sound.below lt
    (All-append (IsInStack (stack_of old.sides.system.stacks t)) (frames_of old.sides.system t)
    (record { addr = addr; len = size } ∷ []) (h.sound.below.frames t lt)
    (All-cons (IsInStack (stack_of old.sides.system.stacks t)) (record { addr = addr; len = size }) [] (low, fits)
    (All-nil (IsInStack (stack_of old.sides.system.stacks t)))))))
    fills.others.bytes
    (omega (arith, low, base))
    (omega (arith, fits, base, lt))
  where
    base : (stack_of old.sides.system.stacks t).base ≡ stack System t
    base = h.sound.below.bases t lt

    low : (stack_of old.sides.system.stacks t).base ≤ addr
    low = omega (arith, f.place, end_low (stack_of old.sides.system.stacks t).base (stack_of old.sides.system.stacks t).base (frames_of old.sides.system t) (omega arith) (h.sound.below.frames t lt))

    fits : addr + size ≤ (stack_of old.sides.system.stacks t).base + STACK_SIZE
    fits = elim (cases_lt ((stack_of old.sides.system.stacks t).base + STACK_SIZE) (addr + size)) [
      | inl beyond ↦ absurd (f.fits (StackFull _) (inr (omega (arith, f.place, beyond)), refl))
      | inr le ↦ le
    ]

pub left : LeavesBelowAreUnseen
left s past old new t frame h lt l =
    only_system s past old new frame h l.held (ap (λ (q : Sides). q.replay) l.sides)
    (subst IsBelow (ap (λ (q : Sides). q.system) (sym l.sides))
    (frames_below old.sides.system t (frames_of new.sides.system t) h.sound.below lt
    (first_all (IsInStack (stack_of old.sides.system.stacks t)) (frames_of new.sides.system t) frame all)))
    l.dead.others.bytes
    (omega (arith, top.0, base))
    (omega (arith, top.1, base, lt))
  where
    base : (stack_of old.sides.system.stacks t).base ≡ stack System t
    base = h.sound.below.bases t lt

    all : All (IsInStack (stack_of old.sides.system.stacks t)) (frames_of new.sides.system t ++ frame ∷ [])
    all = subst (All (IsInStack (stack_of old.sides.system.stacks t))) l.frames (h.sound.below.frames t lt)

    top : IsInStack (stack_of old.sides.system.stacks t) frame
    top = last_all (IsInStack (stack_of old.sides.system.stacks t)) (frames_of new.sides.system t) frame all

-- the last item of a list is one of it
top_all : (P : Range → Type 0) (fs : List Range) (f : Range) → slice_get fs (length fs - 1) ≡ Some f → All P fs → P f
top_all P [] f e all = absurd cc
top_all P (g ∷ []) f e all = subst P (inside g f e) (All-head P g [] all)
  where
    inside : (a b : Range) → ◌≡◌ {A = Option Range} (Some a) (Some b) → a ≡ b
    inside a b e = cc
top_all P (g ∷ k ∷ fs) f e all =
    let n : length (g ∷ k ∷ fs) - 1 ≡ suc (length (k ∷ fs) - 1) = omega arith in
    top_all P (k ∷ fs) f (sym (ap (slice_get (g ∷ k ∷ fs)) n) ∙ e) (All-tail P g (k ∷ fs) all)

pub arguments_set : ArgumentsBelowAreUnseen
arguments_set s past old new t frame offsets widths args h lt is k =
    only_system s past old new frame h (ap (λ (q : SpaceState). q.held) k.rest) (ap (λ (q : SpaceState). q.sides.replay) k.rest)
    (subst IsBelow (ap (λ (q : SpaceState). q.sides.system) (sym k.rest)) h.sound.below)
    (λ x c. k.set x ∙ outside frame offsets widths args x (byte_at old.bytes x) k.widths_same k.fit (out_of x c))
    (omega (arith, top.0, base))
    (omega (arith, top.1, base, lt))
  where
    base : (stack_of old.sides.system.stacks t).base ≡ stack System t
    base = h.sound.below.bases t lt

    top : IsInStack (stack_of old.sides.system.stacks t) frame
    top = top_all (IsInStack (stack_of old.sides.system.stacks t)) (frames_of old.sides.system t) frame is (h.sound.below.frames t lt)

    out_of : (x : ℕ) → covers frame x ≡ false → (x < frame.addr) ⊎ (frame.addr + frame.len ≤ x)
    out_of x c = elim (cover_cases frame x) [ inl in' ↦ absurd (true≢false (sym in'.is ∙ c)) | inr out ↦ out.out ]

pub taken : AllocsBelowAreUnseen
taken s past old new addr size h k =
    let b = h.sound.below in
    only_system s past old new (record { addr = addr; len = size }) h k.held (ap (λ (q : Sides). q.replay) k.sides)
    (subst IsBelow (ap (λ (q : Sides). q.system) (sym k.sides))
    (blocks_below old.sides.system (with_block old.sides.system.pool.blocks (record { addr = addr; len = size })) b
    (lie_with_block old.sides.system.pool.base (old.sides.system.pool.base + old.sides.system.pool.size) old.sides.system.pool.blocks
    (record {
      addr = addr;
      len =
          size;
    }) k.least.is_place.from_base k.least.is_place.aligned k.some k.least.is_place.in_pool k.least.is_place.free b.blocks)))
    k.fills.others.bytes
    (omega (arith, k.least.is_place.from_base, b.pool_from))
    (omega (arith, k.least.is_place.in_pool, b.pool_from, b.pool_bytes))

pub given : FreesBelowAreUnseen
given s past old new addr size h k =
    let b = h.sound.below in
    let lies = begins_from old.sides.system.pool.base (old.sides.system.pool.base + old.sides.system.pool.size) old.sides.system.pool.blocks addr size b.blocks k.block in
    only_system s past old new (record { addr = addr; len = size }) h k.held (ap (λ (q : Sides). q.replay) k.sides)
    (subst IsBelow (ap (λ (q : Sides). q.system) (sym k.sides))
    (blocks_below old.sides.system (without_block old.sides.system.pool.blocks addr) b
    (lie_without old.sides.system.pool.base
    (old.sides.system.pool.base + old.sides.system.pool.size) old.sides.system.pool.blocks addr b.blocks)))
    k.dead.others.bytes
    (omega (arith, lies.0, b.pool_from))
    (omega (arith, lies.2, b.pool_from, b.pool_bytes))
