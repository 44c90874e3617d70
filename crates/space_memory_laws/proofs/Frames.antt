-- Frames that are entered and left.
use Rattle.std.proofs.Common.{◌≡◌, ℕ, ◌+◌, ◌-◌, ◌<◌, ◌≤◌, true, false, cond, ◌||◌, List, [], ◌∷◌, ◌++◌, length, Option, Some, None, is_some, inl, inr, refl, ap, sym, ◌∙◌, subst, arith}
use Rattle.std.specs.Prelude.{unwrap_or, option_map, slice_get}
use Rattle.std.proofs.lemmas.Bool.{cases_lt, cases_eq, cond-true, cond-false, true≢false}
use Rattle.marks.specs.declared.side.Side.TheVariants.{Replay}
use Rattle.marks.specs.Places.{thread_count, frame_count, stack, stack_size, replay_pool, pool_size, is_system}
use Rattle.marks.specs.declared.range.Range.{Range}
use Rattle.marks.specs.Ranges.{within, range, covers, any_range, NoneIn}
use Rattle.marks.specs.Ranges as marks
use Rattle.marks.specs.Marks.{Enter, Leave, Mark}
use Rattle.marks.specs.Bytes.{Dead, Live, IsLive, cell_after, block_after, Asks}
use Rattle.space_memory_bytes.specs.Areas.{byte_at, IsDead}
use Rattle.space_memory_bytes.specs.Numbers.{HasBytes, SameOutside, FillsWith}
use Rattle.space_memory.specs.StackFrames.{StackState, stack_of, IsFullFor}
use Rattle.space_memory.specs.StackFrames as memory
use Rattle.pool_list.specs.Blocks.{length_at, LieBetween}
use Rattle.space_memory_access.specs.declared.holder.Region.{Region}
use Rattle.space_memory_access.specs.Held.{HeldState, prepared_region, IsPending}
use Rattle.space_memory_access.specs.declared.refusal.Refusal.{Refusal}
use Rattle.space_memory_access.specs.declared.refusal.Refusal.TheVariants.{StackFull, Pending}
use Rattle.replay_runs.specs.Runs.{Start, marks_of, byte}
use Rattle.replay_runs.specs.Threads.{tail, frames_after, frames, frame_place, HasRoom, OpenCall, act_calls, open_calls}
use Rattle.replay_runs.specs.Pool.{act_blocks, blocks, act_use}
use Rattle.space_memory.specs.declared.sides.Sides.{Sides}
use Rattle.space_memory.specs.Sides.{SideState, frames_of, top_of, with_thread}
use Rattle.space_memory.specs.Spaces.{SpaceState, with_side}
use Rattle.space_memory.specs.Frames.{IsEnterRefused, IsLeaveRefused}
use Rattle.space_memory.specs.Cells.{is_held}
use Rattle.space_memory_laws.specs.Shown.{value_when_held, cell_of, innermost_last, stack_with, pool_with, by_address}
use Rattle.space_memory_laws.specs.Held.{AreHeld}
use Rattle.space_memory_laws.specs.Sound.{AreStacked, JustTheseLive, IsBelow, IsSound}
use Rattle.space_memory_laws.specs.StandsFor.{HoldsFor, StandsFor}
use Rattle.space_memory_laws.specs.Marks.{IsMark}
use Rattle.space_memory_laws.specs.FrameMarks.{IsEnter, EntersAreMarks, LeavesAreMarks}
use Rattle.space_memory_laws.proofs.Backs.{frames_own, frames_other, calls_stay, blocks_stay, keys_stay}
use Rattle.space_memory_laws.proofs.Cells.{cover_cases, cover_parts, covered, dead_from, unheld, below_system, in_replay}
use Rattle.space_memory_laws.proofs.Access.{live_cell}
use Rattle.space_memory_laws.proofs.Least.{none_in}
use Rattle.space_memory_laws.proofs.Stacks.{end_is, count_is, stacks_count, same_stack, other_stack, base_first, none_after, stacks_apart, IsInnermost, innermost, last_of}

-- a mark that changes the frames of its thread, and bytes of one range of its stack
record Restacks (s : Start) (past : List Mark) (old new : SpaceState) (m : Mark) (fs : List Range) (r : Range) : Type 0 where
  lt : m.thread < thread_count
  own : frames (marks_of s m.thread (m ∷ past)) ≡ fs
  calls : (cs : List OpenCall) → act_calls m.act cs ≡ cs
  blocks : (bs : List Range) → act_blocks m.act bs ≡ bs
  keys : (k : ℕ) (q : Option Range) → act_use k m.act q ≡ q
  begins : (x n : ℕ) → block_after m.act x n ≡ n
  side : new.sides.replay ≡ with_thread old.sides.replay m.thread (innermost_last fs)
  system : new.sides.system ≡ old.sides.system
  held : new.held ≡ old.held
  stacked : AreStacked (stack Replay m.thread) fs
  from : stack Replay m.thread ≤ r.addr
  to : r.addr + r.len ≤ stack Replay m.thread + stack_size
  outside : (x : ℕ) → covers r x ≡ false → byte_at new.bytes x ≡ byte_at old.bytes x
  bytes : (x : ℕ) → is_system x ≡ false → (byte s x (m ∷ past)).cell ≡ cell_of (byte_at new.bytes x) (value_when_held old.held.regions x)
  live : JustTheseLive (range (stack Replay m.thread) stack_size) fs new.bytes
  unheld : (x : ℕ) → covers r x ≡ true → value_when_held old.held.regions x ≡ None

module _ (s : Start) (past : List Mark) (old new : SpaceState) (m : Mark) (fs : List Range) (r : Range) (h : StandsFor s past old) (k : Restacks s past old new m fs r) where
  same_blocks : blocks s (m ∷ past) ≡ blocks s past
  same_blocks = blocks_stay s m past k.blocks

  bound : stack Replay m.thread + stack_size ≤ replay_pool
  bound = omega (arith, k.lt)

  own_stack : stack_of new.sides.replay.stacks m.thread ≡ stack_with m.thread (frames (marks_of s m.thread (m ∷ past)))
  own_stack =
      ap (λ (q : SideState). stack_of q.stacks m.thread) k.side
      ∙ same_stack old.sides.replay.stacks m.thread (innermost_last fs) (stacks_count old.sides.replay.stacks m.thread (frames (marks_of s m.thread past)) (h.stacks m.thread k.lt))
      ∙ ap (λ (q : StackState). let p : StackState = record { base = q.base; frames = innermost_last fs } in p) (h.stacks m.thread k.lt)
      ∙ ap (stack_with m.thread) (sym k.own)

  other_stacks : (t : ℕ) → (m.thread ≡ t → ⊥) → t < thread_count → stack_of new.sides.replay.stacks t ≡ stack_with t (frames (marks_of s t (m ∷ past)))
  other_stacks t ne lt =
      ap (λ (q : SideState). stack_of q.stacks t) k.side
      ∙ other_stack old.sides.replay.stacks m.thread t (innermost_last fs) ne
      ∙ h.stacks t lt
      ∙ ap (stack_with t) (sym (frames_other s m past t ne))

  other_live : (t : ℕ) → (m.thread ≡ t → ⊥) → t < thread_count → JustTheseLive (range (stack Replay t) stack_size) (frames (marks_of s t (m ∷ past))) new.bytes
  other_live t ne lt x is = elim (cover_cases r x) [
    | inl in' ↦
        let p = cover_parts (range (stack Replay t) stack_size) x is in
        absurd (stacks_apart m.thread t x ne (omega (arith, k.from, in'.from)) (omega (arith, k.to, in'.below)) p.0 p.1)
    | inr out ↦ ap is_some (k.outside x out.is) ∙ h.sound.frames_live t lt x is ∙ ap (λ gs. any_range gs x) (sym (frames_other s m past t ne))
  ]

  restacked_sound : IsSound s (m ∷ past) new
  restacked_sound = record {
    ends = λ x last. elim (cover_cases r x) [
      | inl in' ↦ absurd (omega (arith, in'.below, last, k.to, bound))
      | inr out ↦ k.outside x out.is ∙ h.sound.ends x last
    ];
    unheld = λ x dead. ap (λ (q : HeldState). value_when_held q.regions x) k.held ∙ elim (cover_cases r x) [
      | inl in' ↦ k.unheld x in'.is
      | inr out ↦ h.sound.unheld x (sym (k.outside x out.is) ∙ dead)
    ];
    own = λ x is. ap (λ (q : HeldState). value_when_held q.regions x) k.held ∙ h.sound.own x is;
    inside = λ x a b c. elim (cover_cases r x) [
      | inl in' ↦ absurd (true≢false (sym (in_replay x (omega (arith, in'.from, k.from)) (omega (arith, in'.below, k.to, bound))) ∙ b))
      | inr out ↦ k.outside x out.is ∙ h.sound.inside x a b c
    ];
    below = subst IsBelow (sym k.system) h.sound.below;
    held = subst AreHeld (sym k.held) h.sound.held;
    stacked = λ t lt. elim (cases_eq m.thread t) [
      | inl e ↦ subst (λ u. AreStacked (stack Replay u) (frames (marks_of s u (m ∷ past)))) e (subst (AreStacked (stack Replay m.thread)) (sym k.own) k.stacked)
      | inr ne ↦ subst (AreStacked (stack Replay t)) (sym (frames_other s m past t ne)) (h.sound.stacked t lt)
    ];
    frames_live = λ t lt. elim (cases_eq m.thread t) [
      | inl e ↦ subst (λ u. JustTheseLive (range (stack Replay u) stack_size) (frames (marks_of s u (m ∷ past))) new.bytes) e (λ x is. k.live x is ∙ ap (λ gs. any_range gs x) (sym k.own))
      | inr ne ↦ other_live t ne lt
    ];
    laid_out = subst (λ bs. LieBetween replay_pool (replay_pool + pool_size) (by_address bs)) (sym same_blocks) h.sound.laid_out;
    blocks_live = λ x is. elim (cover_cases r x) [
      | inl in' ↦
          let p = cover_parts (range replay_pool pool_size) x is in
          absurd (omega (arith, in'.below, k.to, bound, p.0))
      | inr out ↦ ap is_some (k.outside x out.is) ∙ h.sound.blocks_live x is ∙ ap (λ bs. any_range bs x) (sym same_blocks)
    ];
  }

  restacked : StandsFor s (m ∷ past) new
  restacked = record {
    bytes = λ x own. k.bytes x own ∙ ap (λ (q : HeldState). cell_of (byte_at new.bytes x) (value_when_held q.regions x)) (sym k.held);
    begins = λ x own. k.begins x (byte s x past).block ∙ h.begins x own ∙ ap (λ (q : SideState). unwrap_or (length_at q.pool.blocks x) 0) (sym k.side);
    stacks = λ t lt. elim (cases_eq m.thread t) [
      | inl e ↦ subst (λ u. stack_of new.sides.replay.stacks u ≡ stack_with u (frames (marks_of s u (m ∷ past)))) e own_stack
      | inr ne ↦ other_stacks t ne lt
    ];
    pool = ap (λ (q : SideState). q.pool) k.side ∙ h.pool ∙ ap pool_with (sym same_blocks);
    calls = λ t lt. subst (λ cs. HoldsFor new.held t cs) (sym (calls_stay s m past k.calls t)) (subst (λ q. HoldsFor q t (open_calls (marks_of s t past))) (sym k.held) (h.calls t lt));
    keys = λ j. ap (λ (q : HeldState). option_map (λ (r : Region). r.range) (prepared_region q.regions j)) k.held ∙ h.keys j ∙ sym (keys_stay s m past k.keys j);
    sound = restacked_sound;
  }

module _ (s : Start) (past : List Mark) (old : SpaceState) (t : ℕ) (h : StandsFor s past old) (lt : t < thread_count) where
  place_is : (addr : ℕ) → addr ≡ memory.end_of (stack_of old.sides.replay.stacks t).base (frames_of old.sides.replay t) → addr ≡ frame_place t (marks_of s t past)
  place_is addr place = place ∙ ap (λ (q : StackState). memory.end_of q.base q.frames) (h.stacks t lt) ∙ end_is (stack Replay t) (frames (marks_of s t past))

  has_room : (size : ℕ) → ((r : Refusal) → IsEnterRefused (stack_of old.sides.replay.stacks t) size r → ⊥) → HasRoom t (marks_of s t past) size
  has_room size free =
      let not_full : IsFullFor (stack_with t (frames (marks_of s t past))) size → ⊥ = λ full. free (StackFull _) (subst (λ (q : StackState). IsFullFor q size) (sym (h.stacks t lt)) full, refl) in (
        elim (cases_lt (stack Replay t + stack_size) (frame_place t (marks_of s t past) + size)) [
          | inl beyond ↦ absurd (not_full (inr (omega (arith, end_is (stack Replay t) (frames (marks_of s t past)), beyond))))
          | inr le ↦ le
        ],
        elim (cases_lt (length (frames (marks_of s t past))) frame_count) [
          | inl few ↦ few
          | inr many ↦ absurd (not_full (inl (omega (arith, count_is (frames (marks_of s t past)), many))))
        ],
      )

-- an Enter that is to be made
record Enters (s : Start) (past : List Mark) (old new : SpaceState) (m : Mark) (func : ℕ) (args bytes : List ℕ) (addr : ℕ) : Type 0 where
  lt : m.thread < thread_count
  side : new.sides ≡ with_side old.sides Replay (with_thread old.sides.replay m.thread (frames_of old.sides.replay m.thread ++ record { addr = addr; len = length bytes } ∷ []))
  place : addr ≡ frame_place m.thread (marks_of s m.thread past)
  room : HasRoom m.thread (marks_of s m.thread past) (length bytes)
  held : new.held ≡ old.held
  has : HasBytes new.bytes addr bytes
  outside : SameOutside (record { addr = addr; len = length bytes }) old.bytes new.bytes
  is : m.act ≡ Enter func args addr bytes

module _ (s : Start) (past : List Mark) (old new : SpaceState) (m : Mark) (func : ℕ) (args bytes : List ℕ) (addr : ℕ) (h : StandsFor s past old) (e : Enters s past old new m func args bytes addr) where
  abbrev r : Range
  r = range addr (length bytes)

  abbrev fs : List Range
  fs = frames (marks_of s m.thread past)

  stacked_before : AreStacked (stack Replay m.thread) fs
  stacked_before = h.sound.stacked m.thread e.lt

  low : stack Replay m.thread ≤ addr
  low = omega (arith, e.place, base_first (stack Replay m.thread) fs stacked_before)

  there : (x : ℕ) → covers r x ≡ true → byte_at new.bytes x ≡ Some (marks.byte_at addr bytes x)
  there x c =
      let p = cover_parts r x c in
      let at : addr + (x - addr) ≡ x = omega (arith, p.0) in
      ap (byte_at new.bytes) (sym at) ∙ e.has (x - addr) (omega (arith, p.0, p.1))

  was_dead : (x : ℕ) → covers r x ≡ true → IsDead old.bytes x
  was_dead x c =
      let p = cover_parts r x c in
      let in' : covers (range (stack Replay m.thread) stack_size) x ≡ true = covered (range (stack Replay m.thread) stack_size) x (omega (arith, p.0, low)) (omega (arith, p.1, e.place, e.room.0)) in
      dead_from (byte_at old.bytes x) (h.sound.frames_live m.thread e.lt x in' ∙ none_after (stack Replay m.thread) fs x stacked_before (omega (arith, p.0, e.place)))

  entered_bytes : (x : ℕ) → is_system x ≡ false → cond (covers r x) (Live (marks.byte_at addr bytes x)) (byte s x past).cell ≡ cell_of (byte_at new.bytes x) (value_when_held old.held.regions x)
  entered_bytes x own = elim (cover_cases r x) [
    | inl in' ↦
        cond-true (covers r x) _ _ in'.is
        ∙ sym (ap (cell_of (byte_at new.bytes x)) (h.sound.unheld x (was_dead x in'.is)) ∙ ap (λ b. cell_of b None) (there x in'.is))
    | inr out ↦ cond-false (covers r x) _ _ out.is ∙ h.bytes x own ∙ ap (λ b. cell_of b (value_when_held old.held.regions x)) (sym (e.outside.bytes x out.is))
  ]

  entered_live : JustTheseLive (range (stack Replay m.thread) stack_size) (r ∷ fs) new.bytes
  entered_live x is = elim (cover_cases r x) [
    | inl in' ↦ ap is_some (there x in'.is) ∙ sym (ap (λ b. b || any_range fs x) in'.is)
    | inr out ↦ ap is_some (e.outside.bytes x out.is) ∙ h.sound.frames_live m.thread e.lt x is ∙ sym (ap (λ b. b || any_range fs x) out.is)
  ]

  restacks : Restacks s past old new m (r ∷ fs) r
  restacks = record {
    lt = e.lt;
    own = frames_own s m past ∙ ap (λ a. frames_after a fs) e.is;
    calls = λ cs. ap (λ a. act_calls a cs) e.is;
    blocks = λ bs. ap (λ a. act_blocks a bs) e.is;
    keys = λ k q. ap (λ a. act_use k a q) e.is;
    begins = λ x n. ap (λ a. block_after a x n) e.is;
    system = ap (λ (q : Sides). q.system) e.side;
    side = ap (λ (q : Sides). q.replay) e.side ∙ ap (λ (q : StackState). with_thread old.sides.replay m.thread (q.frames ++ r ∷ [])) (h.stacks m.thread e.lt);
    held = e.held;
    stacked = (e.place, omega (arith, e.place, e.room.0), stacked_before);
    from = low;
    to = omega (arith, e.place, e.room.0);
    outside = e.outside.bytes;
    bytes = λ x own. ap (λ a. cell_after a x (byte s x past).cell) e.is ∙ entered_bytes x own;
    live = entered_live;
    unheld = λ x c. h.sound.unheld x (was_dead x c);
  }

  enter_made : IsEnter s past m addr (length bytes) new
  enter_made = record {
    mark = record { asks = subst (λ a. Asks a (λ x. byte s x past)) (sym e.is) tt; stands = restacked s past old new m (r ∷ fs) r h restacks };
    place = e.place;
    room = e.room;
  }

pub enters : EntersAreMarks
enters s past old new m func args bytes addr size h lt e is =
    subst (λ n. IsEnter s past m addr n new) e.count
    (enter_made s past old new m func args bytes addr h (record {
      lt = lt;
      side = subst (λ n. new.sides ≡ with_side old.sides Replay (with_thread old.sides.replay m.thread (frames_of old.sides.replay m.thread ++ record { addr = addr; len = n } ∷ []))) (sym e.count) e.frame.sides;
      place = place_is s past old m.thread h lt addr e.frame.place;
      room = subst (HasRoom m.thread (marks_of s m.thread past)) (sym e.count) (has_room s past old m.thread h lt size e.frame.fits);
      held = e.frame.held;
      has = e.bytes_are;
      outside = subst (λ n. SameOutside (record { addr = addr; len = n }) old.bytes new.bytes) (sym e.count) e.others;
      is = is;
    }))

-- a Leave that is to be made, of the innermost frame
record LeavesFrame (s : Start) (past : List Mark) (old new : SpaceState) (m : Mark) (top : Range) (below : List Range) : Type 0 where
  lt : m.thread < thread_count
  were : frames (marks_of s m.thread past) ≡ top ∷ below
  side : new.sides.replay ≡ with_thread old.sides.replay m.thread (innermost_last below)
  system : new.sides.system ≡ old.sides.system
  free : (x : ℕ) → covers top x ≡ true → value_when_held old.held.regions x ≡ None
  held : new.held ≡ old.held
  fills : FillsWith top None old.bytes new.bytes
  is : m.act ≡ Leave top.addr top.len

module _ (s : Start) (past : List Mark) (old new : SpaceState) (m : Mark) (top : Range) (below : List Range) (h : StandsFor s past old) (e : LeavesFrame s past old new m top below) where
  stacked_all : AreStacked (stack Replay m.thread) (top ∷ below)
  stacked_all = subst (AreStacked (stack Replay m.thread)) e.were (h.sound.stacked m.thread e.lt)

  from : stack Replay m.thread ≤ top.addr
  from = omega (arith, stacked_all.0, base_first (stack Replay m.thread) below stacked_all.2)

  in_stack : (x : ℕ) → covers top x ≡ true → covers (range (stack Replay m.thread) stack_size) x ≡ true
  in_stack x c =
      let p = cover_parts top x c in
      covered (range (stack Replay m.thread) stack_size) x (omega (arith, p.0, from)) (omega (arith, p.1, stacked_all.1))

  left_bytes : (x : ℕ) → is_system x ≡ false → cond (covers top x) Dead (byte s x past).cell ≡ cell_of (byte_at new.bytes x) (value_when_held old.held.regions x)
  left_bytes x own = elim (cover_cases top x) [
    | inl in' ↦ cond-true (covers top x) _ _ in'.is ∙ ap (λ b. cell_of b (value_when_held old.held.regions x)) (sym (e.fills.filled x in'.is))
    | inr out ↦ cond-false (covers top x) _ _ out.is ∙ h.bytes x own ∙ ap (λ b. cell_of b (value_when_held old.held.regions x)) (sym (e.fills.others.bytes x out.is))
  ]

  left_live : JustTheseLive (range (stack Replay m.thread) stack_size) below new.bytes
  left_live x is = elim (cover_cases top x) [
    | inl in' ↦ ap is_some (e.fills.filled x in'.is) ∙ sym (none_after (stack Replay m.thread) below x stacked_all.2 (omega (arith, stacked_all.0, in'.from)))
    | inr out ↦ ap is_some (e.fills.others.bytes x out.is) ∙ h.sound.frames_live m.thread e.lt x is ∙ ap (λ gs. any_range gs x) e.were ∙ ap (λ b. b || any_range below x) out.is
  ]

  leave_restacks : Restacks s past old new m below top
  leave_restacks = record {
    lt = e.lt;
    own = frames_own s m past ∙ ap (λ a. frames_after a (frames (marks_of s m.thread past))) e.is ∙ ap tail e.were;
    calls = λ cs. ap (λ a. act_calls a cs) e.is;
    blocks = λ bs. ap (λ a. act_blocks a bs) e.is;
    keys = λ k q. ap (λ a. act_use k a q) e.is;
    begins = λ x n. ap (λ a. block_after a x n) e.is;
    side = e.side;
    system = e.system;
    held = e.held;
    stacked = stacked_all.2;
    from = from;
    to = stacked_all.1;
    outside = e.fills.others.bytes;
    bytes = λ x own. ap (λ a. cell_after a x (byte s x past).cell) e.is ∙ left_bytes x own;
    live = left_live;
    unheld = e.free;
  }

  asked : (x : ℕ) → within top.addr top.len x ≡ true → IsLive (byte s x past).cell
  asked x c =
      let p = cover_parts top x c in
      let live : is_some (byte_at old.bytes x) ≡ true = h.sound.frames_live m.thread e.lt x (in_stack x c) ∙ ap (λ gs. any_range gs x) e.were ∙ ap (λ b. b || any_range below x) c in
      subst IsLive (sym (h.bytes x (below_system x (omega (arith, p.1, stacked_all.1, e.lt))) ∙ ap (cell_of (byte_at old.bytes x)) (e.free x c))) (live_cell (byte_at old.bytes x) (λ dead. absurd (true≢false (sym live ∙ ap is_some dead))))

  leave_made : IsMark s past m new
  leave_made = record { asks = subst (λ a. Asks a (λ x. byte s x past)) (sym e.is) asked; stands = restacked s past old new m below top h leave_restacks }

pub leaves : LeavesAreMarks
leaves s past old new m frame h lt free l is =
    let k : IsInnermost (frames (marks_of s m.thread past)) (frames_of new.sides.replay m.thread) frame = innermost
    (frames (marks_of s m.thread past)) (frames_of new.sides.replay m.thread) frame
    (sym (ap (λ (q : StackState). q.frames) (h.stacks m.thread lt)) ∙ l.frames) in
    let top_is : top_of old.sides.replay m.thread ≡ Some frame = ap (λ gs. slice_get gs (length gs - 1)) l.frames ∙ last_of (frames_of new.sides.replay m.thread) frame in
    let none : NoneIn frame (IsPending old.held.regions) = none_in frame (λ x. is_held old.held.regions x) (λ x least. free (Pending x) (subst (λ o. IsLeaveRefused Replay old.held.regions o (Pending x)) (sym top_is) least)) in
    leave_made s past old new m k.top k.below h (record {
      lt = lt;
      were = k.is;
      system = ap (λ (q : Sides). q.system) l.sides;
      side = ap (λ (q : Sides). q.replay) l.sides ∙ ap (with_thread old.sides.replay m.thread) k.rest_is;
      free = λ x c.
          let p = cover_parts k.top x c in
          let stacked = subst (AreStacked (stack Replay m.thread)) k.is (h.sound.stacked m.thread lt) in
          unheld old.held.regions x (subst (λ (q : Range). NoneIn q (IsPending old.held.regions)) k.frame_is none x (p.0, p.1, omega (arith, p.1, stacked.1, lt)));
      held = l.held;
      fills = subst (λ (q : Range). FillsWith q None old.bytes new.bytes) k.frame_is l.dead;
      is = is ∙ ap (λ (q : Range). Leave q.addr q.len) k.frame_is;
    })
