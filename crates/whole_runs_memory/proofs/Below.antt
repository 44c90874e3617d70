-- Stores and frames below the cut.
use Rattle.std.proofs.Common.{◌≡◌, ℕ, ◌+◌, ◌-◌, ◌<◌, cond, List, [], ◌∷◌, ◌++◌, length, Option, Some, None, inl, inr, refl, ap, sym, ◌∙◌, subst, arith}
use Rattle.std.specs.Prelude.{slice_get}
use Rattle.std.proofs.lemmas.Bool.{cases_lt, cond-true, cond-false}
use Rattle.marks.specs.declared.side.Side.TheVariants.{System}
use Rattle.marks.specs.Places.{thread_count, stack}
use Rattle.marks.specs.Ranges.{range, within, covers, bytes_of_number}
use Rattle.marks.specs.Marks.{Leave, Mark}
use Rattle.marks.specs.Opens.{frames_after}
use Rattle.memory_map.specs.declared.areas.TheConstants.{STACK_SIZE, FRAMES}
use Rattle.space_memory_bytes.specs.Areas.{byte_at}
use Rattle.space_memory_bytes.specs.Numbers.{SameOutside}
use Rattle.space_memory_access.specs.declared.refusal.Refusal.{Refusal}
use Rattle.space_memory_access.specs.declared.refusal.Refusal.TheVariants.{StackFull}
use Rattle.space_memory.specs.StackFrames.{StackState, stack_of}
use Rattle.space_memory.specs.StackFrames as spaces
use Rattle.space_memory.specs.declared.sides.Sides.{Sides}
use Rattle.space_memory.specs.Sides.{SideState, frames_of, top_of, with_thread}
use Rattle.space_memory.specs.Spaces.{SpaceState}
use Rattle.space_memory.specs.Frames.{IsEnterRefused}
use Rattle.space_memory_laws.specs.Shown.{innermost_last}
use Rattle.space_memory_laws.specs.StandsFor.{StandsFor}
use Rattle.space_memory_laws.specs.FrameMarks.{bytes_with_args, HasArgs}
use Rattle.space_memory_laws.proofs.Args.{arguments}
use Rattle.space_memory_laws.proofs.Below as unseen
use Rattle.space_memory_laws.proofs.Cells.{cover_cases}
use Rattle.space_memory_laws.proofs.Stacks.{end_is, count_is, same_stack, IsInnermost, innermost, last_of}
use Rattle.whole_runs.specs.World.{World, begin}
use Rattle.whole_runs.specs.Sides.{seen, frames_on, place_on, HasRoomOn}
use Rattle.whole_runs.specs.Memory.{left_by, real}
use Rattle.whole_runs.specs.Below.{act_blocks, system_blocks}
use Rattle.whole_runs_memory.specs.Stands.{stack_below, pool_below, Stands}
use Rattle.whole_runs_memory.specs.Below.{StoresBelowAreWhole, EntersBelowAreWhole, LeavesBelowAreWhole}
use Rattle.whole_runs_memory.proofs.Seen.{held_same, seen_below, frames_own, frames_still, restacked}
use Rattle.whole_runs_memory.proofs.Bytes.{number_bytes, outside_number, written_is}

pub stores : (w : World) → StoresBelowAreWhole w
stores w past old new m origin thread addr width value h below small k is = record {
  above = subst (λ p. StandsFor (begin w) p new) (sym (seen_below w m past below)) (unseen.stored (begin w) (seen past) old new thread addr width value h.above small k);
  constants = held_same old new (ap (λ (q : SpaceState). q.held) k.rest) h.constants;
  bytes = λ x. written_is old.bytes new.bytes addr (bytes_of_number width value) x (real w past x)
      (number_bytes new.bytes addr width value k.number) (outside_number (range addr width) old.bytes new.bytes value k.others) (h.bytes x)
      ∙ sym (ap (λ a. left_by w (m ∷ past) x a (real w past x)) is);
  stacks = λ t lt. ap (λ (q : SpaceState). stack_of q.sides.system.stacks t) k.rest ∙ h.stacks t lt ∙ ap (stack_below t) (sym (frames_still w m past (λ fs. ap (λ a. frames_after a fs) is) t));
  pool = ap (λ (q : SpaceState). q.sides.system.pool) k.rest ∙ h.pool ∙ ap pool_below (sym (ap (λ a. act_blocks a (system_blocks past)) is));
}

-- ---- frames

module _ (w : World) (past : List Mark) (now : ℕ → Option ℕ) (memory : SpaceState) (t : ℕ) (h : Stands w past now memory) (lt : t < thread_count) where
  abbrev side : SideState
  side = memory.sides.system

  -- the frames of a thread, and where its next one lies
  pub frames_are : frames_of side t ≡ innermost_last (frames_on w System t past)
  frames_are = ap (λ (k : StackState). k.frames) (h.stacks t lt)

  pub place_is : spaces.end_of (stack_of side.stacks t).base (frames_of side t) ≡ place_on w System t past
  place_is = ap (λ (k : StackState). spaces.end_of k.base k.frames) (h.stacks t lt) ∙ end_is (stack System t) (frames_on w System t past)

  pub base_is : (stack_of side.stacks t).base ≡ stack System t
  base_is = ap (λ (k : StackState). k.base) (h.stacks t lt)

  pub frames_count : length (frames_of side t) ≡ length (frames_on w System t past)
  frames_count = ap length frames_are ∙ count_is (frames_on w System t past)

  -- a frame that isn't refused has room
  pub room_is : (size : ℕ) → ((r : Refusal) → IsEnterRefused (stack_of side.stacks t) size r → ⊥) → HasRoomOn w System t past size
  room_is size free = (
    elim (cases_lt ((stack_of side.stacks t).base + STACK_SIZE) (spaces.end_of (stack_of side.stacks t).base (frames_of side t) + size)) [
      | inl beyond ↦ absurd (free (StackFull _) (inr beyond, refl))
      | inr le ↦ omega (arith, le, place_is, base_is)
    ],
    elim (cases_lt (length (frames_of side t)) FRAMES) [
      | inl few ↦ omega (arith, few, frames_count)
      | inr many ↦ absurd (free (StackFull _) (inl many, refl))
    ],
  )

pub enters : (w : World) → EntersBelowAreWhole w
enters w past old entered new m func args offsets widths values addr size h below lt f fills values_same areas k is = record {
  place = f.place ∙ place_is w past (real w past) old m.thread h lt;
  room = room_is w past (real w past) old m.thread h lt size f.fits;
  stands = record {
    above = subst (λ p. StandsFor (begin w) p new) (sym (seen_below w m past below)) (unseen.arguments_set (begin w) (seen past) entered new m.thread (range addr size) offsets widths values entered_above lt top k);
    constants = held_same old new (ap (λ (q : SpaceState). q.held) k.rest ∙ f.held) h.constants;
    bytes = λ x. written_is old.bytes new.bytes addr (bytes_with_args size offsets widths values) x (real w past x) put.bytes
        (subst (λ n. SameOutside (range addr n) old.bytes new.bytes) (sym put.count) put.outside) (h.bytes x) ∙ sym
        (ap (λ a. left_by w (m ∷ past) x a (real w past x)) is);
    stacks = λ t lt'. ap (λ (q : SideState). stack_of q.stacks t)
        (system ∙ ap (λ fs. with_thread old.sides.system m.thread (fs ++ (range addr size) ∷ []))
        (frames_are w past (real w past) old m.thread h lt)) ∙ restacked w past m old.sides.system
        ((range addr size) ∷ frames_on w System m.thread past) h.above.sound.below.threads lt below h.stacks own t lt';
    pool = ap (λ (q : SideState). q.pool) system ∙ h.pool ∙ ap pool_below (sym (ap (λ a. act_blocks a (system_blocks past)) is));
  };
}
  where
    put : HasArgs addr size offsets widths values old.bytes new.bytes
    put = arguments old.bytes entered.bytes new.bytes (range addr size) offsets widths values fills k.widths_same values_same k.fit areas k.set

    now : entered.sides.system ≡ with_thread old.sides.system m.thread (frames_of old.sides.system m.thread ++ (range addr size) ∷ [])
    now = ap (λ (q : Sides). q.system) f.sides

    system : new.sides.system ≡ with_thread old.sides.system m.thread (frames_of old.sides.system m.thread ++ (range addr size) ∷ [])
    system = ap (λ (q : SpaceState). q.sides.system) k.rest ∙ now

    entered_above : StandsFor (begin w) (seen past) entered
    entered_above = unseen.entered (begin w) (seen past) old entered m.thread addr size h.above lt f fills

    top : top_of entered.sides.system m.thread ≡ Some (range addr size)
    top =
        ap (λ (q : SideState). top_of q m.thread) now
        ∙ ap (λ (k : StackState). slice_get k.frames (length k.frames - 1)) (same_stack old.sides.system.stacks m.thread (frames_of old.sides.system m.thread ++ (range addr size) ∷ []) (omega (arith, lt, h.above.sound.below.threads)))
        ∙ last_of (frames_of old.sides.system m.thread) (range addr size)

    own : frames_on w System m.thread (m ∷ past) ≡ (range addr size) ∷ frames_on w System m.thread past
    own = frames_own w m past below ∙ ap (λ a. frames_after a (frames_on w System m.thread past)) is ∙ ap (λ n. range addr n ∷ frames_on w System m.thread past) put.count

pub leaves : (w : World) → LeavesBelowAreWhole w
leaves w past old new m frame h below lt l is = record {
  above = subst (λ p. StandsFor (begin w) p new) (sym (seen_below w m past below)) (unseen.left (begin w) (seen past) old new m.thread frame h.above lt l);
  constants = held_same old new l.held h.constants;
  bytes = λ x. gone x ∙ sym (ap (λ a. left_by w (m ∷ past) x a (real w past x)) is);
  stacks = λ t lt'. ap (λ (q : SideState). stack_of q.stacks t) (system ∙ ap (with_thread old.sides.system m.thread) k.rest_is) ∙ restacked w past m old.sides.system k.below h.above.sound.below.threads lt below h.stacks own t lt';
  pool = ap (λ (q : SideState). q.pool) system ∙ h.pool ∙ ap pool_below (sym (ap (λ a. act_blocks a (system_blocks past)) is));
}
  where
    k : IsInnermost (frames_on w System m.thread past) (frames_of new.sides.system m.thread) frame
    k = innermost (frames_on w System m.thread past) (frames_of new.sides.system m.thread) frame (sym (frames_are w past (real w past) old m.thread h lt) ∙ l.frames)

    system : new.sides.system ≡ with_thread old.sides.system m.thread (frames_of new.sides.system m.thread)
    system = ap (λ (q : Sides). q.system) l.sides

    own : frames_on w System m.thread (m ∷ past) ≡ k.below
    own = frames_own w m past below ∙ ap (λ a. frames_after a (frames_on w System m.thread past)) is ∙ ap (λ fs. frames_after (Leave frame.addr frame.len) fs) k.is

    gone : (x : ℕ) → byte_at new.bytes x ≡ cond (within frame.addr frame.len x) None (real w past x)
    gone x = elim (cover_cases frame x) [
      | inl in' ↦ l.dead.filled x in'.is ∙ sym (cond-true (covers frame x) _ _ in'.is)
      | inr out ↦ l.dead.others.bytes x out.is ∙ h.bytes x ∙ sym (cond-false (covers frame x) _ _ out.is)
    ]
