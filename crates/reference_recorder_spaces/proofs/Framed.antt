-- Frames that are entered and left.
use Rattle.std.proofs.Common.{◌≡◌, ℕ, ◌+◌, ◌-◌, ◌<◌, true, List, [], ◌∷◌, length, replicate, Some, refl, ap, sym, ◌∙◌, subst, arith}
use Rattle.std.specs.Prelude.{slice_get}
use Rattle.std.proofs.lemmas.Bool.{cond-true}
use Rattle.std.proofs.lemmas.List.{get_or-replicate, length-replicate}
use Rattle.marks.specs.declared.side.Side.TheVariants.{Replay}
use Rattle.marks.specs.Places.{thread_count}
use Rattle.marks.specs.declared.range.Range.{Range}
use Rattle.marks.specs.Ranges.{within}
use Rattle.marks.specs.Ranges as marks
use Rattle.marks.specs.Marks.{Act, Enter, Fault, Leave, Load, Made, Mark, Step, Store, Turn}
use Rattle.marks.specs.Bytes.{Asks, Cell, Dead, IsLive, Live, cell_after, touches, writes}
use Rattle.marks.specs.Wants.{Want}
use Rattle.space_memory_bytes.specs.Numbers.{FillsWith}
use Rattle.space_memory_access.specs.declared.refusal.Refusal.{Refusal}
use Rattle.space_memory_access.specs.declared.refusal.Refusal.TheVariants.{NotLive, Pending, OtherSpace, ReadOnly, StackFull, KeyInUse, NoKey, Size}
use Rattle.space_memory_access.specs.Accesses.{IsAllowed}
use Rattle.replay_runs.specs.Runs.{Start, Allowed, byte, marks_of}
use Rattle.replay_runs.specs.Interface.{Interface, Program}
use Rattle.replay_runs.specs.Threads.{HasRoom, frame_place, frames, is_stop}
use Rattle.replay_runs.specs.Rules.{Carries, is_reply, replay_rules}
use Rattle.replay_runs.specs.Unseen.{LeavesFirst}
use Rattle.replay_runs.proofs.Replies.{Plain, turn, load, no_load, store, no_store, no_write, enter, full, leave, no_free, no_call, fail}
use Rattle.replay_runs.proofs.Replies as replies
use Rattle.space_memory.specs.StackFrames.{StackState, stack_of}
use Rattle.space_memory.specs.Sides.{frames_of, top_of}
use Rattle.space_memory.specs.Spaces.{SpaceState, side_of}
use Rattle.space_memory.specs.Frames.{IsEnterRefused, IsLeaveRefused}
use Rattle.space_memory_laws.specs.Shown.{innermost_last}
use Rattle.space_memory_laws.specs.Changes.{HasFrame, IsEntered, IsLeft, IsWritten, access_on}
use Rattle.space_memory_laws.specs.FrameMarks.{IsEnter}
use Rattle.space_memory_laws.specs.StandsFor.{StandsFor}
use Rattle.space_memory_laws.proofs.Access.{reach}
use Rattle.space_memory_laws.proofs.Cells.{covered}
use Rattle.space_memory_laws.proofs.Frames as memory
use Rattle.space_memory_laws.proofs.Rooms.{full_stacks}
use Rattle.space_memory_laws.proofs.Stacks.{IsInnermost, count_is, innermost, last_of}
use Rattle.reference_recorder_spaces.specs.Next.{IsDone, IsNext, IsUntouched}
use Rattle.reference_recorder_spaces.proofs.Allowed.{allowed, not_pending}
use Rattle.reference_recorder_spaces.proofs.Same.{plain_is}
use Rattle.reference_recorder_spaces.proofs.Untouched.{stays_outside}

-- a frame that is entered lies at the next place of its stack, and has room there
abbrev HasPlace : ℕ → List Mark → Act → Type 0
HasPlace t mine Turn = Unit {0}
HasPlace t mine (Load o at bytes) = Unit {0}
HasPlace t mine (Store o at bytes) = Unit {0}
HasPlace t mine (Enter func args at bytes) = (at ≡ frame_place t mine) × HasRoom t mine (length bytes)
HasPlace t mine (Leave at size) = Unit {0}
HasPlace t mine (Step f args v ins pieces freed) = Unit {0}
HasPlace t mine (Fault kind crosses ins outs access) = Unit {0}
HasPlace t mine (Made e) = Unit {0}

has_place : (i : Interface) (s : Start) (t : ℕ) (mine : List Mark) (want : Want) (act : Act) → Plain want act → Carries i s t mine want act → HasPlace t mine act
has_place i s t mine want act (enter x) c = c
has_place i s t mine want act turn c = tt
has_place i s t mine want act (load bs z) c = tt
has_place i s t mine want act no_load c = tt
has_place i s t mine want act store c = tt
has_place i s t mine want act no_store c = tt
has_place i s t mine want act no_write c = tt
has_place i s t mine want act full c = tt
has_place i s t mine want act leave c = tt
has_place i s t mine want act no_free c = tt
has_place i s t mine want act (no_call k ins outs a) c = tt
has_place i s t mine want act fail c = tt

module _ (program : Program) (s : Start) (past : List Mark) (m : Mark) (allowed : Allowed (replay_rules program s) s past m) (func : ℕ) (args : List ℕ) (at : ℕ) (bytes : List ℕ) (is : m.act ≡ Enter func args at bytes) where
  abbrev mine : List Mark
  mine = marks_of s m.thread past

  abbrev want : Want
  want = program.want m.thread mine

  placed : HasPlace m.thread mine (Enter func args at bytes)
  placed =
      has_place program.interface s m.thread mine want (Enter func args at bytes)
      (replies.plain_is program.interface want (Enter func args at bytes) refl
      (allowed.own.modes (ap is_stop is))
      (subst (λ a. is_reply want a ≡ true) is allowed.own.replies))
      (subst (Carries program.interface s m.thread mine want) is allowed.own.carries)

-- such a frame isn't refused
pub fits : (old : SpaceState) (t func : ℕ) (args : List ℕ) (at : ℕ) (bytes : List ℕ) → t < thread_count → IsNext old t (Enter func args at bytes) →
    (r : Refusal) → IsEnterRefused (stack_of (side_of old.sides Replay).stacks t) (length bytes) r → ⊥
fits old t func args at bytes small n r p =
    let is : n.mark.act ≡ Enter func args at bytes = plain_is n.mark.act (Enter func args at bytes) n.same tt in
    let lt : n.mark.thread < thread_count = let e = n.of_thread in omega (arith, e, small) in
    (full_stacks n.start n.past old n.mark.thread (length bytes) n.stands lt).0
    (r, subst (λ u. IsEnterRefused (stack_of (side_of old.sides Replay).stacks u) (length bytes) r) (sym n.of_thread) p)
    (placed n.program n.start n.past n.mark n.allowed func args at bytes is).1

-- its bytes, zeros at first, may be written
module _ (old mid : SpaceState) (t addr : ℕ) (bytes : List ℕ) (small : t < thread_count) (frame : HasFrame Replay old mid t addr (length bytes))
    (filled : FillsWith (record { addr = addr; len = length bytes }) (Some 0) old.bytes mid.bytes) (func : ℕ) (args : List ℕ) (at : ℕ) (n : IsNext old t (Enter func args at bytes)) where
  abbrev zeros : List ℕ
  zeros = replicate (length bytes) 0

  count : length zeros ≡ length bytes
  count = length-replicate {A = ℕ} (length bytes) 0

  abbrev mark_zeros : Mark
  mark_zeros = record n.mark { act = Enter func args addr zeros }

  entered_zeros : IsEntered Replay old mid n.mark.thread addr (length bytes) zeros
  entered_zeros = subst (λ u. IsEntered Replay old mid u addr (length bytes) zeros) (sym n.of_thread) (record {
    frame = frame;
    count = count;
    bytes_are = λ i lt.
        let few : i < length bytes = omega (arith, lt, count) in
        filled.filled (addr + i) (covered (reach addr (length bytes)) (addr + i) (omega arith) (omega (arith, few))) ∙ ap (λ b. Some b) (sym (get_or-replicate (length bytes) i 0 0 few));
    others = filled.others;
  })

  there : IsEnter n.start n.past mark_zeros addr (length bytes) mid
  there = memory.enters n.start n.past old mid mark_zeros func args zeros addr (length bytes) n.stands (let e = n.of_thread in omega (arith, e, small)) entered_zeros refl

  pub frame_writable : IsAllowed mid.bytes mid.held.regions (access_on Replay t addr (length bytes) true)
  frame_writable =
      let is : n.mark.act ≡ Enter func args at bytes = plain_is n.mark.act (Enter func args at bytes) n.same tt in
      let same : at ≡ addr = (placed n.program n.start n.past n.mark n.allowed func args at bytes is).0 ∙ sym there.place in
      allowed n.start (mark_zeros ∷ n.past) mid there.mark.stands t addr (length bytes) (λ x c. record {
        own = n.allowed.own.other_space x (ap (λ a. touches a x) is ∙ ap (λ a. within a (length bytes) x) same ∙ c);
        live = subst IsLive (sym (cond-true (within addr (length zeros) x) (Live (marks.byte_at addr zeros x)) (byte n.start x n.past).cell (ap (λ k. within addr k x) count ∙ c))) tt;
        writable = n.allowed.own.read_only x (ap (λ a. writes a x) is ∙ ap (λ a. within a (length bytes) x) same ∙ c);
      })

module _ (old mid new : SpaceState) (t addr : ℕ) (bytes : List ℕ) (small : t < thread_count) (frame : HasFrame Replay old mid t addr (length bytes))
    (zeros : FillsWith (record { addr = addr; len = length bytes }) (Some 0) old.bytes mid.bytes) (k : IsWritten Replay mid new t addr bytes) where
  entered : IsEntered Replay old new t addr (length bytes) bytes
  entered = record {
    frame = record {
      place = frame.place;
      fits = frame.fits;
      sides = ap (λ (q : SpaceState). q.sides) k.rest ∙ frame.sides;
      held = ap (λ (q : SpaceState). q.held) k.rest ∙ frame.held;
    };
    count = refl;
    bytes_are = k.bytes_are;
    others = record { areas = k.others.areas ∙ zeros.others.areas; bytes = λ x c. k.others.bytes x c ∙ zeros.others.bytes x c };
  }

  pub enters : (func : ℕ) (args : List ℕ) (at : ℕ) → IsDone old t (Enter func args at bytes) new
  enters func args at n =
      let is : n.mark.act ≡ Enter func args at bytes = plain_is n.mark.act (Enter func args at bytes) n.same tt in
      let lt : n.mark.thread < thread_count = let e = n.of_thread in omega (arith, e, small) in
      let by : IsEntered Replay old new n.mark.thread addr (length bytes) bytes = subst (λ u. IsEntered Replay old new u addr (length bytes) bytes) (sym n.of_thread) entered in
      let there = memory.enters n.start n.past old new (record n.mark { act = Enter func args addr bytes }) func args bytes addr (length bytes) n.stands lt by refl in
      let same : at ≡ addr = (placed n.program n.start n.past n.mark n.allowed func args at bytes is).0 ∙ sym there.place in
      let act : n.mark.act ≡ Enter func args addr bytes = is ∙ ap (λ x. Enter func args x bytes) same in
      let stands = (memory.enters n.start n.past old new n.mark func args bytes addr (length bytes) n.stands lt by act).mark.stands in
      let cell : ℕ → Cell = λ x. Live (marks.byte_at addr bytes x) in
      (stands, stays_outside n.start n.past n.mark old new n.stands n.untouched stands (reach addr (length bytes)) cell (λ x held. held) (λ x. ap (λ a. cell_after a x (byte n.start x n.past).cell) act) entered.others.bytes)

module _ (old : SpaceState) (t at size : ℕ) (small : t < thread_count) (n : IsNext old t (Leave at size)) where
  abbrev own : List Range
  own = frames (marks_of n.start n.mark.thread n.past)

  leave_is : n.mark.act ≡ Leave at size
  leave_is = plain_is n.mark.act (Leave at size) n.same tt

  first : LeavesFirst (Leave at size) own
  first = subst (λ a. LeavesFirst a own) leave_is n.first

  in_range : n.mark.thread < thread_count
  in_range = let e = n.of_thread in omega (arith, e, small)

  frames_are : frames_of old.sides.replay n.mark.thread ≡ innermost_last own
  frames_are = ap (λ (q : StackState). q.frames) (n.stands.stacks n.mark.thread in_range)

  some : (fs : List Range) → LeavesFirst (Leave at size) fs → 0 < length fs
  some [] h = absurd h
  some (f ∷ fs) h = omega arith

  pub frame_there : 0 < length (frames_of (side_of old.sides Replay) t)
  frame_there =
      let e : length (frames_of old.sides.replay n.mark.thread) ≡ length own = ap length frames_are ∙ count_is own in
      let lt = some own first in
      subst (λ u. 0 < length (frames_of old.sides.replay u)) n.of_thread (omega (arith, e, lt))

  abbrev frame : Range
  frame = record { addr = at; len = size }

  top_is : top_of (side_of old.sides Replay) n.mark.thread ≡ Some frame
  top_is = ap (λ (q : StackState). slice_get q.frames (length q.frames - 1)) (n.stands.stacks n.mark.thread in_range) ∙ last own first
    where
      last : (fs : List Range) → LeavesFirst (Leave at size) fs → slice_get (innermost_last fs) (length (innermost_last fs) - 1) ≡ Some frame
      last [] h = absurd h
      last (f ∷ fs) h = last_of (innermost_last fs) f ∙ (λ i. Some (record { addr = sym h.0 i; len = sym h.1 i }))

  no_pending : (r : Refusal) → IsLeaveRefused Replay old.held.regions (Some frame) r → ⊥
  no_pending (Pending x) p =
      let c : within at size x ≡ true = covered frame x p.in_range.0 p.in_range.1 in
      not_pending n.start n.past old n.stands x
      (n.allowed.own.other_space x (ap (λ a. touches a x) leave_is ∙ c))
      (subst (λ a. Asks a (λ x. byte n.start x n.past)) leave_is n.allowed.bytes x c)
      p.holds
  no_pending (NotLive x) p = p
  no_pending (OtherSpace x) p = p
  no_pending (ReadOnly x) p = p
  no_pending (StackFull x) p = p
  no_pending (KeyInUse x) p = p
  no_pending (NoKey x) p = p
  no_pending (Size x) p = p

  -- such a frame isn't refused
  pub may_leave : (r : Refusal) → IsLeaveRefused Replay old.held.regions (top_of (side_of old.sides Replay) t) r → ⊥
  may_leave r p = no_pending r (subst (λ o. IsLeaveRefused Replay old.held.regions o r) (ap (top_of (side_of old.sides Replay)) (sym n.of_thread) ∙ top_is) p)

  pub leaves : (new : SpaceState) (frame : Range) → ((r : Refusal) → IsLeaveRefused Replay old.held.regions (top_of (side_of old.sides Replay) t) r → ⊥) →
      IsLeft Replay old new t frame → StandsFor n.start (n.mark ∷ n.past) new × IsUntouched new
  leaves new frame free l =
      let u = n.mark.thread in
      let left : IsLeft Replay old new u frame = subst (λ u. IsLeft Replay old new u frame) (sym n.of_thread) l in
      let k : IsInnermost own (frames_of new.sides.replay u) frame = innermost own (frames_of new.sides.replay u) frame (sym frames_are ∙ left.frames) in
      let top : LeavesFirst (Leave at size) (k.top ∷ k.below) = subst (LeavesFirst (Leave at size)) k.is first in
      let as_left : Leave at size ≡ Leave frame.addr frame.len = (λ i. Leave (top.0 i) (top.1 i)) ∙ sym (ap (λ (q : Range). Leave q.addr q.len) k.frame_is) in
      let act : n.mark.act ≡ Leave frame.addr frame.len = leave_is ∙ as_left in
      let stands =
      (memory.leaves n.start n.past old new n.mark frame n.stands in_range
      (subst (λ v. (r : Refusal) → IsLeaveRefused Replay old.held.regions (top_of (side_of old.sides Replay) v) r → ⊥) (sym n.of_thread) free)
      left act).stands in
      let cell : ℕ → Cell = λ x. Dead in
      (stands, stays_outside n.start n.past n.mark old new n.stands n.untouched stands frame cell (λ x held. held) (λ x. ap (λ a. cell_after a x (byte n.start x n.past).cell) act) l.dead.others.bytes)
