-- The memory before a run, marks that leave memory as it is, and what memory shows.
use Rattle.std.proofs.Common.{◌≡◌, ℕ, ◌-◌, ◌<◌, false, cond, List, [], ◌∷◌, length, map, get_or, Option, Some, None, refl, ap, sym, ◌∙◌, subst, arith}
use Rattle.std.specs.Prelude.{slice_get}
use Rattle.std.specs.List.{range_with_len}
use Rattle.std.proofs.lemmas.Bool.{cond-false}
use Rattle.std.proofs.lemmas.List.{get_or-map}
use Rattle.std.proofs.lemmas.List.FromFn.{get_or-range_with_len, length-range_with_len}
use Rattle.marks.specs.declared.side.Side.{Side}
use Rattle.marks.specs.declared.side.Side.TheVariants.{Replay, System}
use Rattle.marks.specs.Places.{thread_count, stack}
use Rattle.marks.specs.declared.range.Range.{Range}
use Rattle.marks.specs.Ranges.{any_range, bytes_of_number}
use Rattle.marks.specs.Marks.{EventKind, Call, Ret, Up, UpRet, Alloc, Free, Stop, Act, Turn, Load, Store, Enter, Leave, Step, Fault, Made, Mark}
use Rattle.marks.specs.Opens.{frames_after, frames}
use Rattle.c_builtins.specs.declared.builtin.Builtin.{Builtin}
use Rattle.c_builtins.specs.declared.builtin.Builtin.TheVariants as builtins
use Rattle.memory_map.specs.declared.areas.TheConstants.{THREADS, SYSTEM_STACKS, SYSTEM_POOL}
use Rattle.space_memory_bytes.specs.Areas as areas
use Rattle.space_memory_bytes.specs.Numbers.{HasBytes}
use Rattle.space_memory.specs.Cells.{is_held}
use Rattle.space_memory_access.specs.Held.{HeldState}
use Rattle.space_memory_access.specs.declared.refusal.Refusal.TheVariants.{NotLive, Pending, OtherSpace, ReadOnly, StackFull, KeyInUse, NoKey, Size}
use Rattle.space_memory.specs.StackFrames as spaces
use Rattle.space_memory.specs.StackFrames.{StackState, stack_of}
use Rattle.space_memory.specs.declared.sides.Sides.{Sides}
use Rattle.space_memory.specs.Sides.{SideState, fresh_stack, fresh_side}
use Rattle.space_memory.specs.Spaces.{SpaceState}
use Rattle.space_memory_laws.specs.Shown.{innermost_last, cell_of, value_when_held}
use Rattle.space_memory_laws.specs.StandsFor.{StandsFor}
use Rattle.space_memory_laws.specs.Marks.{IsQuietEvent, IsQuiet}
use Rattle.space_memory_laws.proofs.Fresh as fresh
use Rattle.space_memory_laws.proofs.Quiet.{quiet}
use Rattle.space_memory_laws.proofs.Regions.{some_none}
use Rattle.space_memory_laws.proofs.Stacks.{end_is, count_is, last_of}
use Rattle.whole_runs.specs.World.{World, begin}
use Rattle.whole_runs.specs.Sides.{seen, own, frames_on}
use Rattle.whole_runs.specs.Outcomes.{builtin_of}
use Rattle.whole_runs.specs.Memory.{filled, changes, left_by, real, Has}
use Rattle.whole_runs.specs.Below.{builtin_blocks, act_blocks, system_blocks}
use Rattle.whole_runs.specs.Steps.{Agrees}
use Rattle.whole_runs_memory.specs.Stands.{stack_below, pool_below, StandsForWhole}
use Rattle.whole_runs_memory.specs.Starts.{NewMemoryIsWhole}
use Rattle.whole_runs_memory.specs.Plain.{LeavesPool, IsPlain, PlainMarksLeaveMemory, PlainMarksLeaveMemoryAbove, LoadsAreWhole, CopiesAreWhole, first_of, FramesAreThere, LeavesBelowAreTaken, IsReally, MemoryAboveIsReal}
use Rattle.whole_runs_memory.proofs.Seen.{seen_below, seen_above, frames_still, own_seen}
use Rattle.whole_runs_memory.proofs.Bytes.{number_bytes, bytes_byte}

-- ---- before a run

fresh_at : (from t : ℕ) → t < THREADS → stack_of (map (fresh_stack from) (range_with_len 0 THREADS)) t ≡ fresh_stack from t
fresh_at from t lt =
    let few : t < length (range_with_len 0 THREADS) = omega (arith, length-range_with_len 0 THREADS) in
    let here : get_or (range_with_len 0 THREADS) t 0 ≡ t = get_or-range_with_len 0 THREADS t 0 lt ∙ omega arith in
    get_or-map (fresh_stack from) (range_with_len 0 THREADS) t 0 (record { base = 0; frames = [] }) few ∙ ap (fresh_stack from) here

pub new_memory : (w : World) → NewMemoryIsWhole w
new_memory w memory globals strings bytes held sides = record {
  above = fresh.stands w.laid.placed _ memory globals strings (λ x own. refl) bytes held sides;
  bytes = bytes;
  constants = λ x is. ap (λ (k : HeldState). is_held k.regions x) held;
  stacks = λ t lt. ap (λ (k : SideState). stack_of k.stacks t) system ∙ fresh_at SYSTEM_STACKS t lt;
  pool = ap (λ (k : SideState). k.pool) system;
}
  where
    system : memory.sides.system ≡ fresh_side SYSTEM_STACKS SYSTEM_POOL
    system = ap (λ (q : Sides). q.system) sides

-- ---- marks that change nothing

quiet_event : (k : EventKind) → IsQuietEvent k → (x : ℕ) → changes k x ≡ false
quiet_event (Up f args) q x = refl
quiet_event (UpRet f v) q x = refl
quiet_event (Stop fault) q x = refl
quiet_event (Call f args ins outs prepared) q x = absurd q
quiet_event (Ret f args v same outs commit) q x = absurd q
quiet_event (Alloc at size) q x = absurd q
quiet_event (Free at size) q x = absurd q

pub leaves_pool : (b : Option Builtin) (args : List ℕ) (result : ℕ) (bs : List Range) → LeavesPool b → builtin_blocks b args result bs ≡ bs
leaves_pool (Some builtins.Malloc) args result bs q = absurd q
leaves_pool (Some builtins.Free) args result bs q = absurd q
leaves_pool (Some builtins.Spawn) args result bs q = refl
leaves_pool (Some builtins.Join) args result bs q = refl
leaves_pool (Some builtins.Lock) args result bs q = refl
leaves_pool (Some builtins.Unlock) args result bs q = refl
leaves_pool (Some builtins.Print) args result bs q = refl
leaves_pool None args result bs q = refl

record ChangesNothing (w : World) (now : List Mark) (a : Act) : Type 0 where
  quiet : IsQuiet a
  frames : (fs : List Range) → frames_after a fs ≡ fs
  blocks : (bs : List Range) → act_blocks a bs ≡ bs
  bytes : (x : ℕ) (v : Option ℕ) → left_by w now x a v ≡ v

nothing : (w : World) (now : List Mark) (a : Act) → IsPlain a → ChangesNothing w now a
nothing w now Turn q = record { quiet = tt; frames = λ fs. refl; blocks = λ bs. refl; bytes = λ x v. refl }
nothing w now (Load o at bytes) q = record { quiet = tt; frames = λ fs. refl; blocks = λ bs. refl; bytes = λ x v. refl }
nothing w now (Store o at bytes) q = absurd q
nothing w now (Enter f args at bytes) q = absurd q
nothing w now (Leave at size) q = absurd q
nothing w now (Step f args v ins pieces freed) q = record {
  quiet = tt;
  frames = λ fs. refl;
  blocks = λ bs. leaves_pool (builtin_of f) args v bs q.0;
  bytes = λ x u. ap (λ rs. cond (any_range rs x) None (filled pieces x u)) q.2 ∙ ap (λ ps. filled ps x u) q.1;
}
nothing w now (Fault kind crosses ins outs access) q = record { quiet = tt; frames = λ fs. refl; blocks = λ bs. refl; bytes = λ x v. refl }
nothing w now (Made e) q = record {
  quiet = q;
  frames = λ fs. refl;
  blocks = λ bs. refl;
  bytes = λ x v. cond-false (changes e.kind x) _ v (quiet_event e.kind q x);
}

pub plain_above : (w : World) → PlainMarksLeaveMemoryAbove w
plain_above w past memory m h q = either m.side refl
  where
    either : (d : Side) → m.side ≡ d → StandsFor (begin w) (seen (m ∷ past)) memory
    either Replay e = subst (λ p. StandsFor (begin w) p memory) (sym (seen_above w m past e)) (quiet (begin w) (seen past) memory m h (nothing w (m ∷ past) m.act q).quiet)
    either System e = subst (λ p. StandsFor (begin w) p memory) (sym (seen_below w m past e)) h

pub plain : (w : World) → PlainMarksLeaveMemory w
plain w past memory m h q = record {
  above = plain_above w past memory m h.above q;
  constants = h.constants;
  bytes = λ x. h.bytes x ∙ sym (n.bytes x (real w past x));
  stacks = λ t lt. h.stacks t lt ∙ ap (stack_below t) (sym (frames_still w m past n.frames t));
  pool = h.pool ∙ ap pool_below (sym (n.blocks (system_blocks past)));
}
  where
    n : ChangesNothing w (m ∷ past) m.act
    n = nothing w (m ∷ past) m.act q

-- ---- what memory shows

-- bytes of memory are those of the run
pub has_real : (w : World) (past : List Mark) (memory : SpaceState) (at : ℕ) (bytes : List ℕ) → StandsForWhole w past memory → HasBytes memory.bytes at bytes → Has (real w past) at bytes
has_real w past memory at bytes h has x c = sym (h.bytes x) ∙ bytes_byte memory.bytes at bytes x has c

pub loads : (w : World) → LoadsAreWhole w
loads w past memory m want origin addr width value h has is = record {
  agrees = subst (λ a. Agrees w past m.thread m.side want a) (sym is) (has_real w past memory addr (bytes_of_number width value) h (number_bytes memory.bytes addr width value has));
  stands = plain w past memory m h (subst IsPlain (sym is) tt);
}

pub copies : (w : World) → CopiesAreWhole w
copies w past memory p h shown = has_real w past memory p.range.addr p.bytes h shown.bytes_are

first_last : (fs : List Range) → slice_get (innermost_last fs) (length (innermost_last fs) - 1) ≡ first_of fs
first_last [] = refl
first_last (f ∷ fs) = last_of (innermost_last fs) f

frames_seen : (w : World) (past : List Mark) (memory : SpaceState) (t : ℕ) → StandsForWhole w past memory → t < thread_count →
    stack_of memory.sides.replay.stacks t ≡ record { base = stack Replay t; frames = innermost_last (frames_on w Replay t past) }
frames_seen w past memory t h lt = h.above.stacks t lt ∙ ap (λ mine. let k : StackState = record { base = stack Replay t; frames = innermost_last (frames mine) } in k) (own_seen w t past)

pub frames_there : (w : World) → FramesAreThere w
frames_there w past memory Replay t h lt = record {
  top = ap (λ (k : StackState). slice_get k.frames (length k.frames - 1)) (frames_seen w past memory t h lt) ∙ first_last (frames_on w Replay t past);
  count = ap (λ (k : StackState). length k.frames) (frames_seen w past memory t h lt) ∙ count_is (frames_on w Replay t past);
  next = ap (λ (k : StackState). spaces.end_of k.base k.frames) (frames_seen w past memory t h lt) ∙ end_is (stack Replay t) (frames_on w Replay t past);
}
frames_there w past memory System t h lt = record {
  top = ap (λ (k : StackState). slice_get k.frames (length k.frames - 1)) (h.stacks t lt) ∙ first_last (frames_on w System t past);
  count = ap (λ (k : StackState). length k.frames) (h.stacks t lt) ∙ count_is (frames_on w System t past);
  next = ap (λ (k : StackState). spaces.end_of k.base k.frames) (h.stacks t lt) ∙ end_is (stack System t) (frames_on w System t past);
}

pub taken : LeavesBelowAreTaken
taken regions None r p = p
taken regions (Some frame) (Pending x) p = p.holds
taken regions (Some frame) (OtherSpace x) p = p
taken regions (Some frame) (NotLive x) p = p
taken regions (Some frame) (ReadOnly x) p = p
taken regions (Some frame) (StackFull x) p = p
taken regions (Some frame) (KeyInUse x) p = p
taken regions (Some frame) (NoKey x) p = p
taken regions (Some frame) (Size x) p = p

pub really : (b v : Option ℕ) → IsReally (cell_of b v) b
really None v = refl
really (Some n) None = refl
really (Some n) (Some v) = λ e. some_none n e

pub above_real : (w : World) → MemoryAboveIsReal w
above_real w past memory x h own =
    subst (λ c. IsReally c (real w past x)) (sym (h.above.bytes x own))
    (subst (IsReally (cell_of (areas.byte_at memory.bytes x) (value_when_held memory.held.regions x))) (h.bytes x) (really (areas.byte_at memory.bytes x) (value_when_held memory.held.regions x)))
