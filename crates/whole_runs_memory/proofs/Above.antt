-- What code above the cut does to memory.
use Rattle.std.proofs.Common.{◌≡◌, ℕ, ◌≤◌, Bool, true, false, cond, eqb, ◌&&◌, ◌||◌, List, [], ◌∷◌, ◌++◌, All, Option, Some, None, inl, inr, refl, ap, sym, ◌∙◌, subst, arith}
use Rattle.std.proofs.lemmas.List.Elements.{All-head, All-tail}
use Rattle.std.proofs.lemmas.Bool.{cases_Bool, and_parts, true≢false, cond-true, cond-false, ne_eqb}
use Rattle.marks.specs.declared.side.Side.TheVariants.{Replay}
use Rattle.marks.specs.Places.{is_constant, stack, replay_pool}
use Rattle.marks.specs.declared.range.Range.{Range}
use Rattle.marks.specs.Ranges.{piece_ranges, range, within, covers, bytes_of_number}
use Rattle.marks.specs.Marks.{EventKind, Call, Alloc, Free, Event, Made, Mark}
use Rattle.marks.specs.Bytes.{Byte, Dead, Live, granted, event_leaves, cell_after}
use Rattle.space_memory_bytes.specs.Areas.{byte_at}
use Rattle.space_memory_bytes.specs.Numbers.{SameOutside, FillsWith}
use Rattle.pool_list.specs.Places.{IsLeastPlace}
use Rattle.space_memory.specs.StackFrames.{stack_of}
use Rattle.space_memory.specs.declared.sides.Sides.{Sides}
use Rattle.space_memory.specs.Sides.{SideState}
use Rattle.space_memory.specs.Spaces.{SpaceState}
use Rattle.space_memory_laws.specs.StandsFor.{StandsFor}
use Rattle.space_memory_access.specs.declared.holder.OpenCall.{OpenCall}
use Rattle.space_memory_access.specs.declared.holder.Region.{Region}
use Rattle.space_memory_access.specs.Holders.{is_pending}
use Rattle.space_memory_access.specs.Held.{innermost}
use Rattle.space_memory.specs.Cells.{is_held}
use Rattle.space_memory_laws.specs.Calls.{Part, range_of, is_written, parts_of, HaveRegions, IsFree, InCall}
use Rattle.space_memory_laws.proofs.Parts.{written_waits}
use Rattle.replay_runs.specs.Runs.{Start}
use Rattle.space_memory_laws.proofs.Access as access
use Rattle.space_memory_laws.proofs.CallRules as call_rules
use Rattle.space_memory_laws.proofs.Cells.{cover_cases}
use Rattle.space_memory_laws.proofs.Frames as frames
use Rattle.space_memory_laws.proofs.Pool as pool
use Rattle.replay_runs.specs.Runs.{byte}
use Rattle.replay_runs.specs.Threads.{end_of}
use Rattle.marks.specs.Opens as opened
use Rattle.whole_runs.specs.World.{World, begin}
use Rattle.whole_runs.specs.Sides.{seen}
use Rattle.whole_runs.specs.Memory.{value_of, changes, left_by, real}
use Rattle.whole_runs.specs.Below.{act_blocks, system_blocks}
use Rattle.whole_runs_memory.specs.Stands.{HoldsNoConstant, stack_below, pool_below, Stands, StandsForWhole}
use Rattle.whole_runs_memory.specs.Above.{StoresAboveAreWhole, EntersAboveAreWhole, LeavesAboveAreWhole, AllocsAboveAreWhole, RefusedAllocsAboveAreWhole, FreesAboveAreWhole, FreesOfNullAboveAreWhole, CallsAboveAreWhole}
use Rattle.whole_runs_memory.proofs.Seen.{held_same, seen_above, frames_above, own_seen}
use Rattle.whole_runs_memory.proofs.Bytes.{number_bytes, outside_number, written_is}

-- a mark above the cut leaves what is below it as it is
pub raised : (w : World) (past : List Mark) (now : ℕ → Option ℕ) (old new : SpaceState) (m : Mark) → Stands w past now old → m.side ≡ Replay →
    StandsFor (begin w) (m ∷ seen past) new → new.sides.system ≡ old.sides.system → HoldsNoConstant new →
    ((bs : List Range) → act_blocks m.act bs ≡ bs) → ((x : ℕ) → byte_at new.bytes x ≡ left_by w (m ∷ past) x m.act (real w past x)) →
    StandsForWhole w (m ∷ past) new
raised w past now old new m h above stands system constants blocks bytes = record {
  above = subst (λ p. StandsFor (begin w) p new) (sym (seen_above w m past above)) stands;
  constants = constants;
  bytes = bytes;
  stacks = λ t lt. ap (λ (q : SideState). stack_of q.stacks t) system ∙ h.stacks t lt ∙ ap (stack_below t) (sym (frames_above w m past above t));
  pool = ap (λ (q : SideState). q.pool) system ∙ h.pool ∙ ap pool_below (sym (blocks (system_blocks past)));
}

-- ---- stores and frames

pub stores : (w : World) → StoresAboveAreWhole w
stores w past old new m origin thread addr width value h above small k is =
    raised w past (real w past) old new m h above
    (access.stores (begin w) (seen past) old new m origin thread addr width value h.above small k is).stands
    (ap (λ (q : SpaceState). q.sides.system) k.rest)
    (held_same old new (ap (λ (q : SpaceState). q.held) k.rest) h.constants)
    (λ bs. ap (λ a. act_blocks a bs) is)
    (λ x. written_is old.bytes new.bytes addr (bytes_of_number width value) x (real w past x)
    (number_bytes new.bytes addr width value k.number) (outside_number (range addr width) old.bytes new.bytes value k.others)
    (h.bytes x) ∙ sym (ap (λ a. left_by w (m ∷ past) x a (real w past x)) is))

pub enters : (w : World) → EntersAboveAreWhole w
enters w past old new m func args bytes addr size h above lt k is =
    let e = frames.enters (begin w) (seen past) old new m func args bytes addr size h.above lt k is in
    record {
      place = e.place ∙ ap (λ mine. end_of (stack Replay m.thread) (opened.frames mine)) (own_seen w m.thread past);
      stands = raised w past (real w past) old new m h above e.mark.stands
          (ap (λ (q : Sides). q.system) k.frame.sides)
          (held_same old new k.frame.held h.constants)
          (λ bs. ap (λ a. act_blocks a bs) is)
          (λ x. written_is old.bytes new.bytes addr bytes x (real w past x) k.bytes_are
          (subst (λ n. SameOutside (range addr n) old.bytes new.bytes) (sym k.count) k.others) (h.bytes x) ∙ sym
          (ap (λ a. left_by w (m ∷ past) x a (real w past x)) is));
    }

filled_is : (old new : SpaceState) (r : Range) (v : Option ℕ) (x : ℕ) (before : Option ℕ) → FillsWith r v old.bytes new.bytes →
    byte_at old.bytes x ≡ before → byte_at new.bytes x ≡ cond (covers r x) v before
filled_is old new r v x before fills was = elim (cover_cases r x) [
  | inl in' ↦ fills.filled x in'.is ∙ sym (cond-true (covers r x) _ _ in'.is)
  | inr out ↦ fills.others.bytes x out.is ∙ was ∙ sym (cond-false (covers r x) _ _ out.is)
]

pub leaves : (w : World) → LeavesAboveAreWhole w
leaves w past old new m frame h above lt free k is =
    raised w past (real w past) old new m h above
    (frames.leaves (begin w) (seen past) old new m frame h.above lt free k is).stands
    (ap (λ (q : Sides). q.system) k.sides)
    (held_same old new k.held h.constants)
    (λ bs. ap (λ a. act_blocks a bs) is)
    (λ x. filled_is old new frame None x (real w past x) k.dead (h.bytes x) ∙ sym (ap (λ a. left_by w (m ∷ past) x a (real w past x)) is))

-- ---- events

-- what an event leaves of a byte: that of a replay where it changes it
abbrev left_by_event : World → List Mark → Mark → ℕ → EventKind → Option ℕ → Option ℕ
left_by_event w past m x k v = cond (changes k x) (value_of (event_leaves k x (byte (begin w) x (seen past)).cell)) v

pub event_left : (w : World) (past : List Mark) (m : Mark) (e : Event) (k : EventKind) (x : ℕ) → m.side ≡ Replay → m.act ≡ Made e →
    e.kind ≡ k → left_by w (m ∷ past) x m.act (real w past x) ≡ left_by_event w past m x k (real w past x)
event_left w past m e k x above is kind =
    ap (λ a. left_by w (m ∷ past) x a (real w past x)) is
    ∙ ap (λ p. cond (changes e.kind x) (value_of (byte (begin w) x p).cell) (real w past x)) (seen_above w m past above)
    ∙ ap (λ a. cond (changes e.kind x) (value_of (cell_after a x (byte (begin w) x (seen past)).cell)) (real w past x)) is
    ∙ ap (λ j. cond (changes j x) (value_of (event_leaves j x (byte (begin w) x (seen past)).cell)) (real w past x)) kind

pub no_blocks : (m : Mark) (e : Event) → m.act ≡ Made e → (bs : List Range) → act_blocks m.act bs ≡ bs
no_blocks m e is bs = ap (λ a. act_blocks a bs) is

-- bytes that an event makes a value of, or dead
live_bytes : (b : Bool) (v : Option ℕ) (c : Byte) → cond b (value_of (cond b (Live 0) c.cell)) v ≡ cond b (Some 0) v
live_bytes true v c = refl
live_bytes false v c = refl

dead_bytes : (b : Bool) (v : Option ℕ) (c : Byte) → cond b (value_of (cond b Dead c.cell)) v ≡ cond b None v
dead_bytes true v c = refl
dead_bytes false v c = refl

pub allocs : (w : World) → AllocsAboveAreWhole w
allocs w past old new m e size addr h above k is kind keyed =
    raised w past (real w past) old new m h above
    (pool.allocs (begin w) (seen past) old new m e size addr h.above k is kind keyed).mark.stands
    (ap (λ (q : Sides). q.system) k.sides)
    (held_same old new k.held h.constants)
    (no_blocks m e is)
    (λ x.
    filled_is old new (range addr size) (Some 0) x (real w past x) k.fills (h.bytes x)
    ∙ sym (event_left w past m e (Alloc addr size) x above is kind
    ∙ ap (λ n. cond (within addr n x) (value_of (cond (within addr n x) (Live 0) (byte (begin w) x (seen past)).cell)) (real w past x)) all
    ∙ live_bytes (within addr size x) (real w past x) (byte (begin w) x (seen past))))
  where
    low : replay_pool ≤ addr
    low = (subst (λ q. IsLeastPlace q size addr) h.above.pool k.least).is_place.from_base

    all : granted addr size ≡ size
    all = cond-false (eqb addr 0) 0 size (ne_eqb addr 0 (λ z. absurd (omega (arith, z, low))))

null_within : (x : ℕ) → within 0 0 x ≡ false
null_within x = elim (cover_cases (range 0 0) x) [ inl in' ↦ absurd (omega (arith, in'.below)) | inr out ↦ out.is ]

pub refused_allocs : (w : World) → RefusedAllocsAboveAreWhole w
refused_allocs w past memory m e size h above none is kind =
    raised w past (real w past) memory memory m h above
    (pool.refused_allocs (begin w) (seen past) memory m e size h.above none is kind).mark.stands
    refl
    h.constants
    (no_blocks m e is)
    (λ x. h.bytes x ∙ sym (event_left w past m e (Alloc 0 size) x above is kind ∙ cond-false (within 0 0 x) _ (real w past x) (null_within x)))

pub frees : (w : World) → FreesAboveAreWhole w
frees w past old new m e addr size h above k free is kind keyed =
    raised w past (real w past) old new m h above
    (pool.frees (begin w) (seen past) old new m e addr size h.above k free is kind keyed).stands
    (ap (λ (q : Sides). q.system) k.sides)
    (held_same old new k.held h.constants)
    (no_blocks m e is)
    (λ x.
    filled_is old new (range addr size) None x (real w past x) k.dead (h.bytes x)
    ∙ sym (event_left w past m e (Free addr size) x above is kind ∙ dead_bytes (within addr size x) (real w past x) (byte (begin w) x (seen past))))

pub frees_of_null : (w : World) → FreesOfNullAboveAreWhole w
frees_of_null w past memory m e h above is kind =
    raised w past (real w past) memory memory m h above
    (pool.frees_of_null (begin w) (seen past) memory m e h.above is kind).stands
    refl
    h.constants
    (no_blocks m e is)
    (λ x. h.bytes x ∙ sym (event_left w past m e (Free 0 0) x above is kind ∙ cond-false (within 0 0 x) _ (real w past x) (null_within x)))

-- ---- Calls hold no constants

held_more : (xs ys : List Region) (x : ℕ) → is_held xs x ≡ false → is_held ys x ≡ false → is_held (xs ++ ys) x ≡ false
held_more [] ys x a b = b
held_more (r ∷ xs) ys x a b = go (is_pending r.holder && covers r.range x) a (held_more xs ys x)
  where
    go : (c : Bool) → (c || is_held xs x) ≡ false → (is_held xs x ≡ false → is_held ys x ≡ false → is_held (xs ++ ys) x ≡ false) → (c || is_held (xs ++ ys) x) ≡ false
    go true e again = absurd (true≢false e)
    go false e again = again e b

parts_free : (base : SpaceState) (call : OpenCall) (ps : List Part) (rs : List Region) (x : ℕ) → HaveRegions base.bytes call ps rs → All (IsFree base) ps → is_constant x ≡ true → is_held rs x ≡ false
parts_free base call [] [] x have free is = refl
parts_free base call [] (r ∷ rs) x have free is = absurd have
parts_free base call (p ∷ ps) [] x have free is = absurd have
parts_free base call (p ∷ ps) (r ∷ rs) x have free is = elim (cases_Bool (is_pending r.holder && covers r.range x)) [
  | inl waits ↦
      let k = and_parts (is_pending r.holder) (covers r.range x) waits in
      let f = All-head (IsFree base) p ps free in
      let w : is_written p ≡ true = sym (written_waits call p) ∙ ap is_pending (sym have.0.holder_is) ∙ k.0 in
      let c : covers (range_of p) x ≡ true = ap (λ (q : Range). covers q x) (sym have.0.range_is) ∙ k.1 in
      absurd (true≢false (sym is ∙ f.writable x c w))
  | inr idle ↦ ap (λ b. b || is_held rs x) idle ∙ parts_free base call ps rs x have.1 (All-tail (IsFree base) p ps free) is
]

parts_constants : (base new : SpaceState) (t : ℕ) (parts : List Part) (s : Start) (past : List Mark) → InCall s past t parts base new → HoldsNoConstant base → HoldsNoConstant new
parts_constants base new t parts s past call none x is =
    ap (λ rs. is_held rs x) call.regions.all
    ∙ held_more base.held.regions call.regions.added x (none x is) (parts_free base (innermost new.held t) parts call.regions.added x call.regions.regions call.free is)

pub called : (w : World) → CallsAboveAreWhole w
called w past base new m e func args ins outs prepared h above call is kind shown keyed =
    raised w past (real w past) base new m h above
    (call_rules.call_made (begin w) (seen past) base new m e func args ins outs prepared call is kind shown keyed).mark.stands
    (ap (λ (q : SpaceState). q.sides.system) call.rest)
    (parts_constants base new m.thread (parts_of (piece_ranges ins) outs prepared) (begin w) (seen past) call h.constants)
    (no_blocks m e is)
    (λ x. ap (λ (q : SpaceState). byte_at q.bytes x) call.rest ∙ h.bytes x ∙ sym (event_left w past m e (Call func args ins outs prepared) x above is kind))
