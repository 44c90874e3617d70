-- A call with all its parts is a Call.
use Rattle.std.proofs.Common.{◌≡◌, ℕ, suc, ◌+◌, ◌<◌, Bool, true, false, cond, eqb, ◌||◌, List, [], ◌∷◌, ◌++◌, length, map, Option, Some, None, is_some, inl, inr, refl, ap, sym, ◌∙◌, subst, arith, All, get_or-set_same, get_or-set_other}
use Rattle.std.specs.Prelude.{slice_index, option_map, unwrap_or}
use Rattle.std.specs.List.{list_any}
use Rattle.std.proofs.lemmas.Bool.{cases_Bool, cases_eq, true≢false, cond-true, cond-false, eq-eqb, ne_eqb, and_parts, and_from, and_left, and_right, or_cases}
use Rattle.std.proofs.lemmas.List.Elements.{filter-append, All-head, All-tail}
use Rattle.run_events.specs.declared.key.Class.TheVariants.{Async}
use Rattle.marks.specs.declared.side.Side.TheVariants.{Replay}
use Rattle.marks.specs.Places.{thread_count, stack, replay_pool, pool_size, is_system, is_constant}
use Rattle.marks.specs.declared.range.Range.{Range}
use Rattle.marks.specs.Ranges.{Piece, Prepared, any_range, any_prepared, piece_ranges}
use Rattle.marks.specs.Marks.{Call, Event, Made, Mark}
use Rattle.marks.specs.Bytes.{hold, event_leaves, cell_after, event_block, block_after}
use Rattle.space_memory_bytes.specs.Areas.{byte_at, IsDead}
use Rattle.space_memory.specs.StackFrames.{stack_of}
use Rattle.pool_list.specs.Blocks.{length_at, LieBetween}
use Rattle.space_memory_access.specs.declared.holder.OpenCall.{OpenCall}
use Rattle.space_memory_access.specs.declared.holder.Region.{Region}
use Rattle.space_memory_access.specs.Holders.{is_out_of, is_same_call, has_key}
use Rattle.space_memory_access.specs.Held.{innermost, prepared_region}
use Rattle.replay_runs.specs.Runs.{Start, OfKey, has, marks_of, byte}
use Rattle.replay_runs.specs.Keys.{key}
use Rattle.replay_runs.specs.Threads.{frames_after, calls_after, act_calls, open_calls}
use Rattle.replay_runs.specs.Threads as run
use Rattle.replay_runs.specs.Pool.{blocks, act_blocks, blocks_after, prepares_key, prepared_under, use_after, act_use, in_use}
use Rattle.space_memory.specs.Sides.{SideState}
use Rattle.space_memory.specs.Spaces.{SpaceState}
use Rattle.space_memory.specs.Cells.{is_held}
use Rattle.space_memory.specs.Releases.{outs_of}
use Rattle.space_memory_laws.specs.Shown.{value_when_held, cell_of, stack_with, pool_with, by_address, ranges_at, is_in_of, ins_of}
use Rattle.space_memory_laws.specs.Held.{HaveOwnKeys}
use Rattle.space_memory_laws.specs.Sound.{AreStacked, IsBelow, IsSound}
use Rattle.space_memory_laws.specs.StandsFor.{HoldsFor, StandsFor}
use Rattle.space_memory_laws.specs.Calls.{Part, is_written, parts_of, IsFree, InCall}
use Rattle.space_memory_laws.proofs.Backs.{frames_stay, blocks_stay, calls_own, calls_other, keys_more, stay}
use Rattle.space_memory_laws.proofs.Cells.{unheld}
use Rattle.space_memory_laws.proofs.Regions.{some_none, value_left, value_right, prepared_left, prepared_right}
use Rattle.space_memory_laws.proofs.Added.{has_byte, writes_byte, value_is, written_any, added_ins, added_outs, added_key}

-- what a free part says of a byte that it has
pub record IsFreeAt (memory : SpaceState) (x : ℕ) : Type 0 where
  pub own : is_system x ≡ false
  pub live : IsDead memory.bytes x → ⊥
  pub free : is_held memory.held.regions x ≡ false

pub free_at : (memory : SpaceState) (ps : List Part) (x : ℕ) → All (IsFree memory) ps → list_any (has_byte x) ps ≡ true → IsFreeAt memory x
free_at memory [] x h is = absurd (true≢false (sym is))
free_at memory (p ∷ ps) x h is = elim (or_cases (has_byte x p) (list_any (has_byte x) ps) is) [
  | inl c ↦ (let f = All-head (IsFree memory) p ps h in record { own = f.own x c; live = f.live x c; free = f.free x c })
  | inr more ↦ free_at memory ps x (All-tail (IsFree memory) p ps h) more
]

pub written_is : (ps : List Part) (x : ℕ) → list_any (writes_byte x) ps ≡ true → list_any (has_byte x) ps ≡ true
written_is [] x is = is
written_is (p ∷ ps) x is = elim (or_cases (writes_byte x p) (list_any (writes_byte x) ps) is) [
  | inl c ↦ ap (λ b. b || list_any (has_byte x) ps) (and_parts (is_written p) (has_byte x p) c).1
  | inr more ↦ ap (λ b. has_byte x p || b) (written_is ps x more) ∙ or_true (has_byte x p)
]
  where
    or_true : (b : Bool) → (b || true) ≡ true
    or_true true = refl
    or_true false = refl

pub writable_at : (memory : SpaceState) (ps : List Part) (x : ℕ) → All (IsFree memory) ps → list_any (writes_byte x) ps ≡ true → is_constant x ≡ false
writable_at memory [] x h is = absurd (true≢false (sym is))
writable_at memory (p ∷ ps) x h is = elim (or_cases (writes_byte x p) (list_any (writes_byte x) ps) is) [
  | inl c ↦ (let k = and_parts (is_written p) (has_byte x p) c in (All-head (IsFree memory) p ps h).writable x k.1 k.0)
  | inr more ↦ writable_at memory ps x (All-tail (IsFree memory) p ps h) more
]

hold_cell : (b : Option ℕ) → hold (cell_of b None) ≡ cell_of b b
hold_cell None = refl
hold_cell (Some v) = refl

-- a call number past the open ones has no ranges
pub ranges_past : (f : run.OpenCall → List Range) (d : ℕ) (cs : List run.OpenCall) → length cs < d → ranges_at f d cs ≡ []
ranges_past f d [] lt = refl
ranges_past f d (c ∷ cs) lt = cond-false (eqb d (suc (length cs))) (f c) (ranges_at f d cs) (ne_eqb d (suc (length cs)) (λ e. absurd (omega (arith, e, lt)))) ∙ ranges_past f d cs (omega (arith, lt))

pub empty_map : (rs : List Region) → map (λ (r : Region). r.range) rs ≡ [] → rs ≡ []
empty_map [] e = refl
empty_map (r ∷ rs) e = absurd cc

pub prepared_keeps : (ps : List Prepared) (k : ℕ) (o : Option Range) → prepares_key ps k ≡ false → prepared_under ps k o ≡ o
prepared_keeps [] k o none = refl
prepared_keeps (p ∷ ps) k o none = go (eqb p.key k) none (prepared_keeps ps k o)
  where
    go : (b : Bool) → (b || prepares_key ps k) ≡ false → (prepares_key ps k ≡ false → prepared_under ps k o ≡ o) → cond b (Some p.range) (prepared_under ps k o) ≡ o
    go true e again = absurd (true≢false e)
    go false e again = again e

pub prepared_some : (ps : List Prepared) (k : ℕ) (o : Option Range) → prepares_key ps k ≡ true → prepared_under ps k o ≡ prepared_under ps k None
prepared_some [] k o is = absurd (true≢false (sym is))
prepared_some (p ∷ ps) k o is = go (eqb p.key k) is (prepared_some ps k o)
  where
    go : (b : Bool) → (b || prepares_key ps k) ≡ true → (prepares_key ps k ≡ true → prepared_under ps k o ≡ prepared_under ps k None) →
        cond b (Some p.range) (prepared_under ps k o) ≡ cond b (Some p.range) (prepared_under ps k None)
    go true e again = refl
    go false e again = again e

pub prepared_there : (ps : List Prepared) (k : ℕ) → prepares_key ps k ≡ true → prepared_under ps k None ≡ None → ⊥
prepared_there [] k is none = true≢false (sym is)
prepared_there (p ∷ ps) k is none = go (eqb p.key k) is none (prepared_there ps k)
  where
    go : (b : Bool) → (b || prepares_key ps k) ≡ true → cond b (Some p.range) (prepared_under ps k None) ≡ None → (prepares_key ps k ≡ true → prepared_under ps k None ≡ None → ⊥) → ⊥
    go true e none again = some_none p.range none
    go false e none again = again e none

pub no_region : (o : Option Region) → option_map (λ (r : Region). r.range) o ≡ None → o ≡ None
no_region None e = refl
no_region (Some r) e = absurd (some_none r.range e)

-- a key of added regions is none of the earlier ones
pub own_key : (xs ys : List Region) (k : ℕ) → HaveOwnKeys (xs ++ ys) → (prepared_region ys k ≡ None → ⊥) → prepared_region xs k ≡ None
own_key [] ys k h used = refl
own_key (r ∷ rest) ys k h used = go (has_key k r.holder) refl (own_key rest ys k h.1 used)
  where
    none_left : (xs : List Region) → prepared_region (xs ++ ys) k ≡ None → prepared_region ys k ≡ None
    none_left [] e = e
    none_left (q ∷ qs) e = step (has_key k q.holder) e (none_left qs)
      where
        step : (b : Bool) → cond b (Some q) (prepared_region (qs ++ ys) k) ≡ None → (prepared_region (qs ++ ys) k ≡ None → prepared_region ys k ≡ None) → prepared_region ys k ≡ None
        step true e again = absurd (some_none q e)
        step false e again = again e

    go : (b : Bool) → has_key k r.holder ≡ b → prepared_region rest k ≡ None → cond b (Some r) (prepared_region rest k) ≡ None
    go true is again = absurd (used (none_left rest (h.0 k is)))
    go false is again = again

module _ (s : Start) (past : List Mark) (base new : SpaceState) (m : Mark) (e : Event) (func : ℕ) (args : List ℕ) (ins : List Piece)
    (outs : List Range) (prepared : List Prepared) (h : InCall s past m.thread (parts_of (piece_ranges ins) outs prepared) base new)
    (is : m.act ≡ Made e) (kind : e.kind ≡ Call func args ins outs prepared)
    (keyed : (k : ℕ) → prepares_key prepared k ≡ true → has m (OfKey (key Async k)) ≡ true) where
  abbrev parts : List Part
  parts = parts_of (piece_ranges ins) outs prepared

  abbrev held_byte : ℕ → Bool
  held_byte x = any_range outs x || any_prepared prepared x

  abbrev made : OpenCall
  made = innermost new.held m.thread

  held_at : (x : ℕ) → held_byte x ≡ true → IsFreeAt base x
  held_at x w = free_at base parts x h.free (written_is parts x (written_any (piece_ranges ins) outs prepared x ∙ w))

  value_before : (x : ℕ) → is_held base.held.regions x ≡ false → value_when_held base.held.regions x ≡ None
  value_before x free = unheld base.held.regions x (λ p. true≢false (sym p ∙ free))

  value_added : (x : ℕ) → value_when_held h.regions.added x ≡ cond (held_byte x) (byte_at base.bytes x) None
  value_added x = value_is base.bytes made parts h.regions.added x h.regions.regions ∙ ap (λ b. cond b (byte_at base.bytes x) None) (written_any (piece_ranges ins) outs prepared x)

  regions_are : (x : ℕ) → value_when_held new.held.regions x ≡ value_when_held (base.held.regions ++ h.regions.added) x
  regions_are x = ap (λ rs. value_when_held rs x) h.regions.all

  bytes_are : (x : ℕ) → byte_at new.bytes x ≡ byte_at base.bytes x
  bytes_are x = ap (λ (q : SpaceState). byte_at q.bytes x) h.rest

  call_bytes : (x : ℕ) → is_system x ≡ false → (b : Bool) → held_byte x ≡ b →
      cond b (hold (byte s x past).cell) (byte s x past).cell ≡ cell_of (byte_at base.bytes x) (value_when_held (base.held.regions ++ h.regions.added) x)
  call_bytes x own true w =
      let f = held_at x w in
      let none = value_before x f.free in
      ap hold (h.stands.bytes x own ∙ ap (cell_of (byte_at base.bytes x)) none)
      ∙ hold_cell (byte_at base.bytes x)
      ∙ ap (cell_of (byte_at base.bytes x)) (sym (value_left base.held.regions h.regions.added x none ∙ value_added x ∙ cond-true (held_byte x) (byte_at base.bytes x) None w))
  call_bytes x own false w =
      h.stands.bytes x own
      ∙ ap (cell_of (byte_at base.bytes x)) (sym (value_right base.held.regions h.regions.added x (value_added x ∙ cond-false (held_byte x) (byte_at base.bytes x) None w)))

  -- the calls of a thread
  depth_up : slice_index new.held.depths m.thread ≡ slice_index base.held.depths m.thread + 1
  depth_up =
      ap (λ ds. slice_index ds m.thread) h.depths
      ∙ get_or-set_same base.held.depths m.thread (slice_index base.held.depths m.thread + 1) 0 (omega (arith, h.thread, h.stands.sound.held.threads))

  depth_is : made.depth ≡ suc (length (open_calls (marks_of s m.thread past)))
  depth_is = let d = (h.stands.calls m.thread h.thread).depth in omega (arith, depth_up, d)

  -- in its own thread the call comes on top
  on_top : (d : ℕ) (f : List Region → List Region) (g : run.OpenCall → List Range) (rs : List Range) (c : run.OpenCall) → g c ≡ rs →
      map (λ (r : Region). r.range) (f base.held.regions) ≡ ranges_at g d (open_calls (marks_of s m.thread past)) →
      f new.held.regions ≡ f base.held.regions ++ f h.regions.added →
      map (λ (r : Region). r.range) (f h.regions.added) ≡ cond (is_same_call made (record { thread = m.thread; depth = d })) rs [] →
      map (λ (r : Region). r.range) (f new.held.regions) ≡ ranges_at g d (c ∷ open_calls (marks_of s m.thread past))
  on_top d f g rs c here old_is parts_are added_is = elim (cases_eq d (suc (length (open_calls (marks_of s m.thread past))))) [
    | inl e ↦
        let cs = open_calls (marks_of s m.thread past) in
        let none : f base.held.regions ≡ [] = empty_map (f base.held.regions) (old_is ∙ ranges_past g d cs (omega (arith, e))) in
        let same : is_same_call made (record { thread = m.thread; depth = d }) ≡ true = and_from (eqb m.thread m.thread) (eqb made.depth d) (eq-eqb m.thread m.thread refl) (eq-eqb made.depth d (depth_is ∙ sym e)) in
        ap (map (λ (r : Region). r.range)) (parts_are ∙ ap (λ qs. qs ++ f h.regions.added) none)
        ∙ added_is
        ∙ cond-true (is_same_call made (record { thread = m.thread; depth = d })) rs [] same
        ∙ (sym here ∙ sym (cond-true (eqb d (suc (length cs))) (g c) (ranges_at g d cs) (eq-eqb d (suc (length cs)) e)))
    | inr ne ↦
        let cs = open_calls (marks_of s m.thread past) in
        let other : is_same_call made (record { thread = m.thread; depth = d }) ≡ false = and_right (eqb m.thread m.thread) (eqb made.depth d) (ne_eqb made.depth d (λ q. ne (sym q ∙ depth_is))) in
        let none : f h.regions.added ≡ [] = empty_map (f h.regions.added) (added_is ∙ cond-false (is_same_call made (record { thread = m.thread; depth = d })) rs [] other) in
        ap (map (λ (r : Region). r.range)) (parts_are ∙ ap (λ qs. f base.held.regions ++ qs) none ∙ nil_right (f base.held.regions))
        ∙ old_is
        ∙ sym (cond-false (eqb d (suc (length cs))) (g c) (ranges_at g d cs) (ne_eqb d (suc (length cs)) ne))
  ]
    where
      nil_right : (qs : List Region) → qs ++ [] ≡ qs
      nil_right [] = refl
      nil_right (q ∷ qs) = ap (λ ks. q ∷ ks) (nil_right qs)

  elsewhere : (other : OpenCall) (f : List Region → List Region) (rs : List Range) → (m.thread ≡ other.thread → ⊥) →
      f new.held.regions ≡ f base.held.regions ++ f h.regions.added →
      map (λ (r : Region). r.range) (f h.regions.added) ≡ cond (is_same_call made other) rs [] → f new.held.regions ≡ f base.held.regions
  elsewhere other f rs ne parts_are added_is =
      let apart : is_same_call made other ≡ false = and_left (eqb m.thread other.thread) (eqb made.depth other.depth) (ne_eqb m.thread other.thread ne) in
      let none : f h.regions.added ≡ [] = empty_map (f h.regions.added) (added_is ∙ cond-false (is_same_call made other) rs [] apart) in
      parts_are ∙ ap (λ qs. f base.held.regions ++ qs) none ∙ nil_right (f base.held.regions)
    where
      nil_right : (qs : List Region) → qs ++ [] ≡ qs
      nil_right [] = refl
      nil_right (q ∷ qs) = ap (λ ks. q ∷ ks) (nil_right qs)

  ins_split : (other : OpenCall) → ins_of other new.held.regions ≡ ins_of other base.held.regions ++ ins_of other h.regions.added
  ins_split other = ap (ins_of other) h.regions.all ∙ filter-append (λ (r : Region). is_in_of other r.holder) base.held.regions h.regions.added

  outs_split : (other : OpenCall) → outs_of other new.held.regions ≡ outs_of other base.held.regions ++ outs_of other h.regions.added
  outs_split other = ap (outs_of other) h.regions.all ∙ filter-append (λ (r : Region). is_out_of other r.holder) base.held.regions h.regions.added

  abbrev call : run.OpenCall
  call = record { func = func; args = args; ins = piece_ranges ins; outs = outs }

  own_calls : HoldsFor new.held m.thread (call ∷ open_calls (marks_of s m.thread past))
  own_calls = record {
    depth = depth_is;
    ins = λ d. let o : OpenCall = record { thread = m.thread; depth = d } in on_top d (ins_of o) (λ c. c.ins) (piece_ranges ins) call refl
        ((h.stands.calls m.thread h.thread).ins d) (ins_split o)
        (added_ins base.bytes made (piece_ranges ins) outs prepared h.regions.added h.regions.regions o);
    outs = λ d. let o : OpenCall = record { thread = m.thread; depth = d } in on_top d (outs_of o) (λ c. c.outs) outs call refl
        ((h.stands.calls m.thread h.thread).outs d) (outs_split o)
        (added_outs base.bytes made (piece_ranges ins) outs prepared h.regions.added h.regions.regions o);
  }

  other_calls : (t : ℕ) → (m.thread ≡ t → ⊥) → t < thread_count → HoldsFor new.held t (open_calls (marks_of s t past))
  other_calls t ne lt = record {
    depth = ap (λ ds. slice_index ds t) h.depths ∙ get_or-set_other base.held.depths m.thread t (slice_index base.held.depths m.thread + 1) 0 (λ q. ne (sym q)) ∙ (h.stands.calls t lt).depth;
    ins = λ d. let o : OpenCall = record { thread = t; depth = d } in ap (map (λ (r : Region). r.range))
        (elsewhere o (ins_of o) (piece_ranges ins) ne (ins_split o)
        (added_ins base.bytes made (piece_ranges ins) outs prepared h.regions.added h.regions.regions o)) ∙ (h.stands.calls t lt).ins d;
    outs = λ d. let o : OpenCall = record { thread = t; depth = d } in ap (map (λ (r : Region). r.range))
        (elsewhere o (outs_of o) outs ne (outs_split o)
        (added_outs base.bytes made (piece_ranges ins) outs prepared h.regions.added h.regions.regions o)) ∙ (h.stands.calls t lt).outs d;
  }

  calls_now : open_calls (marks_of s m.thread (m ∷ past)) ≡ call ∷ open_calls (marks_of s m.thread past)
  calls_now = calls_own s m past ∙ ap (λ a. act_calls a (open_calls (marks_of s m.thread past))) is ∙ ap (λ k. calls_after k (open_calls (marks_of s m.thread past))) kind

  calls_are : (t : ℕ) → t < thread_count → HoldsFor new.held t (open_calls (marks_of s t (m ∷ past)))
  calls_are t lt = elim (cases_eq m.thread t) [
    | inl q ↦ subst (λ u. HoldsFor new.held u (open_calls (marks_of s u (m ∷ past)))) q (subst (HoldsFor new.held m.thread) (sym calls_now) own_calls)
    | inr ne ↦ subst (HoldsFor new.held t) (sym (calls_other s m past t ne)) (other_calls t ne lt)
  ]

  -- the keys
  keys_all : HaveOwnKeys (base.held.regions ++ h.regions.added)
  keys_all = subst HaveOwnKeys h.regions.all h.held.keys

  pub no_key : (k : ℕ) → prepares_key prepared k ≡ true → prepared_region base.held.regions k ≡ None
  no_key k used = own_key base.held.regions h.regions.added k keys_all
      (λ none. prepared_there prepared k used
      (sym (added_key base.bytes made (piece_ranges ins) outs prepared h.regions.added h.regions.regions k) ∙ ap
      (option_map (λ (r : Region). r.range)) none))

  abbrev before_key : ℕ → Option Range
  before_key k = in_use s k past

  use_is : (k : ℕ) (o : Option Range) → act_use k m.act o ≡ prepared_under prepared k o
  use_is k o = ap (λ a. act_use k a o) is ∙ ap (λ q. use_after k q o) kind

  keys_are : (k : ℕ) → option_map (λ (r : Region). r.range) (prepared_region new.held.regions k) ≡ in_use s k (m ∷ past)
  keys_are k = ap (λ rs. option_map (λ (r : Region). r.range) (prepared_region rs k)) h.regions.all ∙ elim (cases_Bool (prepares_key prepared k)) [
    | inl used ↦
        ap (option_map (λ (r : Region). r.range)) (prepared_left base.held.regions h.regions.added k (no_key k used))
        ∙ added_key base.bytes made (piece_ranges ins) outs prepared h.regions.added h.regions.regions k
        ∙ sym (keys_more s m past k ∙ cond-true (has m (OfKey (key Async k))) (act_use k m.act (before_key k)) (before_key k) (keyed k used) ∙ use_is k (before_key k) ∙ prepared_some prepared k (before_key k) used)
    | inr unused ↦
        let none : prepared_region h.regions.added k ≡ None = no_region (prepared_region h.regions.added k)
        (added_key base.bytes made (piece_ranges ins) outs prepared h.regions.added h.regions.regions k ∙
        prepared_keeps prepared k None unused) in
        ap (option_map (λ (r : Region). r.range)) (prepared_right base.held.regions h.regions.added k none)
        ∙ h.stands.keys k
        ∙ sym (keys_more s m past k ∙ stay s m past (has m (OfKey (key Async k))) (act_use k m.act (before_key k)) (before_key k) (use_is k (before_key k) ∙ prepared_keeps prepared k (before_key k) unused))
  ]

  same_frames : (t : ℕ) → run.frames (marks_of s t (m ∷ past)) ≡ run.frames (marks_of s t past)
  same_frames t = frames_stay s m past (λ fs. ap (λ a. frames_after a fs) is) t

  same_blocks : blocks s (m ∷ past) ≡ blocks s past
  same_blocks = blocks_stay s m past (λ bs. ap (λ a. act_blocks a bs) is ∙ ap (λ k. blocks_after k bs) kind)

  same_side : new.sides.replay ≡ base.sides.replay
  same_side = ap (λ (q : SpaceState). q.sides.replay) h.rest

  none_system : (x : ℕ) → is_system x ≡ true → held_byte x ≡ false
  none_system x is' = elim (cases_Bool (held_byte x)) [ inl w ↦ absurd (true≢false (sym is' ∙ (held_at x w).own)) | inr not ↦ not ]

  none_of_none : (b : Bool) → ◌≡◌ {A = Option ℕ} (cond b None None) None
  none_of_none true = refl
  none_of_none false = refl

  call_sound : IsSound s (m ∷ past) new
  call_sound = record {
    ends = λ x last. bytes_are x ∙ h.stands.sound.ends x last;
    unheld = λ x dead.
        let was : byte_at base.bytes x ≡ None = sym (bytes_are x) ∙ dead in
        regions_are x ∙ value_left base.held.regions h.regions.added x (h.stands.sound.unheld x was) ∙ value_added x ∙ ap (λ b. cond (held_byte x) b None) was ∙ none_of_none (held_byte x);
    own = λ x is'. regions_are x ∙ value_left base.held.regions h.regions.added x (h.stands.sound.own x is') ∙ value_added x ∙ cond-false (held_byte x) (byte_at base.bytes x) None (none_system x is');
    inside = λ x a b c. bytes_are x ∙ h.stands.sound.inside x a b c;
    below = subst IsBelow (ap (λ (q : SpaceState). q.sides.system) (sym h.rest)) h.stands.sound.below;
    held = h.held;
    stacked = λ t lt. subst (AreStacked (stack Replay t)) (sym (same_frames t)) (h.stands.sound.stacked t lt);
    frames_live = λ t lt x in'. ap is_some (bytes_are x) ∙ h.stands.sound.frames_live t lt x in' ∙ ap (λ fs. any_range fs x) (sym (same_frames t));
    laid_out = subst (λ bs. LieBetween replay_pool (replay_pool + pool_size) (by_address bs)) (sym same_blocks) h.stands.sound.laid_out;
    blocks_live = λ x in'. ap is_some (bytes_are x) ∙ h.stands.sound.blocks_live x in' ∙ ap (λ bs. any_range bs x) (sym same_blocks);
  }

  pub call_stands : StandsFor s (m ∷ past) new
  call_stands = record {
    bytes = λ x own.
        ap (λ a. cell_after a x (byte s x past).cell) is
        ∙ ap (λ k. event_leaves k x (byte s x past).cell) kind
        ∙ call_bytes x own (held_byte x) refl
        ∙ ap (λ b. cell_of b (value_when_held (base.held.regions ++ h.regions.added) x)) (sym (bytes_are x))
        ∙ ap (cell_of (byte_at new.bytes x)) (sym (regions_are x));
    begins = λ x own. ap (λ a. block_after a x (byte s x past).block) is ∙ ap (λ k. event_block k x (byte s x past).block) kind ∙ h.stands.begins x own ∙ ap (λ (k : SideState). unwrap_or (length_at k.pool.blocks x) 0) (sym same_side);
    stacks = λ t lt. ap (λ (k : SideState). stack_of k.stacks t) same_side ∙ h.stands.stacks t lt ∙ ap (stack_with t) (sym (same_frames t));
    pool = ap (λ (k : SideState). k.pool) same_side ∙ h.stands.pool ∙ ap pool_with (sym same_blocks);
    calls = calls_are;
    keys = keys_are;
    sound = call_sound;
  }
