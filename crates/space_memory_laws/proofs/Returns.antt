-- A release is a Ret.
use Rattle.std.proofs.Common.{◌≡◌, ℕ, suc, ◌+◌, ◌-◌, ◌<◌, Bool, true, false, cond, eqb, not, List, [], ◌∷◌, ◌++◌, length, map, Option, Some, None, is_some, inl, inr, refl, ap, sym, ◌∙◌, subst, arith, All, get_or-set_same, get_or-set_other}
use Rattle.std.specs.Prelude.{slice_index, slice_set, option_map, unwrap_or}
use Rattle.std.specs.List.{list_any}
use Rattle.std.specs.Option.{option_to_list}
use Rattle.std.proofs.lemmas.Bool.{cases_Bool, cases_eq, true≢false, cond-true, cond-false, eq-eqb, ne_eqb, eqb-true, and_left, and_right}
use Rattle.std.proofs.lemmas.List.{map-append, length-set}
use Rattle.run_events.specs.declared.key.Class.TheVariants.{Async}
use Rattle.marks.specs.declared.side.Side.TheVariants.{Replay}
use Rattle.marks.specs.Places.{thread_count, stack, replay_pool, pool_size, is_system}
use Rattle.marks.specs.declared.range.Range.{Range}
use Rattle.marks.specs.Ranges.{Piece, any_range, piece_ranges, covers}
use Rattle.marks.specs.Marks.{Commit, NoRegion, Withheld, Released, released, Ret, Event, Made, Mark}
use Rattle.marks.specs.Bytes.{EventAsks, Asks, give_any, event_leaves, cell_after, event_block, block_after}
use Rattle.space_memory_bytes.specs.Areas.{byte_at}
use Rattle.space_memory.specs.StackFrames.{stack_of}
use Rattle.pool_list.specs.Blocks.{length_at, LieBetween}
use Rattle.space_memory_access.specs.declared.holder.OpenCall.{OpenCall}
use Rattle.space_memory_access.specs.declared.holder.Region.{Region}
use Rattle.space_memory_access.specs.declared.holder.Holder.{Holder}
use Rattle.space_memory_access.specs.declared.holder.Holder.TheVariants.{In, Out, Key}
use Rattle.space_memory_access.specs.Holders.{is_same_call, has_key, outlives}
use Rattle.space_memory_access.specs.Held.{HeldState, innermost, prepared_region, without_closed}
use Rattle.replay_runs.specs.Runs.{Start, OfKey, has, marks_of, byte}
use Rattle.replay_runs.specs.Keys.{key}
use Rattle.replay_runs.specs.Threads.{tail, frames_after, calls_after, act_calls, open_calls}
use Rattle.replay_runs.specs.Threads as run
use Rattle.replay_runs.specs.Pool.{blocks, act_blocks, blocks_after, commit_leaves, use_after, act_use, in_use}
use Rattle.replay_runs.specs.Rules.{Closes}
use Rattle.replay_runs.specs.Returns.{ReleasesInUse}
use Rattle.space_memory.specs.Sides.{SideState}
use Rattle.space_memory.specs.Spaces.{SpaceState, IsWhole}
use Rattle.space_memory.specs.Releases.{outs_of, committed, committed_key, committed_size, AllReturned}
use Rattle.space_memory_laws.specs.Shown.{value_when_held, cell_of, stack_with, pool_with, by_address, ranges_at, ins_of}
use Rattle.space_memory_laws.specs.Held.{AreApart, HaveOwnKeys, has_region, AreHeld}
use Rattle.space_memory_laws.specs.Sound.{AreStacked, IsBelow, IsSound}
use Rattle.space_memory_laws.specs.StandsFor.{HoldsFor, StandsFor}
use Rattle.space_memory_laws.specs.Returns.{ShowUsed, CommitsAs, IsRet, ReturnsAreMarks}
use Rattle.space_memory_laws.proofs.Backs.{frames_stay, blocks_stay, calls_own, calls_other, keys_more, stay}
use Rattle.space_memory_laws.proofs.Regions.{some_none}
use Rattle.space_memory_laws.proofs.Calls.{ranges_past}
use Rattle.space_memory_laws.proofs.Closed.{goes_at, value_kept, value_gone, apart_kept, keys_kept, whole_kept, owned_kept, owned_gone, ins_kept, outs_kept, ins_gone, outs_gone, key_kept, key_gone}
use Rattle.space_memory_laws.proofs.Gone.{gone_any, gone_waiting, given, untouched, all_fit}

-- an open call that is there is the innermost one, with what it reads and holds
pub record IsClosed (cs : List run.OpenCall) (ranges : List Range) : Type 0 where
  pub top : run.OpenCall
  pub below : List run.OpenCall
  pub is : cs ≡ top ∷ below
  pub outs : ranges ≡ top.outs

pub closing : (cs : List run.OpenCall) (func : ℕ) (args : List ℕ) (ranges : List Range) → Closes cs func args ranges → IsClosed cs ranges
closing [] func args ranges h = absurd h
closing (c ∷ cs) func args ranges h = record { top = c; below = cs; is = refl; outs = h.2 }

-- a region that is committed is that of its piece
committed_ranges : (m : Mark) (held : HeldState) (c : Option (ℕ × ℕ)) (commit : Commit) → CommitsAs m held c commit →
    map (λ (r : Region). r.range) (committed held.regions c) ≡ piece_ranges (released commit)
committed_ranges m held None commit h = sym (ap piece_ranges h)
committed_ranges m held (Some c) (Released j p) h = one (prepared_region held.regions c.0) (ap (λ z. option_map (λ (r : Region). r.range) (prepared_region held.regions z)) (sym h.1) ∙ h.0)
  where
    one : (o : Option Region) → option_map (λ (r : Region). r.range) o ≡ Some p.range → map (λ (r : Region). r.range) (option_to_list o) ≡ p.range ∷ []
    one None e = absurd (some_none p.range (sym e))
    one (Some r) e = let same : r.range ≡ p.range = inside r.range p.range e in ap (λ q. q ∷ []) same
      where
        inside : (a b : Range) → ◌≡◌ {A = Option Range} (Some a) (Some b) → a ≡ b
        inside a b e = cc
committed_ranges m held (Some c) NoRegion h = absurd h
committed_ranges m held (Some c) Withheld h = absurd h

piece_ranges_append : (ps qs : List Piece) → piece_ranges (ps ++ qs) ≡ piece_ranges ps ++ piece_ranges qs
piece_ranges_append ps qs = map-append (λ (p : Piece). p.range) ps qs

pub record Returning (s : Start) (past : List Mark) (old new : SpaceState) (m : Mark) (e : Event) (func : ℕ) (args : List ℕ) (result : ℕ)
    (same : Bool) (pieces : List Piece) (commit : Commit) (used : List ℕ) (c : Option (ℕ × ℕ)) : Type 0 where
  pub h : StandsFor s past old
  pub lt : m.thread < thread_count
  pub regions : new.held.regions ≡ without_closed (innermost old.held m.thread) (committed_key c) old.held.regions
  pub depths : new.held.depths ≡ slice_set old.held.depths m.thread (slice_index old.held.depths m.thread - 1)
  pub rest : new ≡ record old { held = new.held }
  pub filled : AllReturned old.bytes old.held.regions (innermost old.held m.thread) used c
  pub is : m.act ≡ Made e
  pub kind : e.kind ≡ Ret func args result same pieces commit
  pub closes : IsClosed (open_calls (marks_of s m.thread past)) (piece_ranges pieces)
  pub commits : CommitsAs m old.held c commit
  pub shows : ShowUsed old.bytes (pieces ++ released commit) (used ++ committed_size c)

module _ (s : Start) (past : List Mark) (old new : SpaceState) (m : Mark) (e : Event) (func : ℕ) (args : List ℕ) (result : ℕ) (same : Bool)
    (pieces : List Piece) (commit : Commit) (used : List ℕ) (c : Option (ℕ × ℕ))
    (k : Returning s past old new m e func args result same pieces commit used c) where
  abbrev call : OpenCall
  call = innermost old.held m.thread

  abbrev cs : List run.OpenCall
  cs = open_calls (marks_of s m.thread past)

  abbrev gone : List Region
  gone = outs_of call old.held.regions ++ committed old.held.regions c

  abbrev all_pieces : List Piece
  all_pieces = pieces ++ released commit

  held : AreHeld old.held
  held = k.h.sound.held

  depth_is : slice_index old.held.depths m.thread ≡ suc (length k.closes.below)
  depth_is = (k.h.calls m.thread k.lt).depth ∙ ap length k.closes.is

  depth_now : slice_index new.held.depths m.thread ≡ length k.closes.below
  depth_now =
      let down = get_or-set_same old.held.depths m.thread (slice_index old.held.depths m.thread - 1) 0 (omega (arith, k.lt, held.threads)) in
      ap (λ ds. slice_index ds m.thread) k.depths ∙ down ∙ omega (arith, depth_is)

  out_ranges : map (λ (r : Region). r.range) (outs_of call old.held.regions) ≡ piece_ranges pieces
  out_ranges =
      (k.h.calls m.thread k.lt).outs (slice_index old.held.depths m.thread)
      ∙ ap (λ qs. ranges_at (λ c. c.outs) (slice_index old.held.depths m.thread) qs) k.closes.is
      ∙ (cond-true (eqb (slice_index old.held.depths m.thread) (suc (length k.closes.below))) k.closes.top.outs
      (ranges_at (λ c. c.outs) (slice_index old.held.depths m.thread) k.closes.below)
      (eq-eqb (slice_index old.held.depths m.thread) (suc (length k.closes.below)) depth_is) ∙ sym k.closes.outs)

  gone_ranges : map (λ (r : Region). r.range) gone ≡ piece_ranges all_pieces
  gone_ranges =
      map-append (λ (r : Region). r.range) (outs_of call old.held.regions) (committed old.held.regions c)
      ∙ ap (λ qs. qs ++ map (λ (r : Region). r.range) (committed old.held.regions c)) out_ranges
      ∙ ap (λ qs. piece_ranges pieces ++ qs) (committed_ranges m old.held c commit k.commits)
      ∙ sym (piece_ranges_append pieces (released commit))

  abbrev gone_at : ℕ → Bool
  gone_at x = list_any (λ (r : Region). covers r.range x) gone

  goes_is : (x : ℕ) → list_any (goes_at call (committed_key c) x) old.held.regions ≡ gone_at x
  goes_is x = gone_any call c old.held.regions x held.keys

  value_now : (x : ℕ) → value_when_held new.held.regions x ≡ value_when_held (without_closed call (committed_key c) old.held.regions) x
  value_now x = ap (λ rs. value_when_held rs x) k.regions

  bytes_are : (x : ℕ) → byte_at new.bytes x ≡ byte_at old.bytes x
  bytes_are x = ap (λ (q : SpaceState). byte_at q.bytes x) k.rest

  ret_bytes : (x : ℕ) → is_system x ≡ false → give_any all_pieces x (byte s x past).cell ≡ cell_of (byte_at old.bytes x) (value_when_held (without_closed call (committed_key c) old.held.regions) x)
  ret_bytes x own = ap (give_any all_pieces x) (k.h.bytes x own) ∙ elim (cases_Bool (gone_at x)) [
    | inl goes ↦
        given old.bytes old.held.regions gone all_pieces (used ++ committed_size c) x gone_ranges k.shows k.filled (gone_waiting call c old.held.regions held.apart held.whole held.keys) goes
        ∙ ap (cell_of (byte_at old.bytes x)) (sym (value_gone call (committed_key c) x old.held.regions held.apart (goes_is x ∙ goes)))
    | inr stays ↦
        untouched old.bytes old.held.regions gone all_pieces x (cell_of (byte_at old.bytes x) (value_when_held old.held.regions x)) gone_ranges stays
        ∙ ap (cell_of (byte_at old.bytes x)) (sym (value_kept call (committed_key c) x old.held.regions (goes_is x ∙ stays)))
  ]

  unheld_now : (x : ℕ) → value_when_held old.held.regions x ≡ None → value_when_held (without_closed call (committed_key c) old.held.regions) x ≡ None
  unheld_now x none = elim (cases_Bool (gone_at x)) [
    | inl goes ↦ value_gone call (committed_key c) x old.held.regions held.apart (goes_is x ∙ goes)
    | inr stays ↦ value_kept call (committed_key c) x old.held.regions (goes_is x ∙ stays) ∙ none
  ]

  -- the calls that stay open
  abbrev at_depth : ℕ → OpenCall
  at_depth d = record { thread = m.thread; depth = d }

  left : (d : ℕ) (g : run.OpenCall → List Range) (f : List Region → List Region) →
      map (λ (r : Region). r.range) (f old.held.regions) ≡ ranges_at g d cs →
      (is_same_call call (at_depth d) ≡ false → map (λ (r : Region). r.range) (f (without_closed call (committed_key c) old.held.regions)) ≡ map (λ (r : Region). r.range) (f old.held.regions)) →
      (d ≡ call.depth → f (without_closed call (committed_key c) old.held.regions) ≡ []) →
      map (λ (r : Region). r.range) (f new.held.regions) ≡ ranges_at g d k.closes.below
  left d g f was stays goes = ap (λ rs. map (λ (r : Region). r.range) (f rs)) k.regions ∙ elim (cases_eq d call.depth) [
    | inl q ↦
        ap (map (λ (r : Region). r.range)) (goes q)
        ∙ sym (ranges_past g d k.closes.below (omega (arith, q, depth_is)))
    | inr ne ↦
        let other : is_same_call call (at_depth d) ≡ false = and_right (eqb m.thread m.thread) (eqb call.depth d) (ne_eqb call.depth d (λ q. ne (sym q))) in
        stays other
        ∙ was
        ∙ ap (λ qs. ranges_at g d qs) k.closes.is
        ∙ cond-false (eqb d (suc (length k.closes.below))) (g k.closes.top) (ranges_at g d k.closes.below) (ne_eqb d (suc (length k.closes.below)) (λ q. ne (q ∙ sym depth_is)))
  ]

  own_calls : HoldsFor new.held m.thread k.closes.below
  own_calls = record {
    depth = depth_now;
    ins = λ d. left d (λ c. c.ins) (ins_of (at_depth d)) ((k.h.calls m.thread k.lt).ins d)
        (λ other. ins_kept call (committed_key c) (at_depth d) other old.held.regions)
        (λ q. ap (λ n. ins_of (at_depth n) (without_closed call (committed_key c) old.held.regions)) q ∙ ins_gone call
        (committed_key c) old.held.regions);
    outs = λ d. left d (λ c. c.outs) (outs_of (at_depth d)) ((k.h.calls m.thread k.lt).outs d)
        (λ other. outs_kept call (committed_key c) (at_depth d) other old.held.regions)
        (λ q. ap (λ n. outs_of (at_depth n) (without_closed call (committed_key c) old.held.regions)) q ∙ outs_gone call
        (committed_key c) old.held.regions);
  }

  other_calls : (t : ℕ) → (m.thread ≡ t → ⊥) → t < thread_count → HoldsFor new.held t (open_calls (marks_of s t past))
  other_calls t ne lt = record {
    depth = ap (λ ds. slice_index ds t) k.depths ∙ get_or-set_other old.held.depths m.thread t (slice_index old.held.depths m.thread - 1) 0 (λ q. ne (sym q)) ∙ (k.h.calls t lt).depth;
    ins = λ d. let o : OpenCall = record { thread = t; depth = d } in ap (λ rs. map (λ (r : Region). r.range) (ins_of o rs)) k.regions ∙ ins_kept call (committed_key c) o (apart d) old.held.regions ∙ (k.h.calls t lt).ins d;
    outs = λ d. let o : OpenCall = record { thread = t; depth = d } in ap (λ rs. map (λ (r : Region). r.range) (outs_of o rs)) k.regions ∙ outs_kept call (committed_key c) o (apart d) old.held.regions ∙ (k.h.calls t lt).outs d;
  }
    where
      apart : (d : ℕ) → is_same_call call (record { thread = t; depth = d }) ≡ false
      apart d = and_left (eqb m.thread t) (eqb call.depth d) (ne_eqb m.thread t ne)

  calls_now : open_calls (marks_of s m.thread (m ∷ past)) ≡ k.closes.below
  calls_now = calls_own s m past ∙ ap (λ a. act_calls a cs) k.is ∙ ap (λ q. calls_after q cs) k.kind ∙ ap tail k.closes.is

  calls_are : (t : ℕ) → t < thread_count → HoldsFor new.held t (open_calls (marks_of s t (m ∷ past)))
  calls_are t lt = elim (cases_eq m.thread t) [
    | inl q ↦ subst (λ u. HoldsFor new.held u (open_calls (marks_of s u (m ∷ past)))) q (subst (HoldsFor new.held m.thread) (sym calls_now) own_calls)
    | inr ne ↦ subst (HoldsFor new.held t) (sym (calls_other s m past t ne)) (other_calls t ne lt)
  ]

  -- the keys
  abbrev use_before : ℕ → Option Range
  use_before j = in_use s j past

  use_is : (j : ℕ) (o : Option Range) → act_use j m.act o ≡ commit_leaves j commit o
  use_is j o = ap (λ a. act_use j a o) k.is ∙ ap (λ q. use_after j q o) k.kind

  abbrev shown_range : List Region → ℕ → Option Range
  shown_range rs j = option_map (λ (r : Region). r.range) (prepared_region rs j)

  keys_from : (committing : Option (ℕ × ℕ)) (was : Commit) → CommitsAs m old.held committing was → (j : ℕ) →
      shown_range (without_closed call (committed_key committing) old.held.regions) j ≡ cond (has m (OfKey (key Async j))) (commit_leaves j was (use_before j)) (use_before j)
  keys_from None was as' j =
      key_kept call None j none_dies old.held.regions
      ∙ k.h.keys j
      ∙ sym (stay s m past (has m (OfKey (key Async j))) (commit_leaves j was (use_before j)) (use_before j) (nothing was as'))
    where
      none_dies : (h : Holder) → has_key j h ≡ true → outlives call None h ≡ true
      none_dies (In o) is = absurd (true≢false (sym is))
      none_dies (Out o) is = absurd (true≢false (sym is))
      none_dies (Key q by) is = refl

      nothing : (was : Commit) → released was ≡ [] → commit_leaves j was (use_before j) ≡ use_before j
      nothing NoRegion e = refl
      nothing Withheld e = refl
      nothing (Released i p) e = absurd cc
  keys_from (Some q) NoRegion as' j = absurd as'
  keys_from (Some q) Withheld as' j = absurd as'
  keys_from (Some q) (Released i p) as' j = elim (cases_eq j q.0) [
    | inl e ↦
        let same : i ≡ j = as'.1 ∙ sym e in
        ap (option_map (λ (r : Region). r.range)) (key_gone call (Some q.0) j (dies e) old.held.regions)
        ∙ sym (cond-true (has m (OfKey (key Async j))) (cond (eqb i j) None (use_before j)) (use_before j) (ap (λ z. has m (OfKey (key Async z))) (sym same) ∙ as'.2) ∙ cond-true (eqb i j) None (use_before j) (eq-eqb i j same))
    | inr ne ↦
        key_kept call (Some q.0) j (lives ne) old.held.regions
        ∙ k.h.keys j
        ∙ sym (stay s m past (has m (OfKey (key Async j))) (cond (eqb i j) None (use_before j)) (use_before j) (cond-false (eqb i j) None (use_before j) (ne_eqb i j (λ z. ne (sym z ∙ as'.1)))))
  ]
    where
      dies : j ≡ q.0 → (h : Holder) → has_key j h ≡ true → outlives call (Some q.0) h ≡ false
      dies e (In o) is = absurd (true≢false (sym is))
      dies e (Out o) is = absurd (true≢false (sym is))
      dies e (Key i by) is = ap not (eq-eqb q.0 i (sym e ∙ sym (eqb-true i j is)))

      lives : (j ≡ q.0 → ⊥) → (h : Holder) → has_key j h ≡ true → outlives call (Some q.0) h ≡ true
      lives ne (In o) is = absurd (true≢false (sym is))
      lives ne (Out o) is = absurd (true≢false (sym is))
      lives ne (Key i by) is = ap not (ne_eqb q.0 i (λ e. ne (sym (eqb-true i j is) ∙ sym e)))

  keys_are : (j : ℕ) → shown_range new.held.regions j ≡ in_use s j (m ∷ past)
  keys_are j =
      ap (λ rs. shown_range rs j) k.regions
      ∙ keys_from c commit k.commits j
      ∙ ap (λ o. cond (has m (OfKey (key Async j))) o (use_before j)) (sym (use_is j (use_before j)))
      ∙ sym (keys_more s m past j)

  -- what holds of what is held
  same_call : (other : OpenCall) → other.thread ≡ m.thread → other.depth ≡ call.depth → call ≡ other
  same_call other t d = both m.thread other.thread call.depth other.depth (sym t) (sym d)
    where
      both : (a b x y : ℕ) → a ≡ b → x ≡ y → ◌≡◌ {A = OpenCall} (record { thread = a; depth = x }) (record { thread = b; depth = y })
      both a b x y p q = cc

  owned_now : (other : OpenCall) → (other.thread < thread_count → slice_index new.held.depths other.thread < other.depth) →
      has_region other (without_closed call (committed_key c) old.held.regions) ≡ false
  owned_now other lt = elim (cases_eq other.thread m.thread) [
    | inr ne ↦ owned_kept call (committed_key c) other old.held.regions
        (held.owned other
        (λ in'. (let few = lt in' in let o = ap (λ ds. slice_index ds other.thread) k.depths ∙
        get_or-set_other old.held.depths m.thread other.thread (slice_index old.held.depths m.thread - 1) 0 ne in omega (arith, o, few))))
    | inl t ↦ elim (cases_eq other.depth call.depth) [
      | inl d ↦ subst (λ o. has_region o (without_closed call (committed_key c) old.held.regions) ≡ false) (same_call other t d) (owned_gone call (committed_key c) old.held.regions)
      | inr ne ↦
          let now : slice_index new.held.depths other.thread ≡ length k.closes.below = ap (slice_index new.held.depths) t ∙ depth_now in
          let was : slice_index old.held.depths other.thread ≡ suc (length k.closes.below) = ap (slice_index old.held.depths) t ∙ depth_is in
          let few = lt (omega (arith, t, k.lt)) in
          owned_kept call (committed_key c) other old.held.regions (held.owned other (λ in'. deeper other.depth (slice_index old.held.depths other.thread) (length k.closes.below) was (omega (arith, now, few)) (λ q. ne (q ∙ sym depth_is))))
    ]
  ]
    where
      deeper : (d o n : ℕ) → o ≡ suc n → n < d → (d ≡ suc n → ⊥) → o < d
      deeper d o n is lt ne = elim (cases_eq d (suc n)) [ inl q ↦ absurd (ne q) | inr other ↦ omega (arith, is, lt, other) ]

  held_now : AreHeld new.held
  held_now = record {
    threads = ap length k.depths ∙ length-set old.held.depths m.thread (slice_index old.held.depths m.thread - 1) ∙ held.threads;
    whole = subst (All IsWhole) (sym k.regions) (whole_kept call (committed_key c) old.held.regions held.whole);
    apart = subst AreApart (sym k.regions) (apart_kept call (committed_key c) old.held.regions held.apart);
    keys = subst HaveOwnKeys (sym k.regions) (keys_kept call (committed_key c) old.held.regions held.keys);
    owned = λ other lt. ap (has_region other) k.regions ∙ owned_now other lt;
  }

  same_frames : (t : ℕ) → run.frames (marks_of s t (m ∷ past)) ≡ run.frames (marks_of s t past)
  same_frames t = frames_stay s m past (λ fs. ap (λ a. frames_after a fs) k.is) t

  same_blocks : blocks s (m ∷ past) ≡ blocks s past
  same_blocks = blocks_stay s m past (λ bs. ap (λ a. act_blocks a bs) k.is ∙ ap (λ q. blocks_after q bs) k.kind)

  same_side : new.sides.replay ≡ old.sides.replay
  same_side = ap (λ (q : SpaceState). q.sides.replay) k.rest

  ret_sound : IsSound s (m ∷ past) new
  ret_sound = record {
    ends = λ x last. bytes_are x ∙ k.h.sound.ends x last;
    unheld = λ x dead. value_now x ∙ unheld_now x (k.h.sound.unheld x (sym (bytes_are x) ∙ dead));
    own = λ x is'. value_now x ∙ unheld_now x (k.h.sound.own x is');
    inside = λ x a b c. bytes_are x ∙ k.h.sound.inside x a b c;
    below = subst IsBelow (ap (λ (q : SpaceState). q.sides.system) (sym k.rest)) k.h.sound.below;
    held = held_now;
    stacked = λ t lt. subst (AreStacked (stack Replay t)) (sym (same_frames t)) (k.h.sound.stacked t lt);
    frames_live = λ t lt x in'. ap is_some (bytes_are x) ∙ k.h.sound.frames_live t lt x in' ∙ ap (λ fs. any_range fs x) (sym (same_frames t));
    laid_out = subst (λ bs. LieBetween replay_pool (replay_pool + pool_size) (by_address bs)) (sym same_blocks) k.h.sound.laid_out;
    blocks_live = λ x in'. ap is_some (bytes_are x) ∙ k.h.sound.blocks_live x in' ∙ ap (λ bs. any_range bs x) (sym same_blocks);
  }

  ret_stands : StandsFor s (m ∷ past) new
  ret_stands = record {
    bytes = λ x own.
        ap (λ a. cell_after a x (byte s x past).cell) k.is
        ∙ ap (λ q. event_leaves q x (byte s x past).cell) k.kind
        ∙ ret_bytes x own
        ∙ ap (λ b. cell_of b (value_when_held (without_closed call (committed_key c) old.held.regions) x)) (sym (bytes_are x))
        ∙ ap (cell_of (byte_at new.bytes x)) (sym (value_now x));
    begins = λ x own. ap (λ a. block_after a x (byte s x past).block) k.is ∙ ap (λ q. event_block q x (byte s x past).block) k.kind ∙ k.h.begins x own ∙ ap (λ (q : SideState). unwrap_or (length_at q.pool.blocks x) 0) (sym same_side);
    stacks = λ t lt. ap (λ (q : SideState). stack_of q.stacks t) same_side ∙ k.h.stacks t lt ∙ ap (stack_with t) (sym (same_frames t));
    pool = ap (λ (q : SideState). q.pool) same_side ∙ k.h.pool ∙ ap pool_with (sym same_blocks);
    calls = calls_are;
    keys = keys_are;
    sound = ret_sound;
  }

  used_key : (committing : Option (ℕ × ℕ)) (was : Commit) → CommitsAs m old.held committing was → ReleasesInUse s past was
  used_key committing NoRegion as' = tt
  used_key committing Withheld as' = tt
  used_key None (Released j p) as' = absurd cc
  used_key (Some q) (Released j p) as' = sym (k.h.keys j) ∙ as'.0

  pub ret_made : IsRet s past m pieces c commit new
  ret_made = record {
    mark = record {
      asks = subst (λ a. Asks a (λ x. byte s x past)) (sym k.is) (λ x. subst (λ q. EventAsks q x (byte s x past)) (sym k.kind) tt);
      stands = ret_stands;
    };
    fits = all_fit old.bytes old.held.regions gone all_pieces (used ++ committed_size c) gone_ranges k.shows k.filled;
    in_use = used_key c commit k.commits;
  }

pub returns : ReturnsAreMarks
returns s past old new m func args pieces commit used c h lt done of =
    ret_made s past old new m of.event func args of.result of.same pieces commit used c (record {
      h = h;
      lt = lt;
      regions = done.regions;
      depths = done.depths;
      rest = done.rest;
      filled = done.returned;
      is = of.act;
      kind = of.kind;
      closes = closing (open_calls (marks_of s m.thread past)) func args (piece_ranges pieces) of.closes;
      commits = of.commits;
      shows = of.shows;
    })
