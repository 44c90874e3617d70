-- The parts of a Call that is being made.
use Rattle.std.proofs.Common.{◌≡◌, ℕ, zero, suc, ◌+◌, ◌-◌, ◌^◌, ◌<◌, Bool, true, false, cond, eqb, not, ◌||◌, List, [], ◌∷◌, ◌++◌, length, Option, Some, None, inl, inr, refl, ap, sym, ◌∙◌, subst, arith, get_or-set_same, get_or-set_other}
use Rattle.std.specs.Prelude.{slice_index, slice_set}
use Rattle.std.proofs.lemmas.Bool.{cases_Bool, cases_eq, true≢false, cond-true, cond-false, eqb-true, eq-eqb, ne_eqb, and_parts, and_from, and_left, and_right}
use Rattle.std.proofs.lemmas.List.{append-nil, append_assoc, length-set, set-get_or}
use Rattle.std.proofs.lemmas.List.Elements.{All-append, All-cons, All-nil, filter-append}
use Rattle.std.proofs.lemmas.List.Folds.{list_any-append}
use Rattle.marks.specs.declared.side.Side.TheVariants.{Replay}
use Rattle.marks.specs.Places.{thread_count, is_constant}
use Rattle.marks.specs.declared.range.Range.{Range}
use Rattle.marks.specs.Ranges.{covers, IsInRange}
use Rattle.marks.specs.Marks.{Mark}
use Rattle.space_memory_bytes.specs.Areas.{AreaState, byte_at}
use Rattle.space_memory_access.specs.declared.holder.OpenCall.{OpenCall}
use Rattle.space_memory_access.specs.declared.holder.Region.{Region}
use Rattle.space_memory_access.specs.declared.holder.Holder.TheVariants.{In, Out, Key}
use Rattle.space_memory_access.specs.Holders.{is_pending, is_of, has_key, is_same_call}
use Rattle.space_memory_access.specs.Held.{HeldState, innermost, without_call, prepared_region}
use Rattle.space_memory_access.specs.declared.access.Access.{Access}
use Rattle.space_memory_access.specs.declared.refusal.Refusal.{Refusal}
use Rattle.space_memory_access.specs.declared.refusal.Refusal.TheVariants.{KeyInUse}
use Rattle.space_memory_access.specs.Accesses.{IsAllowed}
use Rattle.replay_runs.specs.Runs.{Start}
use Rattle.space_memory.specs.Spaces.{SpaceState, IsWhole}
use Rattle.space_memory.specs.Cells.{is_held}
use Rattle.space_memory.specs.Held.{region_range, region_access, holder_of, IsRegionOf, AddsRegion, IsPrepareRefused}
use Rattle.space_memory_laws.specs.Held.{has_region, AreHeld}
use Rattle.space_memory_laws.specs.StandsFor.{StandsFor}
use Rattle.space_memory_laws.specs.Calls.{Part, Reads, Holds, Prepares, range_of, is_written, holder_for, held_part, HaveRegions, IsFree, InCall}
use Rattle.space_memory_laws.proofs.Cells.{cover_parts, live_ends, not_system}
use Rattle.space_memory_laws.proofs.Refusals.{constant_from}
use Rattle.space_memory_laws.proofs.Regions.{waits_at, some_none, apart_more, keys_more}

-- a call that is opened
pub opened : (s : Start) (past : List Mark) (old new : SpaceState) (t : ℕ) → StandsFor s past old → t < thread_count →
    new.held ≡ record old.held { depths = slice_set old.held.depths t (slice_index old.held.depths t + 1) } →
    new ≡ record old { held = new.held } → InCall s past t [] old new
opened s past old new t h lt held rest = record {
  thread = lt;
  stands = h;
  rest = rest;
  depths = ap (λ (q : HeldState). q.depths) held;
  regions = record { added = []; regions = tt; all = ap (λ (q : HeldState). q.regions) held ∙ sym (append-nil old.held.regions) };
  free = All-nil (IsFree old);
  held = subst AreHeld (sym held) (record {
    threads = length-set old.held.depths t (slice_index old.held.depths t + 1) ∙ h.sound.held.threads;
    whole = h.sound.held.whole;
    apart = h.sound.held.apart;
    keys = h.sound.held.keys;
    owned = λ call lt'. h.sound.held.owned call (λ in'. deeper call (lt' in'));
  });
}
  where
    deeper : (call : OpenCall) → slice_index (slice_set old.held.depths t (slice_index old.held.depths t + 1)) call.thread < call.depth → slice_index old.held.depths call.thread < call.depth
    deeper call lt' = elim (cases_eq call.thread t) [
      | inl e ↦
          let same : slice_index (slice_set old.held.depths t (slice_index old.held.depths t + 1)) call.thread ≡ slice_index old.held.depths call.thread + 1 =
          ap (λ u. slice_index (slice_set old.held.depths t (slice_index old.held.depths t + 1)) u) e ∙ get_or-set_same old.held.depths t
          (slice_index old.held.depths t + 1) 0 (omega (arith, lt, h.sound.held.threads)) ∙ ap (λ u. slice_index old.held.depths u + 1)
          (sym e) in
          omega (arith, same, lt')
      | inr ne ↦
          let other = get_or-set_other old.held.depths t call.thread (slice_index old.held.depths t + 1) 0 ne in
          omega (arith, other, lt')
    ]

-- the region of a range begins where the range does
pub region_addr : (given : Range) → (region_range given).addr ≡ given.addr
region_addr given = elim (cases_Bool (eqb given.addr 0)) [
  | inl is ↦ ap (λ (q : Range). q.addr) (cond-true (eqb given.addr 0) (record { addr = 0; len = 0 }) given is) ∙ sym (eqb-true given.addr 0 is)
  | inr not ↦ ap (λ (q : Range). q.addr) (cond-false (eqb given.addr 0) (record { addr = 0; len = 0 }) given not)
]

or_first : (a b : Bool) → (a || b) ≡ false → a ≡ false
or_first true b e = e
or_first false b e = refl

regions_more : (bytes : List AreaState) (call : OpenCall) (ps : List Part) (rs : List Region) (p : Part) (r : Region) →
    HaveRegions bytes call ps rs → IsRegionOf bytes (range_of p) (holder_for call p) r →
    HaveRegions bytes call (ps ++ p ∷ []) (rs ++ r ∷ [])
regions_more bytes call [] [] p r h is = (is, tt)
regions_more bytes call (q ∷ ps) (x ∷ rs) p r h is = (h.0, regions_more bytes call ps rs p r h.1 is)
regions_more bytes call [] (x ∷ rs) p r h is = absurd h
regions_more bytes call (q ∷ ps) [] p r h is = absurd h

-- a part is held for its call alone
pub is_of_part : (call other : OpenCall) (p : Part) → is_of other (holder_for call p) ≡ is_same_call call other
is_of_part call other (Reads r) = refl
is_of_part call other (Holds r) = refl
is_of_part call other (Prepares k r) = refl

pub written_waits : (call : OpenCall) (p : Part) → is_pending (holder_for call p) ≡ is_written p
written_waits call (Reads r) = refl
written_waits call (Holds r) = refl
written_waits call (Prepares k r) = refl

abbrev part_access : ℕ → Part → Access
part_access t p = record { side = Replay; thread = t; range = range_of p; write = is_written p }

module _ (s : Start) (past : List Mark) (base old new : SpaceState) (t : ℕ) (parts : List Part) (p : Part) (region : Region)
    (h : InCall s past t parts base old) (small : (range_of p).addr < 2 ^ 64)
    (is : IsRegionOf old.bytes (range_of p) (holder_for (innermost old.held t) p) region)
    (held : new.held ≡ record { regions = old.held.regions ++ region ∷ []; depths = old.held.depths })
    (rest : new ≡ record old { held = new.held }) (ok : IsAllowed old.bytes old.held.regions (part_access t p))
    (keys : (k : ℕ) → has_key k (holder_for (innermost old.held t) p) ≡ true → prepared_region old.held.regions k ≡ None) where
  same_bytes : old.bytes ≡ base.bytes
  same_bytes = ap (λ (q : SpaceState). q.bytes) h.rest

  same_depths : new.held.depths ≡ old.held.depths
  same_depths = ap (λ (q : HeldState). q.depths) held

  same_call : innermost new.held t ≡ innermost old.held t
  same_call = ap (λ ds. let c : OpenCall = record { thread = t; depth = slice_index ds t } in c) same_depths

  abbrev part_reach : Range
  part_reach = range_of p

  part_ends : part_reach.addr + part_reach.len < 2 ^ 64
  part_ends = live_ends old.bytes part_reach (λ x last. ap (λ b. byte_at b x) same_bytes ∙ h.stands.sound.ends x last) small ok.live

  here : (x : ℕ) → covers part_reach x ≡ true → IsInRange part_reach x
  here x c = let k = cover_parts part_reach x c in (k.0, k.1, omega (arith, k.1, part_ends))

  unheld_there : (x : ℕ) → covers part_reach x ≡ true → is_held old.held.regions x ≡ false
  unheld_there x c = elim (cases_Bool (is_held old.held.regions x)) [ inl waits ↦ absurd (ok.free x (here x c) waits) | inr idle ↦ idle ]

  part_free : IsFree base p
  part_free = record {
    own = λ x c. not_system part_reach x part_ends ok.own c;
    live = λ x c dead. ok.live x (here x c) (ap (λ b. byte_at b x) same_bytes ∙ dead);
    free = λ x c. or_first (is_held base.held.regions x) (is_held h.regions.added x) (sym (list_any-append (waits_at x) base.held.regions h.regions.added) ∙ ap (λ rs. is_held rs x) (sym h.regions.all) ∙ unheld_there x c);
    writable = λ x c w. elim (cases_Bool (is_constant x)) [
      | inl constant ↦ absurd (ok.writable x (here x c) (constant_from (is_written p) x w constant))
      | inr not ↦ not
    ];
  }

  region_pending : is_pending region.holder ≡ is_pending (holder_for (innermost old.held t) p)
  region_pending = ap is_pending is.holder_is

  region_whole : IsWhole region
  region_whole pending =
      let b = is.before (sym region_pending ∙ pending) in
      (b.0 ∙ ap (λ (q : Range). q.len) (sym is.range_is), subst (λ (q : Range). q.addr + q.len < 2 ^ 64) (sym is.range_is) part_ends)

  region_free : (x : ℕ) → waits_at x region ≡ true → is_held old.held.regions x ≡ false
  region_free x w = unheld_there x (ap (λ (q : Range). covers q x) (sym is.range_is) ∙ (and_parts (is_pending region.holder) (covers region.range x) w).1)

  region_owned : (call : OpenCall) → (call.thread < thread_count → slice_index old.held.depths call.thread < call.depth) → has_region call (old.held.regions ++ region ∷ []) ≡ false
  region_owned call lt =
      let other : is_of call region.holder ≡ false = ap (is_of call) is.holder_is ∙ is_of_part (innermost old.held t) call p ∙ not_same call lt in
      list_any-append (λ (r : Region). is_of call r.holder) old.held.regions (region ∷ []) ∙ ap (λ b. b || (is_of call region.holder || false)) (h.held.owned call lt) ∙ ap (λ b. b || false) other
    where
      not_same : (call : OpenCall) → (call.thread < thread_count → slice_index old.held.depths call.thread < call.depth) → is_same_call (innermost old.held t) call ≡ false
      not_same call lt = elim (cases_eq t call.thread) [
        | inl e ↦
            let deep : slice_index old.held.depths t ≡ slice_index old.held.depths call.thread = ap (slice_index old.held.depths) e in
            and_right (eqb t call.thread) (eqb (slice_index old.held.depths t) call.depth) (ne_eqb (slice_index old.held.depths t) call.depth (λ q. absurd (let few = lt (omega (arith, e, h.thread)) in omega (arith, q, deep, few))))
        | inr ne ↦ and_left (eqb t call.thread) (eqb (slice_index old.held.depths t) call.depth) (ne_eqb t call.thread ne)
      ]

  pub grown : InCall s past t (parts ++ p ∷ []) base new
  grown = record {
    thread = h.thread;
    stands = h.stands;
    rest = rest ∙ ap (λ (q : SpaceState). let k : SpaceState = record q { held = new.held } in k) h.rest;
    depths = same_depths ∙ h.depths;
    regions = record {
      added = h.regions.added ++ region ∷ [];
      regions = subst (λ c. HaveRegions base.bytes c (parts ++ p ∷ []) (h.regions.added ++ region ∷ [])) (sym same_call)
          (regions_more base.bytes (innermost old.held t) parts h.regions.added p region h.regions.regions (subst (λ b. IsRegionOf b part_reach (holder_for (innermost old.held t) p) region) same_bytes is));
      all = ap (λ (q : HeldState). q.regions) held ∙ ap (λ rs. rs ++ region ∷ []) h.regions.all ∙ append_assoc base.held.regions h.regions.added (region ∷ []);
    };
    free = All-append (IsFree base) parts (p ∷ []) h.free (All-cons (IsFree base) p [] part_free (All-nil (IsFree base)));
    held = subst AreHeld (sym held) (record {
      threads = h.held.threads;
      whole = All-append IsWhole old.held.regions (region ∷ []) h.held.whole (All-cons IsWhole region [] region_whole (All-nil IsWhole));
      apart = apart_more old.held.regions region h.held.apart region_free;
      keys = keys_more old.held.regions region h.held.keys (λ k own. keys k (ap (has_key k) (sym is.holder_is) ∙ own));
      owned = region_owned;
    });
  }

module _ (s : Start) (past : List Mark) (base old new : SpaceState) (t : ℕ) (parts : List Part) (given : Range) (r : Range)
    (h : InCall s past t parts base old) (below : given.addr < 2 ^ 64) (same : region_range given ≡ r)
    (rest : new ≡ record old { held = new.held }) where
  small_range : r.addr < 2 ^ 64
  small_range = let e = ap (λ (q : Range). q.addr) same in omega (arith, e, region_addr given, below)

  pub held_range : (write : Bool) → AddsRegion old.bytes (region_range given) (holder_of write (innermost old.held t)) old.held new.held →
      IsAllowed old.bytes old.held.regions (region_access t given write) → InCall s past t (parts ++ held_part write r ∷ []) base new
  held_range true adds ok = grown s past base old new t parts (Holds r) adds.0 h small_range
      (subst (λ q. IsRegionOf old.bytes q (Out (innermost old.held t)) adds.0) same adds.1) adds.2 rest
      (subst (λ (q : Range). IsAllowed old.bytes old.held.regions (record { side = Replay; thread = t; range = q; write = true })) same ok)
      (λ k own. absurd (true≢false (sym own)))
  held_range false adds ok = grown s past base old new t parts (Reads r) adds.0 h small_range
      (subst (λ q. IsRegionOf old.bytes q (In (innermost old.held t)) adds.0) same adds.1) adds.2 rest
      (subst (λ (q : Range). IsAllowed old.bytes old.held.regions (record { side = Replay; thread = t; range = q; write = false })) same ok)
      (λ k own. absurd (true≢false (sym own)))

  pub prepared_range : (k : ℕ) → AddsRegion old.bytes (region_range given) (Key k (Some (innermost old.held t))) old.held new.held →
      IsAllowed old.bytes old.held.regions (region_access t given true) →
      ((f : Refusal) → IsPrepareRefused old.bytes old.held.regions (region_access t given true) k f → ⊥) →
      InCall s past t (parts ++ Prepares k r ∷ []) base new
  prepared_range k adds ok free = grown s past base old new t parts (Prepares k r) adds.0 h small_range
      (subst (λ q. IsRegionOf old.bytes q (Key k (Some (innermost old.held t))) adds.0) same adds.1) adds.2 rest
      (subst (λ (q : Range). IsAllowed old.bytes old.held.regions
      (record { side = Replay; thread = t; range = q; write = true })) same ok) unused
    where
      none_used : (o : Option Region) → ((o ≡ None → ⊥) → ⊥) → o ≡ None
      none_used None nothing = refl
      none_used (Some q) nothing = absurd (nothing (some_none q))

      unused : (j : ℕ) → has_key j (Key k (Some (innermost old.held t))) ≡ true → prepared_region old.held.regions j ≡ None
      unused j own = subst (λ i. prepared_region old.held.regions i ≡ None) (eqb-true k j own) (none_used (prepared_region old.held.regions k) (λ used. free (KeyInUse k) (inr (ok, used, refl))))

-- a call that is undone
all_kept : (call : OpenCall) (rs : List Region) → has_region call rs ≡ false → without_call call rs ≡ rs
all_kept call [] h = refl
all_kept call (r ∷ rest) h = go (is_of call r.holder) h (all_kept call rest)
  where
    go : (b : Bool) → (b || has_region call rest) ≡ false → (has_region call rest ≡ false → without_call call rest ≡ rest) →
        cond (not b) (r ∷ without_call call rest) (without_call call rest) ≡ r ∷ rest
    go true e again = absurd (true≢false e)
    go false e again = ap (λ rs. r ∷ rs) (again e)

none_kept : (bytes : List AreaState) (call : OpenCall) (ps : List Part) (rs : List Region) → HaveRegions bytes call ps rs → without_call call rs ≡ []
none_kept bytes call [] [] h = refl
none_kept bytes call (p ∷ ps) (r ∷ rs) h =
    let own : is_of call r.holder ≡ true = ap (is_of call) h.0.holder_is ∙ is_of_part call call p ∙ and_from (eqb call.thread call.thread)
    (eqb call.depth call.depth) (eq-eqb call.thread call.thread refl) (eq-eqb call.depth call.depth refl) in
    ap (λ b. cond (not b) (r ∷ without_call call rs) (without_call call rs)) own ∙ none_kept bytes call ps rs h.1
none_kept bytes call [] (r ∷ rs) h = absurd h
none_kept bytes call (p ∷ ps) [] h = absurd h

set_set : (ds : List ℕ) (t a b : ℕ) → slice_set (slice_set ds t a) t b ≡ slice_set ds t b
set_set [] t a b = refl
set_set (d ∷ ds) zero a b = refl
set_set (d ∷ ds) (suc t) a b = ap (λ es. d ∷ es) (set_set ds t a b)

set_back : (ds : List ℕ) (t : ℕ) → t < length ds → slice_set (slice_set ds t (slice_index ds t + 1)) t (slice_index (slice_set ds t (slice_index ds t + 1)) t - 1) ≡ ds
set_back ds t lt =
    let up : slice_index (slice_set ds t (slice_index ds t + 1)) t ≡ slice_index ds t + 1 = get_or-set_same ds t (slice_index ds t + 1) 0 lt in
    let down : slice_index (slice_set ds t (slice_index ds t + 1)) t - 1 ≡ slice_index ds t = omega (arith, up) in
    ap (slice_set (slice_set ds t (slice_index ds t + 1)) t) down ∙ set_set ds t (slice_index ds t + 1) (slice_index ds t) ∙ set-get_or ds t 0

pub undone : (s : Start) (past : List Mark) (base old new : SpaceState) (t : ℕ) (parts : List Part) → InCall s past t parts base old →
    new.held.regions ≡ without_call (innermost old.held t) old.held.regions →
    new.held.depths ≡ slice_set old.held.depths t (slice_index old.held.depths t - 1) → new ≡ record old { held = new.held } → new ≡ base
undone s past base old new t parts h regions depths rest =
    rest ∙ ap (λ (q : SpaceState). let k : SpaceState = record q { held = new.held } in k) h.rest ∙ ap (λ q. let k : SpaceState = record base { held = q } in k) same_held
  where
    deeper : slice_index base.held.depths t < slice_index old.held.depths t
    deeper =
        let up : slice_index old.held.depths t ≡ slice_index base.held.depths t + 1 = ap (λ ds. slice_index ds t) h.depths ∙
        get_or-set_same base.held.depths t (slice_index base.held.depths t + 1) 0
        (omega (arith, h.thread, h.stands.sound.held.threads)) in
        omega (arith, up)

    same_regions : new.held.regions ≡ base.held.regions
    same_regions =
        regions
        ∙ ap (without_call (innermost old.held t)) h.regions.all
        ∙ filter-append (λ (r : Region). not (is_of (innermost old.held t) r.holder)) base.held.regions h.regions.added
        ∙ ap (λ rs. without_call (innermost old.held t) base.held.regions ++ rs) (none_kept base.bytes (innermost old.held t) parts h.regions.added h.regions.regions)
        ∙ append-nil (without_call (innermost old.held t) base.held.regions)
        ∙ all_kept (innermost old.held t) base.held.regions (h.stands.sound.held.owned (innermost old.held t) (λ in'. deeper))

    same_depths : new.held.depths ≡ base.held.depths
    same_depths = depths ∙ ap (λ ds. slice_set ds t (slice_index ds t - 1)) h.depths ∙ set_back base.held.depths t (omega (arith, h.thread, h.stands.sound.held.threads))

    same_held : new.held ≡ base.held
    same_held = let both : (rs qs : List Region) (ds es : List ℕ) → rs ≡ qs → ds ≡ es → ◌≡◌ {A = HeldState}
        (record { regions = rs; depths = ds }) (record { regions = qs; depths = es }) =
        λ rs qs ds es a b. cc in both new.held.regions base.held.regions new.held.depths base.held.depths same_regions same_depths
