-- What refuses a release is what the checks of a Ret find.
use Rattle.std.proofs.Common.{◌≡◌, ◌⊎◌, ℕ, zero, suc, ◌+◌, ◌-◌, ◌<◌, ◌≤◌, Bool, true, false, not, cond, eqb, List, [], ◌∷◌, ◌++◌, length, map, get_or, drop, Option, Some, None, inl, inr, refl, ap, sym, ◌∙◌, subst, arith, All}
use Rattle.std.specs.Prelude.{slice_index, option_map}
use Rattle.std.specs.Option.{option_to_list}
use Rattle.std.proofs.lemmas.Bool.{cases_eq, cases_lt, cond-true, eq-eqb, true≢false}
use Rattle.std.proofs.lemmas.List.{append-nil, map-append, get_or-drop, length-drop}
use Rattle.std.proofs.lemmas.List.Elements.{All-head, All-tail}
use Rattle.marks.specs.declared.breach.BreachKind.TheVariants as breach
use Rattle.marks.specs.Places.{thread_count}
use Rattle.marks.specs.declared.range.Range.{Range}
use Rattle.marks.specs.Ranges.{covers}
use Rattle.marks.specs.Marks.{Mark}
use Rattle.marks.specs.Wants.{same_origin}
use Rattle.space_memory_bytes.specs.Areas.{byte_at}
use Rattle.space_memory_access.specs.declared.holder.OpenCall.{OpenCall}
use Rattle.space_memory_access.specs.declared.holder.Region.{Region}
use Rattle.space_memory_access.specs.Held.{innermost, prepared_region}
use Rattle.space_memory_access.specs.declared.refusal.Refusal.{Refusal}
use Rattle.space_memory_access.specs.declared.refusal.Refusal.TheVariants.{NotLive, Pending, OtherSpace, ReadOnly, StackFull, KeyInUse, NoKey, Size}
use Rattle.replay_runs.specs.Runs.{Start, marks_of}
use Rattle.replay_runs.specs.Interface.{Interface, Committing}
use Rattle.replay_runs.specs.Threads.{open_calls}
use Rattle.replay_runs.specs.Pool.{in_use}
use Rattle.replay_runs.specs.Rules.{Closes}
use Rattle.replay_runs.proofs.Replies.{same_origin_true}
use Rattle.replay_runs.specs.Checks.{Finding, BreachFound, Checks, Check, Done, Passes, Finds, is_breach_found, IsSpoiled, size_check, size_checks, commit_size_check}
use Rattle.space_memory.specs.Spaces.{SpaceState}
use Rattle.space_memory.specs.Releases.{outs_of, used_of, IsFilled, AllFilled, FirstUnfilled, committed, HasKey, IsReleaseRefused}
use Rattle.space_memory_laws.specs.Shown.{value_when_held, ranges_at}
use Rattle.space_memory_laws.specs.StandsFor.{StandsFor}
use Rattle.space_memory_laws.specs.Refusals.{finding_of}
use Rattle.space_memory_laws.specs.Returns.{used_at, was_changed, AreUsedSizes, IsCommitted, ReturnsFind}
use Rattle.space_memory_laws.proofs.Cells.{cover_parts, covered}
use Rattle.space_memory_laws.proofs.Regions.{some_none}
use Rattle.space_memory_laws.proofs.Gone.{IsWaiting, gone_waiting}
use Rattle.space_memory_laws.proofs.Returns.{IsClosed, closing}

same_or_not : (a b : Option ℕ) → (a ≡ b) ⊎ (a ≡ b → ⊥)
same_or_not None None = inl refl
same_or_not None (Some y) = inr (λ e. some_none y (sym e))
same_or_not (Some x) None = inr (some_none x)
same_or_not (Some x) (Some y) = elim (cases_eq x y) [ inl e ↦ inl (ap (λ v. Some v) e) | inr ne ↦ inr (λ e. ne (inside x y e)) ]
  where
    inside : (x y : ℕ) → ◌≡◌ {A = Option ℕ} (Some x) (Some y) → x ≡ y
    inside x y e = cc

-- two lists of bytes agree so far, or differ somewhere
search : (f g : ℕ → Option ℕ) (n : ℕ) → ((i : ℕ) → i < n → f i ≡ g i) ⊎ ((i : ℕ) × (i < n) × (f i ≡ g i → ⊥))
search f g zero = inl (λ i lt. absurd (omega (arith, lt)))
search f g (suc n) = elim (search f g n) [
  | inr found ↦ inr (found.0, omega (arith, found.1), found.2)
  | inl all ↦ elim (same_or_not (f n) (g n)) [
    | inr ne ↦ inr (n, omega arith, ne)
    | inl e ↦ inl (λ i lt. elim (cases_eq i n) [ inl is ↦ subst (λ j. f j ≡ g j) (sym is) e | inr other ↦ all i (omega (arith, lt, other)) ])
  ]
]

is_origin : (o : Option ℕ) → same_origin o o ≡ true
is_origin None = refl
is_origin (Some x) = eq-eqb x x refl

differs : (o p : Option ℕ) → (o ≡ p → ⊥) → not (same_origin o p) ≡ true
differs o p ne = go (same_origin o p) refl
  where
    go : (b : Bool) → same_origin o p ≡ b → not b ≡ true
    go true e = absurd (ne (same_origin_true o p e))
    go false e = refl

unlike : (o p : Option ℕ) → not (same_origin o p) ≡ true → o ≡ p → ⊥
unlike o p h e = true≢false (sym h ∙ ap not (sym (ap (same_origin o) e) ∙ is_origin o))

module _ (memory : SpaceState) where
  abbrev rs : List Region
  rs = memory.held.regions

  abbrev changed : ℕ → Bool
  changed y = was_changed memory y

  -- what the check of a region's size says is bad
  abbrev IsBad : Range → ℕ → ℕ → Type 0
  IsBad r n x = (x ≡ r.addr) × IsSpoiled changed 0 r n

  module _ (g : Region) (r : Range) (used n : ℕ) (same : g.range ≡ r) (is : n ≡ used_at r used) (waits : IsWaiting rs g) where
    from : g.range.addr ≡ r.addr
    from = ap (λ (q : Range). q.addr) same

    len : g.range.len ≡ r.len
    len = ap (λ (q : Range). q.len) same

    used_is : used_of g used ≡ n
    used_is = ap (λ (q : Range). cond (eqb q.addr 0) 0 used) same ∙ sym is

    -- a byte past the used size, as it was when it was held
    was : (i : ℕ) → i < length (drop (used_of g used) g.before) → used_of g used ≤ g.range.len →
        value_when_held rs (g.range.addr + used_of g used + i) ≡ Some (slice_index (drop (used_of g used) g.before) i)
    was i lt fits =
        let k : used_of g used + i < g.range.len = omega (arith, lt, length-drop (used_of g used) g.before, waits.whole, fits) in
        let off : g.range.addr + used_of g used + i - g.range.addr ≡ used_of g used + i = omega arith in
        waits.value (g.range.addr + used_of g used + i) (covered g.range (g.range.addr + used_of g used + i) (omega arith) (omega (arith, k)))
        ∙ ap (λ v. Some v) (ap (λ j. get_or g.before j 0) off ∙ sym (get_or-drop (used_of g used) g.before i 0))

    filled_or_bad : IsFilled memory.bytes used g ⊎ IsBad r n r.addr
    filled_or_bad = elim (cases_lt r.len n) [
      | inl more ↦ inr (refl, inr (inl more))
      | inr fits ↦
          let fits' : used_of g used ≤ g.range.len = omega (arith, used_is, len, fits) in
          elim (search (λ i. byte_at memory.bytes (g.range.addr + used_of g used + i)) (λ i. Some (slice_index (drop (used_of g used) g.before) i)) (length (drop (used_of g used) g.before))) [
            | inl all ↦ inl (record { fits = fits'; rest = all })
            | inr found ↦
                let k : used_of g used + found.0 < g.range.len = omega (arith, found.1, length-drop (used_of g used) g.before, waits.whole, fits') in
                inr (
                  refl,
                  inr (inr (
                    g.range.addr + used_of g used + found.0,
                    covered r (g.range.addr + used_of g used + found.0)
                        (omega (arith, from)) (omega (arith, from, k, len)),
                    omega (arith, from, used_is),
                    differs
                        (byte_at memory.bytes (g.range.addr + used_of g used + found.0))
                        (value_when_held rs (g.range.addr + used_of g used + found.0)) (λ e. found.2 (e ∙ was found.0 found.1 fits')),
                  )),
                )
          ]
    ]

    past_used : IsFilled memory.bytes used g → ((r.len < n) ⊎ ((y : ℕ) × (covers r y ≡ true) × (r.addr + n ≤ y) × (changed y ≡ true))) → ⊥
    past_used filled spoiled = elim spoiled [
      | inl more ↦ omega (arith, more, filled.fits, used_is, len)
      | inr spoilt ↦
          let y = spoilt.0 in
          let c = cover_parts r y spoilt.1 in
          let low : g.range.addr + used_of g used ≤ y = omega (arith, from, used_is, spoilt.2) in
          let i = y - (g.range.addr + used_of g used) in
          let at : g.range.addr + used_of g used + i ≡ y = omega (arith, low) in
          let lt : i < length (drop (used_of g used) g.before) = omega (arith, length-drop (used_of g used) g.before, waits.whole, low, c.1, from, len, filled.fits) in
          unlike (byte_at memory.bytes y) (value_when_held rs y) spoilt.3 (ap (byte_at memory.bytes) (sym at) ∙ filled.rest i lt ∙ sym (was i lt filled.fits) ∙ ap (value_when_held rs) at)
    ]

    not_both : IsFilled memory.bytes used g → (x : ℕ) → IsBad r n x → ⊥
    not_both filled x bad = elim bad.1 [
      | inl none ↦ omega (arith, none)
      | inr spoiled ↦ past_used filled spoiled
    ]

  heads : (a b : Range) (as' bs : List Range) → ◌≡◌ {A = List Range} (a ∷ as') (b ∷ bs) → a ≡ b
  heads a b as' bs e = cc

  tails : (a b : Range) (as' bs : List Range) → ◌≡◌ {A = List Range} (a ∷ as') (b ∷ bs) → as' ≡ bs
  tails a b as' bs e = cc

  -- the regions of a return, each with the range that the run has of it
  pub record AreReturned (gs : List Region) (ro : List Range) (used ns : List ℕ) : Type 0 where
    pub ranges : map (λ (g : Region). g.range) gs ≡ ro
    pub sizes : AreUsedSizes ro used ns
    pub waits : All (IsWaiting rs) gs

  later : (g : Region) (gs : List Region) (r : Range) (ro : List Range) (u : ℕ) (used : List ℕ) (n : ℕ) (ns : List ℕ) → AreReturned (g ∷ gs) (r ∷ ro) (u ∷ used) (n ∷ ns) → AreReturned gs ro used ns
  later g gs r ro u used n ns a = record { ranges = tails g.range r (map (λ (g : Region). g.range) gs) ro a.ranges; sizes = a.sizes.1; waits = All-tail (IsWaiting rs) g gs a.waits }

  head_is : (g : Region) (gs : List Region) (r : Range) (ro : List Range) (used ns : List ℕ) → AreReturned (g ∷ gs) (r ∷ ro) used ns → g.range ≡ r
  head_is g gs r ro used ns a = heads g.range r (map (λ (g : Region). g.range) gs) ro a.ranges

  sizes_refused : (gs : List Region) (ro : List Range) (used ns : List ℕ) (x : ℕ) → AreReturned gs ro used ns →
      FirstUnfilled memory.bytes gs used x → Finds (size_checks changed [] ro ns Done) (BreachFound breach.Size x None)
  sizes_refused (g ∷ gs) (r ∷ ro) (u ∷ used) (n ∷ ns) x a first =
      let same = head_is g gs r ro (u ∷ used) (n ∷ ns) a in
      let waits = All-head (IsWaiting rs) g gs a.waits in
      elim first [
        | inl here ↦ elim (filled_or_bad g r u n same a.sizes.0 waits) [
          | inl filled ↦ absurd (here.0 filled)
          | inr bad ↦ subst (λ y. Finds (size_checks changed [] (r ∷ ro) (n ∷ ns) Done) (BreachFound breach.Size y None)) (sym (here.1 ∙ ap (λ (q : Range). q.addr) same)) (inl (r.addr, (bad, λ y b. omega (arith, b.0)), refl))
        ]
        | inr more ↦ inr (not_both g r u n same a.sizes.0 waits more.0, sizes_refused gs ro used ns x (later g gs r ro u used n ns a) more.1)
      ]
  sizes_refused [] ro used ns x a first = absurd first
  sizes_refused (g ∷ gs) [] used ns x a first = absurd cc
  sizes_refused (g ∷ gs) (r ∷ ro) [] ns x a first = absurd first
  sizes_refused (g ∷ gs) (r ∷ ro) (u ∷ used) [] x a first = absurd a.sizes

  sizes_found : (gs : List Region) (ro : List Range) (used ns : List ℕ) (f : Finding) → AreReturned gs ro used ns →
      Finds (size_checks changed [] ro ns Done) f → (x : ℕ) × FirstUnfilled memory.bytes gs used x × (f ≡ BreachFound breach.Size x None)
  sizes_found (g ∷ gs) (r ∷ ro) (u ∷ used) (n ∷ ns) f a found =
      let same = head_is g gs r ro (u ∷ used) (n ∷ ns) a in
      let waits = All-head (IsWaiting rs) g gs a.waits in
      elim found [
        | inl here ↦ (here.0, inl ((λ filled. not_both g r u n same a.sizes.0 waits filled here.0 here.1.0), here.1.0.0 ∙ sym (ap (λ (q : Range). q.addr) same)), here.2)
        | inr more ↦ elim (filled_or_bad g r u n same a.sizes.0 waits) [
          | inl filled ↦ (let k = sizes_found gs ro used ns f (later g gs r ro u used n ns a) more.1 in (k.0, inr (filled, k.1), k.2))
          | inr bad ↦ absurd (more.0 r.addr bad)
        ]
      ]
  sizes_found [] [] used ns f a found = absurd (done used ns a.sizes found)
    where
      done : (used ns : List ℕ) → AreUsedSizes [] used ns → Finds (size_checks changed [] [] ns Done) f → ⊥
      done [] [] sizes found = found
      done [] (n ∷ ns) sizes found = sizes
      done (u ∷ used) ns sizes found = sizes
  sizes_found [] (r ∷ ro) used ns f a found = absurd cc
  sizes_found (g ∷ gs) [] used ns f a found = absurd cc
  sizes_found (g ∷ gs) (r ∷ ro) [] ns f a found = absurd a.sizes
  sizes_found (g ∷ gs) (r ∷ ro) (u ∷ used) [] f a found = absurd a.sizes

  sizes_pass : (gs : List Region) (ro : List Range) (used ns : List ℕ) → AreReturned gs ro used ns → AllFilled memory.bytes gs used → Passes (size_checks changed [] ro ns Done)
  sizes_pass (g ∷ gs) (r ∷ ro) (u ∷ used) (n ∷ ns) a filled =
      (not_both g r u n (head_is g gs r ro (u ∷ used) (n ∷ ns) a) a.sizes.0 (All-head (IsWaiting rs) g gs a.waits) filled.0, sizes_pass gs ro used ns (later g gs r ro u used n ns a) filled.1)
  sizes_pass [] [] used [] a filled = tt
  sizes_pass [] [] used (n ∷ ns) a filled = tt
  sizes_pass [] (r ∷ ro) used ns a filled = absurd cc
  sizes_pass (g ∷ gs) [] used ns a filled = absurd cc
  sizes_pass (g ∷ gs) (r ∷ ro) [] ns a filled = absurd a.sizes
  sizes_pass (g ∷ gs) (r ∷ ro) (u ∷ used) [] a filled = absurd a.sizes

  sizes_passed : (gs : List Region) (ro : List Range) (used ns : List ℕ) → AreReturned gs ro used ns → Passes (size_checks changed [] ro ns Done) → AllFilled memory.bytes gs used
  sizes_passed (g ∷ gs) (r ∷ ro) (u ∷ used) (n ∷ ns) a p = elim (filled_or_bad g r u n (head_is g gs r ro (u ∷ used) (n ∷ ns) a) a.sizes.0 (All-head (IsWaiting rs) g gs a.waits)) [
    | inl filled ↦ (filled, sizes_passed gs ro used ns (later g gs r ro u used n ns a) p.1)
    | inr bad ↦ absurd (p.0 r.addr bad)
  ]
  sizes_passed [] ro used ns a p = tt
  sizes_passed (g ∷ gs) [] used ns a p = absurd cc
  sizes_passed (g ∷ gs) (r ∷ ro) [] ns a p = absurd a.sizes
  sizes_passed (g ∷ gs) (r ∷ ro) (u ∷ used) [] a p = absurd a.sizes

  -- the committed region comes last
  sizes_more : (ro : List Range) (used ns : List ℕ) (r : Range) (n : ℕ) → AreUsedSizes ro used ns →
      size_checks changed [] ro ns (size_check changed 0 r n Done) ≡ size_checks changed [] (ro ++ r ∷ []) (ns ++ n ∷ []) Done
  sizes_more [] [] [] r n h = refl
  sizes_more (q ∷ ro) (u ∷ used) (k ∷ ns) r n h = ap (λ cs. size_check changed 0 q k cs) (sizes_more ro used ns r n h.1)
  sizes_more [] [] (k ∷ ns) r n h = absurd h
  sizes_more [] (u ∷ used) ns r n h = absurd h
  sizes_more (q ∷ ro) [] ns r n h = absurd h
  sizes_more (q ∷ ro) (u ∷ used) [] r n h = absurd h

  used_more : (ro : List Range) (used ns : List ℕ) (r : Range) (u n : ℕ) → AreUsedSizes ro used ns → n ≡ used_at r u → AreUsedSizes (ro ++ r ∷ []) (used ++ u ∷ []) (ns ++ n ∷ [])
  used_more [] [] [] r u n h is = (is, tt)
  used_more (q ∷ ro) (v ∷ used) (k ∷ ns) r u n h is = (h.0, used_more ro used ns r u n h.1 is)
  used_more [] [] (k ∷ ns) r u n h is = absurd h
  used_more [] (v ∷ used) ns r u n h is = absurd h
  used_more (q ∷ ro) [] ns r u n h is = absurd h
  used_more (q ∷ ro) (v ∷ used) [] r u n h is = absurd h

-- a run's range of a key's region
pub record IsUsedKey (u : Option Range) (g : Region) : Type 0 where
  pub range : Range
  pub is : u ≡ Some range
  pub same : g.range ≡ range

used_key : (u : Option Range) (g : Region) → Some g.range ≡ u → IsUsedKey u g
used_key None g e = absurd (some_none g.range e)
used_key (Some r) g e = record { range = r; is = refl; same = inside g.range r e }
  where
    inside : (a b : Range) → ◌≡◌ {A = Option Range} (Some a) (Some b) → a ≡ b
    inside a b e = cc

module _ (i : Interface) (s : Start) (past : List Mark) (memory : SpaceState) (t func : ℕ) (args : List ℕ) (result : ℕ) (used : List ℕ)
    (h : StandsFor s past memory) (lt : t < thread_count) (closes : IsClosed (open_calls (marks_of s t past)) (i.outs func args))
    (sizes : AreUsedSizes (i.outs func args) used (i.used func args result)) where
  abbrev call : OpenCall
  call = innermost memory.held t

  abbrev regions : List Region
  regions = memory.held.regions

  abbrev outs : List Range
  outs = i.outs func args

  abbrev ns : List ℕ
  ns = i.used func args result

  abbrev interface : Option Committing → Interface
  interface o = record i { commits = λ f a v. o }

  depth_is : call.depth ≡ suc (length closes.below)
  depth_is = (h.calls t lt).depth ∙ ap length closes.is

  out_ranges : map (λ (g : Region). g.range) (outs_of call regions) ≡ outs
  out_ranges =
      (h.calls t lt).outs call.depth
      ∙ ap (λ qs. ranges_at (λ c. c.outs) call.depth qs) closes.is
      ∙ (cond-true (eqb call.depth (suc (length closes.below))) closes.top.outs (ranges_at (λ c. c.outs) call.depth closes.below) (eq-eqb call.depth (suc (length closes.below)) depth_is) ∙ sym closes.outs)

  waiting : (c : Option (ℕ × ℕ)) → All (IsWaiting regions) (outs_of call regions ++ committed regions c)
  waiting c = gone_waiting call c regions h.sound.held.apart h.sound.held.whole h.sound.held.keys

  -- nothing is committed
  no_commit : AreReturned memory (outs_of call regions ++ []) outs (used ++ []) ns
  no_commit = record {
    ranges = ap (λ gs. map (λ (g : Region). g.range) gs) (append-nil (outs_of call regions)) ∙ out_ranges;
    sizes = subst (λ us. AreUsedSizes outs us ns) (sym (append-nil used)) sizes;
    waits = waiting None;
  }

  none_refused : (f : Refusal) → IsReleaseRefused memory.bytes regions call used None f → Finds (size_checks (was_changed memory) [] outs ns Done) (finding_of f)
  none_refused (NotLive x) p = absurd p
  none_refused (Pending x) p = absurd p
  none_refused (OtherSpace x) p = absurd p
  none_refused (ReadOnly x) p = absurd p
  none_refused (StackFull x) p = absurd p
  none_refused (KeyInUse x) p = absurd p
  none_refused (NoKey x) p = absurd p
  none_refused (Size x) p = sizes_refused memory (outs_of call regions ++ []) outs (used ++ []) ns x no_commit p.1

  none_found : (f : Finding) → Finds (size_checks (was_changed memory) [] outs ns Done) f → (r : Refusal) × IsReleaseRefused memory.bytes regions call used None r × (f ≡ finding_of r)
  none_found f found = let k = sizes_found memory (outs_of call regions ++ []) outs (used ++ []) ns f no_commit found in (Size k.0, ((λ j lacks. lacks), k.1), k.2)

  pub returns_none : ReturnsFind (interface None) s past memory t func args result used None
  returns_none = record {
    refused = none_refused;
    found = none_found;
    passes = ((λ p. ((λ j lacks. lacks), sizes_passed memory (outs_of call regions ++ []) outs (used ++ []) ns no_commit p)), λ p. sizes_pass memory (outs_of call regions ++ []) outs (used ++ []) ns no_commit p.1);
  }

  pub returns_withheld : (k : ℕ) → ReturnsFind (interface (Some (record { key = k; used = None }))) s past memory t func args result used None
  returns_withheld k = record {
    refused = none_refused;
    found = none_found;
    passes = ((λ p. ((λ j lacks. lacks), sizes_passed memory (outs_of call regions ++ []) outs (used ++ []) ns no_commit p)), λ p. sizes_pass memory (outs_of call regions ++ []) outs (used ++ []) ns no_commit p.1);
  }

  -- the region of a key is committed
  module _ (k n : ℕ) where
    abbrev now : Option Range
    now = in_use s k past

    abbrev later_checks : Checks
    later_checks = size_checks (was_changed memory) [] outs ns (commit_size_check (was_changed memory) 0 now n Done)

    abbrev key_checks : Checks
    key_checks = Check (λ x. (x ≡ k) × (now ≡ None)) (is_breach_found breach.NoKey) later_checks

    abbrev commit : Option (ℕ × ℕ)
    commit = Some (k, n)

    abbrev IsRefusedHere : Refusal → Type 0
    IsRefusedHere f = IsReleaseRefused memory.bytes regions call used commit f

    -- the key isn't in now
    module _ (none : prepared_region regions k ≡ None) where
      use_none : now ≡ None
      use_none = sym (h.keys k) ∙ ap (option_map (λ (g : Region). g.range)) none

      lacking_refused : (f : Refusal) → IsRefusedHere f → Finds key_checks (finding_of f)
      lacking_refused (NotLive x) p = absurd p
      lacking_refused (Pending x) p = absurd p
      lacking_refused (OtherSpace x) p = absurd p
      lacking_refused (ReadOnly x) p = absurd p
      lacking_refused (StackFull x) p = absurd p
      lacking_refused (KeyInUse x) p = absurd p
      lacking_refused (NoKey x) p = subst (λ j. Finds key_checks (BreachFound breach.NoKey j None)) (sym p.1) (inl (k, ((refl, use_none), λ y bad. omega (arith, bad.0)), refl))
      lacking_refused (Size x) p = absurd (p.0 k (none, refl))

      lacking_found : (f : Finding) → Finds key_checks f → (r : Refusal) × IsRefusedHere r × (f ≡ finding_of r)
      lacking_found f (inl here) = (NoKey k, (none, refl), here.2 ∙ ap (λ j. BreachFound breach.NoKey j None) here.1.0.0)
      lacking_found f (inr more) = absurd (more.0 k (refl, use_none))

      lacking : ReturnsFind (interface (Some (record { key = k; used = Some n }))) s past memory t func args result used commit
      lacking = record {
        refused = lacking_refused;
        found = lacking_found;
        passes = ((λ p. absurd (p.0 k (refl, use_none))), λ p. absurd (p.0 k (none, refl)));
      }

    -- it is
    module _ (g : Region) (there : prepared_region regions k ≡ Some g) (u : IsUsedKey now g) where
      abbrev all_outs : List Range
      all_outs = outs ++ u.range ∷ []

      abbrev all_ns : List ℕ
      all_ns = ns ++ used_at u.range n ∷ []

      abbrev gone : List Region
      gone = outs_of call regions ++ committed regions commit

      checks_are : later_checks ≡ size_checks (was_changed memory) [] all_outs all_ns Done
      checks_are = ap (λ o. size_checks (was_changed memory) [] outs ns (commit_size_check (was_changed memory) 0 o n Done)) u.is ∙ sizes_more memory outs used ns u.range (used_at u.range n) sizes

      returned : AreReturned memory gone all_outs (used ++ n ∷ []) all_ns
      returned = record {
        ranges =
            map-append (λ (g : Region). g.range) (outs_of call regions) (committed regions commit)
            ∙ ap (λ qs. qs ++ map (λ (g : Region). g.range) (committed regions commit)) out_ranges
            ∙ ap (λ o. outs ++ map (λ (g : Region). g.range) (option_to_list o)) there
            ∙ ap (λ q. outs ++ q ∷ []) u.same;
        sizes = used_more memory outs used ns u.range n (used_at u.range n) sizes refl;
        waits = waiting commit;
      }

      has_key : HasKey regions commit
      has_key j lacks = some_none g (sym there ∙ lacks.0)

      no_bad : (x : ℕ) → (x ≡ k) × (now ≡ None) → ⊥
      no_bad x bad = some_none u.range (sym u.is ∙ bad.1)

      used_refused : (f : Refusal) → IsRefusedHere f → Finds key_checks (finding_of f)
      used_refused (NotLive x) p = absurd p
      used_refused (Pending x) p = absurd p
      used_refused (OtherSpace x) p = absurd p
      used_refused (ReadOnly x) p = absurd p
      used_refused (StackFull x) p = absurd p
      used_refused (KeyInUse x) p = absurd p
      used_refused (NoKey x) p = absurd (some_none g (sym there ∙ p.0))
      used_refused (Size x) p = inr (no_bad, subst (λ cs. Finds cs (BreachFound breach.Size x None)) (sym checks_are) (sizes_refused memory gone all_outs (used ++ n ∷ []) all_ns x returned p.1))

      used_found : (f : Finding) → Finds key_checks f → (r : Refusal) × IsRefusedHere r × (f ≡ finding_of r)
      used_found f (inl here) = absurd (no_bad here.0 here.1.0)
      used_found f (inr more) = let j = sizes_found memory gone all_outs (used ++ n ∷ []) all_ns f returned (subst (λ cs. Finds cs f) checks_are more.1) in (Size j.0, (has_key, j.1), j.2)

      committing : ReturnsFind (interface (Some (record { key = k; used = Some n }))) s past memory t func args result used commit
      committing = record {
        refused = used_refused;
        found = used_found;
        passes = (
          (λ p. (has_key, sizes_passed memory gone all_outs (used ++ n ∷ []) all_ns returned (subst Passes checks_are p.1))),
          λ p. (no_bad, subst Passes (sym checks_are) (sizes_pass memory gone all_outs (used ++ n ∷ []) all_ns returned p.1)),
        );
      }

    pub returns_committed : (o : Option Region) → prepared_region regions k ≡ o → ReturnsFind (interface (Some (record { key = k; used = Some n }))) s past memory t func args result used commit
    returns_committed None is = lacking is
    returns_committed (Some g) is = committing g is (used_key now g (ap (option_map (λ (g : Region). g.range)) (sym is) ∙ h.keys k))

  by_used : (k : ℕ) (o : Option ℕ) (c : Option (ℕ × ℕ)) → c ≡ option_map (λ n. (k, n)) o → ReturnsFind (interface (Some (record { key = k; used = o }))) s past memory t func args result used c
  by_used k None c is = subst (ReturnsFind (interface (Some (record { key = k; used = None }))) s past memory t func args result used) (sym is) (returns_withheld k)
  by_used k (Some n) c is = subst (ReturnsFind (interface (Some (record { key = k; used = Some n }))) s past memory t func args result used) (sym is) (returns_committed k n (prepared_region regions k) refl)

  pub by_commit : (o : Option Committing) (c : Option (ℕ × ℕ)) → IsCommitted o c → ReturnsFind (interface o) s past memory t func args result used c
  by_commit None c is = subst (ReturnsFind (interface None) s past memory t func args result used) (sym is) returns_none
  by_commit (Some o) c is = by_used o.key o.used c is

pub returns_found : (i : Interface) (s : Start) (past : List Mark) (memory : SpaceState) (t func : ℕ) (args : List ℕ) (result : ℕ) (used : List ℕ) (c : Option (ℕ × ℕ)) →
    StandsFor s past memory → t < thread_count → Closes (open_calls (marks_of s t past)) func args (i.outs func args) →
    AreUsedSizes (i.outs func args) used (i.used func args result) → IsCommitted (i.commits func args result) c →
    ReturnsFind i s past memory t func args result used c
returns_found i s past memory t func args result used c h lt closes sizes is =
    let r = by_commit i s past memory t func args result used h lt (closing (open_calls (marks_of s t past)) func args (i.outs func args) closes) sizes (i.commits func args result) c is in
    record { refused = r.refused; found = r.found; passes = r.passes }
