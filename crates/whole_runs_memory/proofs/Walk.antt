-- Where a piece of an answer is too long, the regions before it decide first.
use Rattle.std.proofs.Common.{◌≡◌, ◌⊎◌, ℕ, zero, suc, ◌+◌, ◌-◌, ◌<◌, ◌≤◌, Bool, true, false, not, cond, eqb, ◌||◌, List, [], ◌∷◌, ◌++◌, length, map, get_or, drop, Option, Some, None, inl, inr, refl, ap, sym, ◌∙◌, subst, arith, All}
use Rattle.std.specs.Prelude.{slice_index, option_map, take}
use Rattle.std.proofs.lemmas.Bool.{cases_eq, cases_lt, eq-eqb, true≢false}
use Rattle.std.proofs.lemmas.List.{append-nil, get_or-drop, length-drop}
use Rattle.std.proofs.lemmas.List.Elements.{All-head, All-tail, All-cons, All-nil}
use Rattle.marks.specs.declared.side.Side.TheVariants.{Replay}
use Rattle.marks.specs.declared.breach.BreachKind.TheVariants as breach
use Rattle.marks.specs.declared.range.Range.{Range}
use Rattle.marks.specs.Ranges.{Piece, covers, any_range}
use Rattle.marks.specs.Marks.{Mark}
use Rattle.marks.specs.Wants.{same_origin}
use Rattle.space_memory_bytes.specs.Areas.{byte_at}
use Rattle.space_memory_access.specs.declared.holder.Region.{Region}
use Rattle.space_memory_access.specs.Held.{innermost, prepared_region}
use Rattle.space_memory.specs.Spaces.{SpaceState}
use Rattle.space_memory.specs.Releases.{outs_of, used_of, IsFilled, AllFilled, FirstUnfilled, HasKey}
use Rattle.space_memory_laws.specs.Shown.{cell_of, value_when_held}
use Rattle.space_memory_laws.specs.Returns.{used_at, was_changed, AreUsedSizes, IsCommitted}
use Rattle.space_memory_laws.proofs.Calls.{no_region}
use Rattle.space_memory_laws.proofs.Cells.{cover_parts, covered}
use Rattle.space_memory_laws.proofs.Gone.{IsWaiting, gone_waiting}
use Rattle.space_memory_laws.proofs.Owed.{or_left, or_true}
use Rattle.space_memory_laws.proofs.Regions.{some_none}
use Rattle.space_memory_laws.proofs.Returns.{IsClosed, closing}
use Rattle.replay_runs.proofs.Replies.{same_origin_true}
use Rattle.replay_runs.specs.Runs.{marks_of, byte}
use Rattle.replay_runs.specs.Threads.{open_calls}
use Rattle.replay_runs.specs.Interface.{Interface, Committing}
use Rattle.replay_runs.specs.Pool.{in_use}
use Rattle.replay_runs.specs.Checks.{Finding, BreachFound, Checks, Done, Answered, Finds, IsSpoiled, size_checks, commit_size_check, return_checks}
use Rattle.whole_runs.specs.World.{World, begin, interface}
use Rattle.whole_runs.specs.Sides.{seen}
use Rattle.whole_runs.specs.Memory.{filled, real}
use Rattle.whole_runs.specs.Below.{Target, To, commit_target, targets, piece_for, pieces_for}
use Rattle.whole_runs.specs.Tests.{with_answer, is_changed, comes_up, ret_checks}
use Rattle.whole_runs_memory.specs.Stands.{InStep}
use Rattle.whole_runs_memory.specs.Rets.{AllFit, IsEnding, LongPiecesOfRegionsAreFound, LongCommittedPiecesAreFound}
use Rattle.whole_runs_memory.proofs.Apart.{aimed, aimed_more, aimed_range, nothing_aimed, out_ranges, all_apart}
use Rattle.whole_runs_memory.proofs.Long.{out_handed}
use Rattle.whole_runs_memory.proofs.RetChecks.{changed_is}
use Rattle.whole_runs_memory.proofs.Rets.{handed_held, handed_own}

-- ---- one region

same_or_not : (a b : Option ℕ) → (a ≡ b) ⊎ (a ≡ b → ⊥)
same_or_not None None = inl refl
same_or_not None (Some y) = inr (λ e. some_none y (sym e))
same_or_not (Some x) None = inr (some_none x)
same_or_not (Some x) (Some y) = elim (cases_eq x y) [ inl e ↦ inl (ap (λ v. Some v) e) | inr ne ↦ inr (λ e. ne (inside x y e)) ]
  where
    inside : (x y : ℕ) → ◌≡◌ {A = Option ℕ} (Some x) (Some y) → x ≡ y
    inside x y e = cc

-- two lists of bytes agree so far, or differ somewhere
search_for : (f g : ℕ → Option ℕ) (n : ℕ) → ((i : ℕ) → i < n → f i ≡ g i) ⊎ ((i : ℕ) × (i < n) × (f i ≡ g i → ⊥))
search_for f g zero = inl (λ i lt. absurd (omega (arith, lt)))
search_for f g (suc n) = elim (search_for f g n) [
  | inr found ↦ inr (found.0, omega (arith, found.1), found.2)
  | inl all ↦ elim (same_or_not (f n) (g n)) [
    | inr ne ↦ inr (n, omega arith, ne)
    | inl e ↦ inl (λ i lt. elim (cases_eq i n) [ inl is ↦ subst (λ j. f j ≡ g j) (sym is) e | inr other ↦ all i (omega (arith, lt, other)) ])
  ]
]

is_origin : (o : Option ℕ) → same_origin o o ≡ true
is_origin None = refl
is_origin (Some x) = eq-eqb x x refl

differs : (o p : Option ℕ) → (o ≡ p → ⊥) → not (same_origin o p) ≡ true
differs o p ne = go (same_origin o p) refl
  where
    go : (b : Bool) → same_origin o p ≡ b → not b ≡ true
    go true e = absurd (ne (same_origin_true o p e))
    go false e = refl

unlike : (o p : Option ℕ) → not (same_origin o p) ≡ true → o ≡ p → ⊥
unlike o p h e = true≢false (sym h ∙ ap not (sym (ap (same_origin o) e) ∙ is_origin o))

module _ (memory : SpaceState) (changed : ℕ → Bool) where
  abbrev rs : List Region
  rs = memory.held.regions

  module _ (g : Region) (r : Range) (used n p : ℕ) (same : g.range ≡ r) (is : n ≡ used_at r used) (waits : IsWaiting rs g) (fits : p ≤ r.len) (agree : (y : ℕ) → covers r y ≡ true → changed y ≡ was_changed memory y) where
    from : g.range.addr ≡ r.addr
    from = ap (λ (q : Range). q.addr) same

    len : g.range.len ≡ r.len
    len = ap (λ (q : Range). q.len) same

    used_is : used_of g used ≡ n
    used_is = ap (λ (q : Range). cond (eqb q.addr 0) 0 used) same ∙ sym is

    -- a byte past the used size, as it was when it was held
    was : (i : ℕ) → i < length (drop (used_of g used) g.before) → used_of g used ≤ g.range.len →
        value_when_held rs (g.range.addr + used_of g used + i) ≡ Some (slice_index (drop (used_of g used) g.before) i)
    was i lt room =
        let k : used_of g used + i < g.range.len = omega (arith, lt, length-drop (used_of g used) g.before, waits.whole, room) in
        let off : g.range.addr + used_of g used + i - g.range.addr ≡ used_of g used + i = omega arith in
        waits.value (g.range.addr + used_of g used + i) (covered g.range (g.range.addr + used_of g used + i) (omega arith) (omega (arith, k)))
        ∙ ap (λ v. Some v) (ap (λ j. get_or g.before j 0) off ∙ sym (get_or-drop (used_of g used) g.before i 0))

    spoiled : (IsFilled memory.bytes used g → ⊥) → IsSpoiled changed p r n
    spoiled unfilled = elim (cases_lt r.len n) [
      | inl more ↦ inr (inl more)
      | inr room ↦
          let room' : used_of g used ≤ g.range.len = omega (arith, used_is, len, room) in
          elim (search_for (λ i. byte_at memory.bytes (g.range.addr + used_of g used + i)) (λ i. Some (slice_index (drop (used_of g used) g.before) i)) (length (drop (used_of g used) g.before))) [
            | inl all ↦ absurd (unfilled (record { fits = room'; rest = all }))
            | inr found ↦
                let y : ℕ = g.range.addr + used_of g used + found.0 in
                let k : used_of g used + found.0 < g.range.len = omega (arith, found.1, length-drop (used_of g used) g.before, waits.whole, room') in
                let c : covers r y ≡ true = covered r y (omega (arith, from)) (omega (arith, from, k, len)) in
                inr (inr (y, c, omega (arith, from, used_is), agree y c ∙ differs (byte_at memory.bytes y) (value_when_held rs y) (λ e. found.2 (e ∙ was found.0 found.1 room'))))
          ]
    ]

    past_used : IsFilled memory.bytes used g → ((r.len < n) ⊎ ((y : ℕ) × (covers r y ≡ true) × (r.addr + n ≤ y) × (changed y ≡ true))) → ⊥
    past_used full bad = elim bad [
      | inl more ↦ omega (arith, more, full.fits, used_is, len)
      | inr z ↦
          let y = z.0 in
          let c = cover_parts r y z.1 in
          let low : g.range.addr + used_of g used ≤ y = omega (arith, from, used_is, z.2) in
          let i = y - (g.range.addr + used_of g used) in
          let at : g.range.addr + used_of g used + i ≡ y = omega (arith, low) in
          let lt : i < length (drop (used_of g used) g.before) = omega (arith, length-drop (used_of g used) g.before, waits.whole, low, c.1, from, len, full.fits) in
          unlike (byte_at memory.bytes y) (value_when_held rs y) (sym (agree y z.1) ∙ z.3) (ap (byte_at memory.bytes) (sym at) ∙ full.rest i lt ∙ sym (was i lt full.fits) ∙ ap (value_when_held rs) at)
    ]

    unspoiled : IsFilled memory.bytes used g → (x : ℕ) → (x ≡ r.addr) × IsSpoiled changed p r n → ⊥
    unspoiled full x bad = elim bad.1 [
      | inl long ↦ omega (arith, long, fits)
      | inr past ↦ past_used full past
    ]

  -- ---- one region after the other

  heads : (a b : Range) (as' bs : List Range) → ◌≡◌ {A = List Range} (a ∷ as') (b ∷ bs) → a ≡ b
  heads a b as' bs e = cc

  tails : (a b : Range) (as' bs : List Range) → ◌≡◌ {A = List Range} (a ∷ as') (b ∷ bs) → as' ≡ bs
  tails a b as' bs e = cc

  abbrev ranges_of : List Region → List Range
  ranges_of gs = map (λ (g : Region). g.range) gs

  walk_unfilled : (gs : List Region) (ro more : List Range) (bs qs : List (List ℕ)) (us ns : List ℕ) (A : Checks) (x : ℕ) →
      ranges_of gs ≡ ro → length ro ≡ length bs → AreUsedSizes (ro ++ more) us ns → All (IsWaiting rs) gs → AllFit (map To ro) bs →
      ((y : ℕ) → any_range ro y ≡ true → changed y ≡ was_changed memory y) → FirstUnfilled memory.bytes gs us x →
      Finds (size_checks changed (map length (bs ++ qs)) (ro ++ more) ns A) (BreachFound breach.Size x None)
  walk_unfilled [] ro more bs qs us ns A x same count sizes waits fit agree first = absurd first
  walk_unfilled (g ∷ gs) [] more bs qs us ns A x same count sizes waits fit agree first = absurd cc
  walk_unfilled (g ∷ gs) (r ∷ ro) more [] qs us ns A x same count sizes waits fit agree first = absurd (omega (arith, count))
  walk_unfilled (g ∷ gs) (r ∷ ro) more (b ∷ bs) qs [] ns A x same count sizes waits fit agree first = absurd sizes
  walk_unfilled (g ∷ gs) (r ∷ ro) more (b ∷ bs) qs (u ∷ us) [] A x same count sizes waits fit agree first = absurd sizes
  walk_unfilled (g ∷ gs) (r ∷ ro) more (b ∷ bs) qs (u ∷ us) (n ∷ ns) A x same count sizes waits fit agree first =
      let head = heads g.range r (ranges_of gs) ro same in
      let wait = All-head (IsWaiting rs) g gs waits in
      let own = λ (y : ℕ) (c : covers r y ≡ true). agree y (or_left (covers r y) (any_range ro y) c) in
      elim first [
        | inl here ↦
            subst (λ y. Finds (size_checks changed (map length (b ∷ (bs ++ qs))) (r ∷ (ro ++ more)) (n ∷ ns) A) (BreachFound breach.Size y None)) (sym (here.1 ∙ ap (λ (q : Range). q.addr) head))
            (inl (r.addr, ((refl, spoiled g r u n (length b) head sizes.0 wait fit.0 own here.0), λ y bad. omega (arith, bad.0)), refl))
        | inr later ↦ inr (
          unspoiled g r u n (length b) head sizes.0 wait fit.0 own later.0,
          walk_unfilled gs ro more bs qs us ns A x (tails g.range r (ranges_of gs) ro same) (omega (arith, count)) sizes.1 (All-tail (IsWaiting rs) g gs waits) fit.1 (λ y c. agree y (or_true (covers r y) (any_range ro y) c)) later.1,
        )
      ]

  walk_filled : (gs : List Region) (ro more : List Range) (bs qs : List (List ℕ)) (us ns : List ℕ) (A : Checks) (f : Finding) →
      ranges_of gs ≡ ro → length ro ≡ length bs → AreUsedSizes (ro ++ more) us ns → All (IsWaiting rs) gs → AllFit (map To ro) bs →
      ((y : ℕ) → any_range ro y ≡ true → changed y ≡ was_changed memory y) → AllFilled memory.bytes gs us →
      ((us ns : List ℕ) → AreUsedSizes more us ns → Finds (size_checks changed (map length qs) more ns A) f) →
      Finds (size_checks changed (map length (bs ++ qs)) (ro ++ more) ns A) f
  walk_filled [] [] more [] qs us ns A f same count sizes waits fit agree all end = end us ns sizes
  walk_filled [] [] more (b ∷ bs) qs us ns A f same count sizes waits fit agree all end = absurd (omega (arith, count))
  walk_filled [] (r ∷ ro) more bs qs us ns A f same count sizes waits fit agree all end = absurd cc
  walk_filled (g ∷ gs) [] more bs qs us ns A f same count sizes waits fit agree all end = absurd cc
  walk_filled (g ∷ gs) (r ∷ ro) more [] qs us ns A f same count sizes waits fit agree all end = absurd (omega (arith, count))
  walk_filled (g ∷ gs) (r ∷ ro) more (b ∷ bs) qs [] ns A f same count sizes waits fit agree all end = absurd sizes
  walk_filled (g ∷ gs) (r ∷ ro) more (b ∷ bs) qs (u ∷ us) [] A f same count sizes waits fit agree all end = absurd sizes
  walk_filled (g ∷ gs) (r ∷ ro) more (b ∷ bs) qs (u ∷ us) (n ∷ ns) A f same count sizes waits fit agree all end =
      let head = heads g.range r (ranges_of gs) ro same in
      inr (
        unspoiled g r u n (length b) head sizes.0 (All-head (IsWaiting rs) g gs waits) fit.0 (λ y c. agree y (or_left (covers r y) (any_range ro y) c)) all.0,
        walk_filled gs ro more bs qs us ns A f (tails g.range r (ranges_of gs) ro same) (omega (arith, count)) sizes.1 (All-tail (IsWaiting rs) g gs waits) fit.1 (λ y c. agree y (or_true (covers r y) (any_range ro y) c)) all.1 end,
      )

-- ---- lists

take_ranges : (gs : List Region) (before more : List Range) → map (λ (g : Region). g.range) gs ≡ before ++ more → map (λ (g : Region). g.range) (take (length before) gs) ≡ before
take_ranges gs [] more e = refl
take_ranges [] (r ∷ before) more e = absurd cc
take_ranges (g ∷ gs) (r ∷ before) more e =
    let head : g.range ≡ r = cc in
    let rest : map (λ (g : Region). g.range) gs ≡ before ++ more = cc in
    ap (λ q. q ∷ map (λ (g : Region). g.range) (take (length before) gs)) head ∙ ap (λ q. r ∷ q) (take_ranges gs before more rest)

take_all : (P : Region → Type 0) (n : ℕ) (gs : List Region) → All P gs → All P (take n gs)
take_all P zero gs all = All-nil P
take_all P (suc n) [] all = All-nil P
take_all P (suc n) (g ∷ gs) all = All-cons P g (take n gs) (All-head P g gs all) (take_all P n gs (All-tail P g gs all))

map_split : (before more : List Range) (ct : List Target) → map To (before ++ more) ++ ct ≡ map To before ++ (map To more ++ ct)
map_split [] more ct = refl
map_split (r ∷ before) more ct = ap (λ q. To r ∷ q) (map_split before more ct)

append_pieces : (xs ys zs : List Piece) → (xs ++ ys) ++ zs ≡ xs ++ (ys ++ zs)
append_pieces [] ys zs = refl
append_pieces (x ∷ xs) ys zs = ap (λ q. x ∷ q) (append_pieces xs ys zs)

pieces_split : (rs : List Range) (ys : List Target) (bs qs : List (List ℕ)) → length rs ≡ length bs → pieces_for (map To rs ++ ys) (bs ++ qs) ≡ pieces_for (map To rs) bs ++ pieces_for ys qs
pieces_split [] ys [] qs e = refl
pieces_split [] ys (b ∷ bs) qs e = absurd (omega (arith, e))
pieces_split (r ∷ rs) ys [] qs e = absurd (omega (arith, e))
pieces_split (r ∷ rs) ys (b ∷ bs) qs e = ap (λ ps. piece_for (To r) b ++ ps) (pieces_split rs ys bs qs (omega (arith, e)))

filled_split : (ps qs : List Piece) (x : ℕ) (v : Option ℕ) → filled (ps ++ qs) x v ≡ filled qs x (filled ps x v)
filled_split [] qs x v = refl
filled_split (p ∷ ps) qs x v = filled_split ps qs x _

at_length : (bs rest : List (List ℕ)) (b : List ℕ) → get_or (bs ++ b ∷ rest) (length bs) [] ≡ b
at_length [] rest b = refl
at_length (c ∷ bs) rest b = at_length bs rest b

-- ---- a Ret

module _ (w : World) (past : List Mark) (memory : SpaceState) (t func : ℕ) (args : List ℕ) (result : ℕ) (used : List ℕ)
    (committing : Option (ℕ × ℕ)) (before more : List Range) (bs qs : List (List ℕ))
    (h : InStep w past (pieces_for (map To before) bs) memory) (e : IsEnding w past t func args result used committing)
    (outs_are : (interface w).outs func args ≡ before ++ more) (count : length before ≡ length bs) (fit : AllFit (map To before) bs) where
  abbrev i : Interface
  i = interface w

  abbrev up : Answered
  up = comes_up w past func args result (bs ++ qs)

  abbrev regions : List Region
  regions = memory.held.regions

  abbrev held : List Region
  held = outs_of (innermost memory.held t) regions

  closed : IsClosed (open_calls (marks_of (begin w) t (seen past))) (i.outs func args)
  closed = closing (open_calls (marks_of (begin w) t (seen past))) func args (i.outs func args) e.closes

  ranges : map (λ (g : Region). g.range) held ≡ before ++ more
  ranges = out_ranges w past memory t (i.outs func args) h.stands.above e.thread closed ∙ outs_are

  waiting : All (IsWaiting regions) held
  waiting = subst (All (IsWaiting regions)) (append-nil held) (gone_waiting (innermost memory.held t) None regions h.stands.above.sound.held.apart h.stands.above.sound.held.whole h.stands.above.sound.held.keys)

  abbrev later : List Target
  later = map To more ++ commit_target w Replay past (i.commits func args result)

  targets_are : targets w Replay past func args result ≡ map To before ++ later
  targets_are = ap (λ o. map To o ++ commit_target w Replay past (i.commits func args result)) outs_are ∙ map_split before more (commit_target w Replay past (i.commits func args result))

  -- the pieces after those before leave their bytes
  none_later : (y : ℕ) → any_range before y ≡ true → aimed later y ≡ 0
  none_later y is =
      let a = all_apart w past memory t (i.outs func args) h.stands.above e.thread closed y (i.commits func args result) in
      let b = ap (λ xs. aimed xs y) targets_are ∙ aimed_more (map To before) later y in
      let c = aimed_range before y is in
      omega (arith, a, b, c)

  answer_is : (y : ℕ) → any_range before y ≡ true → with_answer w past func args result (bs ++ qs) y ≡ byte_at memory.bytes y
  answer_is y is =
      ap (λ xs. filled (pieces_for xs (bs ++ qs)) y (real w past y)) targets_are
      ∙ ap (λ ps. filled ps y (real w past y)) (pieces_split before later bs qs count)
      ∙ filled_split (pieces_for (map To before) bs) (pieces_for later qs) y (real w past y)
      ∙ nothing_aimed later qs y (filled (pieces_for (map To before) bs) y (real w past y)) (none_later y is)
      ∙ sym (h.stands.bytes y)

  any_more : (rs : List Range) (y : ℕ) → any_range rs y ≡ true → any_range (rs ++ more) y ≡ true
  any_more [] y is = absurd (true≢false (sym is))
  any_more (r ∷ rs) y is = go (covers r y) is (any_more rs y)
    where
      go : (b : Bool) → (b || any_range rs y) ≡ true → (any_range rs y ≡ true → any_range (rs ++ more) y ≡ true) → (b || any_range (rs ++ more) y) ≡ true
      go true e again = refl
      go false e again = again e

  agree : (y : ℕ) → any_range before y ≡ true → up.changed y ≡ was_changed memory y
  agree y is =
      let down = out_handed (begin w) (seen past) t y (i.outs func args) closed (ap (λ o. any_range o y) outs_are ∙ any_more before y is) in
      let v = handed_held (begin w) (seen past) memory t y h.stands.above e.thread down in
      let own = handed_own (begin w) (seen past) memory t y h.stands.above e.thread down in
      ap (is_changed (byte (begin w) y (seen past)).cell) (answer_is y is)
      ∙ ap (λ c. is_changed c (byte_at memory.bytes y)) (h.stands.above.bytes y own ∙ ap (cell_of (byte_at memory.bytes y)) v.1)
      ∙ changed_is (byte_at memory.bytes y) v.0 (λ dead. some_none v.0 (sym v.1 ∙ h.stands.above.sound.unheld y dead))
      ∙ ap (λ o. not (same_origin (byte_at memory.bytes y) o)) (sym v.1)

  sizes : AreUsedSizes (before ++ more) used (i.used func args result)
  sizes = subst (λ o. AreUsedSizes o used (i.used func args result)) outs_are e.sizes

  abbrev first_held : List Region
  first_held = take (length before) held

  found_before : (A : Checks) (x : ℕ) → FirstUnfilled memory.bytes first_held used x →
      Finds (size_checks up.changed up.pieces (i.outs func args) (i.used func args result) A) (BreachFound breach.Size x None)
  found_before A x first =
      subst (λ o. Finds (size_checks up.changed up.pieces o (i.used func args result) A) (BreachFound breach.Size x None)) (sym outs_are)
      (walk_unfilled memory up.changed first_held before more bs qs used (i.used func args result) A x (take_ranges held before more ranges) count sizes (take_all (IsWaiting regions) (length before) held waiting) fit agree first)

  found_after : (A : Checks) (f : Finding) → AllFilled memory.bytes first_held used →
      ((us ns : List ℕ) → AreUsedSizes more us ns → Finds (size_checks up.changed (map length qs) more ns A) f) →
      Finds (size_checks up.changed up.pieces (i.outs func args) (i.used func args result) A) f
  found_after A f all end =
      subst (λ o. Finds (size_checks up.changed up.pieces o (i.used func args result) A) f) (sym outs_are)
      (walk_filled memory up.changed first_held before more bs qs used (i.used func args result) A f (take_ranges held before more ranges) count sizes (take_all (IsWaiting regions) (length before) held waiting) fit agree all end)

  -- the key comes first, and is there
  abbrev checks_of : Option Committing → Checks
  checks_of o = return_checks (record i { commits = λ g b v. o }) (begin w) (seen past) up func args result

  past_key : (k n : ℕ) (f : Finding) → (in_use (begin w) k (seen past) ≡ None → ⊥) →
      Finds (size_checks up.changed up.pieces (i.outs func args) (i.used func args result) (commit_size_check up.changed up.committed (in_use (begin w) k (seen past)) n Done)) f →
      Finds (checks_of (Some (record { key = k; used = Some n }))) f
  past_key k n f there p = inr ((λ x bad. there bad.1), p)

  key_there : (k n : ℕ) → HasKey regions (Some (k, n)) → in_use (begin w) k (seen past) ≡ None → ⊥
  key_there k n has none = has k (no_region (prepared_region regions k) (h.stands.above.keys k ∙ none), refl)

  by_used : (k : ℕ) (u : Option ℕ) (c : Option (ℕ × ℕ)) (f : Finding) → c ≡ option_map (λ n. (k, n)) u → HasKey regions c →
      ((A : Checks) → Finds (size_checks up.changed up.pieces (i.outs func args) (i.used func args result) A) f) →
      Finds (checks_of (Some (record { key = k; used = u }))) f
  by_used k None c f is has p = p Done
  by_used k (Some n) c f is has p = past_key k n f (key_there k n (subst (HasKey regions) is has)) (p _)

  by_commit : (o : Option Committing) (c : Option (ℕ × ℕ)) (f : Finding) → IsCommitted o c → HasKey regions c →
      ((A : Checks) → Finds (size_checks up.changed up.pieces (i.outs func args) (i.used func args result) A) f) → Finds (checks_of o) f
  by_commit None c f is has p = p Done
  by_commit (Some q) c f is has p = by_used q.key q.used c f is has p

  whatever : (f : Finding) → HasKey regions committing →
      ((A : Checks) → Finds (size_checks up.changed up.pieces (i.outs func args) (i.used func args result) A) f) →
      Finds (ret_checks w past func args result (bs ++ qs)) f
  whatever f has p = by_commit (i.commits func args result) committing f e.committed has p

pub long_outs : (w : World) → LongPiecesOfRegionsAreFound w
long_outs w past memory t func args result used committing before after r bs rest b h e has outs_are count fit long = record {
  unfilled = λ x first. whatever w past memory t func args result used committing before (r ∷ after) bs (b ∷ rest) h e outs_are count fit
      (BreachFound breach.Size x None) has
      (λ A. found_before w past memory t func args result used committing before (r ∷ after) bs
      (b ∷ rest) h e outs_are count fit A x first);
  filled = λ all. whatever w past memory t func args result used committing before (r ∷ after) bs (b ∷ rest) h e outs_are count fit
      (BreachFound breach.Size r.addr None) has
      (λ A. found_after w past memory t func args result used committing before (r ∷ after) bs (b ∷ rest) h e outs_are count fit A
      (BreachFound breach.Size r.addr None) all (here A));
}
  where
    here : (A : Checks) (us ns : List ℕ) → AreUsedSizes (r ∷ after) us ns →
        Finds (size_checks (comes_up w past func args result (bs ++ b ∷ rest)).changed (map length (b ∷ rest)) (r ∷ after) ns A) (BreachFound breach.Size r.addr None)
    here A (u ∷ us) (n ∷ ns) s = inl (r.addr, ((refl, inl long), λ y bad. omega (arith, bad.0)), refl)
    here A [] ns s = absurd s
    here A (u ∷ us) [] s = absurd s

take_whole : (gs : List Region) (n : ℕ) → n ≡ length gs → take n gs ≡ gs
take_whole [] zero e = refl
take_whole [] (suc n) e = absurd (omega (arith, e))
take_whole (g ∷ gs) zero e = absurd (omega (arith, e))
take_whole (g ∷ gs) (suc n) e = ap (λ q. g ∷ q) (take_whole gs n (omega (arith, e)))

length_ranges : (gs : List Region) → length (map (λ (g : Region). g.range) gs) ≡ length gs
length_ranges [] = refl
length_ranges (g ∷ gs) = ap suc (length_ranges gs)

append_ranges : (rs : List Range) → rs ++ [] ≡ rs
append_ranges [] = refl
append_ranges (r ∷ rs) = ap (λ q. r ∷ q) (append_ranges rs)

pub long_committed : (w : World) → LongCommittedPiecesAreFound w
long_committed w past memory t func args result used committing k size r bs rest b h e commits there count fit long = record {
  unfilled = λ x first. decide (BreachFound breach.Size x None)
      (found_before w past memory t func args result used committing ((interface w).outs func args) [] bs
      (b ∷ rest) h e outs_are count fit last_check x (subst (λ gs. FirstUnfilled memory.bytes gs used x) (sym all_held) first));
  filled = λ all. decide (BreachFound breach.Size r.addr None)
      (found_after w past memory t func args result used committing ((interface w).outs func args) [] bs
      (b ∷ rest) h e outs_are count fit last_check (BreachFound breach.Size r.addr None)
      (subst (λ gs. AllFilled memory.bytes gs used) (sym all_held) all) (λ us ns s. last));
}
  where
    outs_are : (interface w).outs func args ≡ (interface w).outs func args ++ []
    outs_are = sym (append_ranges ((interface w).outs func args))

    all_held : take (length ((interface w).outs func args)) (outs_of (innermost memory.held t) memory.held.regions) ≡ outs_of (innermost memory.held t) memory.held.regions
    all_held =
        take_whole (outs_of (innermost memory.held t) memory.held.regions) (length ((interface w).outs func args))
        (sym (ap length (out_ranges w past memory t ((interface w).outs func args) h.stands.above e.thread (closing (open_calls (marks_of (begin w) t (seen past))) func args ((interface w).outs func args) e.closes)))
        ∙ length_ranges (outs_of (innermost memory.held t) memory.held.regions))

    last_check : Checks
    last_check = commit_size_check (comes_up w past func args result (bs ++ b ∷ rest)).changed (comes_up w past func args result (bs ++ b ∷ rest)).committed (in_use (begin w) k (seen past)) size Done

    decide : (f : Finding) →
        Finds (size_checks (comes_up w past func args result (bs ++ b ∷ rest)).changed (comes_up w past func args result (bs ++ b ∷ rest)).pieces ((interface w).outs func args) ((interface w).used func args result) last_check) f →
        Finds (ret_checks w past func args result (bs ++ b ∷ rest)) f
    decide f p = subst (λ o. Finds
        (return_checks (record (interface w) { commits = λ g c v. o }) (begin w) (seen past)
        (comes_up w past func args result (bs ++ b ∷ rest)) func args result) f) (sym commits)
        (inr ((λ x bad. some_none r (sym there ∙ bad.1)), p))

    committed_is : (comes_up w past func args result (bs ++ b ∷ rest)).committed ≡ length b
    committed_is = ap (λ n. length (get_or (bs ++ b ∷ rest) n [])) count ∙ ap length (at_length bs rest b)

    last : Finds last_check (BreachFound breach.Size r.addr None)
    last = subst (λ o. Finds (commit_size_check (comes_up w past func args result (bs ++ b ∷ rest)).changed
        (comes_up w past func args result (bs ++ b ∷ rest)).committed o size Done) (BreachFound breach.Size r.addr None)) (sym there)
        (inl (r.addr, ((refl, inl (omega (arith, committed_is, long))), λ y bad. omega (arith, bad.0)), refl))
