-- Pieces that were read of memory.
use Rattle.std.proofs.Common.{◌≡◌, ◌≢◌, ℕ, ◌+◌, ◌<◌, ◌≤◌, ◌^◌, true, List, [], ◌∷◌, ◌++◌, map, length, Option, None, refl, sym, ap, ◌∙◌, subst, arith}
use Rattle.std.proofs.lemmas.Bool.{and_from, and_parts, leb-true, le-leb, lt-ltb, ltb-true}
use Rattle.marks.specs.declared.range.Range.{Range}
use Rattle.marks.specs.Ranges.{Piece, any_piece, any_range, byte_at, covers, piece_ranges, within}
use Rattle.marks.specs.Bytes.{Cell, IsLive, Live, Shows}
use Rattle.marks.proofs.Touched.{or_true_left, or_true_right}
use Rattle.replay_runs.specs.Returns.{HaveCounts}
use Rattle.replay_runs.specs.Rules.{AreUsed, AreWhole}
use Rattle.whole_runs.specs.Memory.{Has, HasAll}
use Rattle.whole_runs_memory.specs.Plain.{IsReally}
use Rattle.reference_recorder_call_events.specs.Memory.{AreRead, IsPieceOf}
use Rattle.reference_recorder_call_events.proofs.There.{read_live, read_there}

-- ---- ranges

within_more : (at n m x : ℕ) → n ≤ m → within at n x ≡ true → within at m x ≡ true
within_more at n m x le e =
    let p = and_parts _ _ e in
    let low = leb-true at x p.0 in
    let high = ltb-true x (at + n) p.1 in
    and_from _ _ (le-leb at x low) (lt-ltb x (at + m) (omega (arith, high, le)))

abbrev sizes_of : List Range → List ℕ
sizes_of rs = map (λ (r : Range). r.len) rs

module _ (memory : ℕ → Option ℕ) where
  pub ranges_read : (rs : List Range) (ns : List ℕ) (ps : List Piece) → AreRead memory rs ns ps → piece_ranges ps ≡ rs
  ranges_read [] [] [] h = refl
  ranges_read [] [] (p ∷ ps) h = absurd h
  ranges_read [] (n ∷ ns) ps h = absurd h
  ranges_read (r ∷ rs) [] ps h = absurd h
  ranges_read (r ∷ rs) (n ∷ ns) [] h = absurd h
  ranges_read (r ∷ rs) (n ∷ ns) (p ∷ ps) h = (λ j. h.0.range_is j ∷ ranges_read rs ns ps h.1 j)

  pub counts_read : (rs : List Range) (ns : List ℕ) (ps : List Piece) → AreRead memory rs ns ps → HaveCounts ns ps
  counts_read [] [] [] h = tt
  counts_read [] [] (p ∷ ps) h = absurd h
  counts_read [] (n ∷ ns) ps h = absurd h
  counts_read (r ∷ rs) [] ps h = absurd h
  counts_read (r ∷ rs) (n ∷ ns) [] h = absurd h
  counts_read (r ∷ rs) (n ∷ ns) (p ∷ ps) h = (h.0.read.counted, h.0.read.small, counts_read rs ns ps h.1)

  -- ---- all bytes of ranges

  pub whole_read : (rs : List Range) (ps : List Piece) → AreRead memory rs (sizes_of rs) ps → AreWhole ps
  whole_read [] [] h = tt
  whole_read [] (p ∷ ps) h = absurd h
  whole_read (r ∷ rs) [] h = absurd h
  whole_read (r ∷ rs) (p ∷ ps) h = (h.0.read.counted ∙ ap (λ (q : Range). q.len) (sym h.0.range_is), whole_read rs ps h.1)

  -- of live bytes they show what a replay has there
  module _ (cell : ℕ → Cell) where
    pub shows_read : (rs : List Range) (ps : List Piece) → AreRead memory rs (sizes_of rs) ps →
        ((x : ℕ) → any_range rs x ≡ true → IsLive (cell x) × IsReally (cell x) (memory x) × (x < 2 ^ 64)) → (x : ℕ) → Shows ps x (cell x)
    shows_read [] [] h live x = tt
    shows_read [] (p ∷ ps) h live x = absurd h
    shows_read (r ∷ rs) [] h live x = absurd h
    shows_read (r ∷ rs) (p ∷ ps) h live x = (here, shows_read rs ps h.1 (λ y e. live y (or_true_right (covers r y) (any_range rs y) e)) x)
      where
        here : covers p.range x ≡ true → cell x ≡ Live (byte_at p.range.addr p.bytes x)
        here e =
            let inside : covers r x ≡ true = subst (λ (q : Range). covers q x ≡ true) h.0.range_is e in
            let l = live x (or_true_left (covers r x) (any_range rs x) inside) in
            read_live (cell x) (memory x) (byte_at p.range.addr p.bytes x) l.0 l.1
            (ap (λ (q : Range). byte_at q.addr p.bytes x) h.0.range_is ∙ h.0.read.shown x inside l.2)

  -- ---- pieces of which each byte is there

  pub has_read : (r : Range) (n : ℕ) (p : Piece) → IsPieceOf memory r n p → n ≤ r.len →
      ((x : ℕ) → covers r x ≡ true → (x < 2 ^ 64) × (memory x ≢ None)) → Has memory p.range.addr p.bytes
  has_read r n p h le there x e =
      let here : within r.addr n x ≡ true =
      subst (λ (k : ℕ). within r.addr k x ≡ true) h.read.counted (subst (λ (q : Range). within q.addr (length p.bytes) x ≡ true) h.range_is e) in
      let t = there x (within_more r.addr n r.len x le here) in
      read_there (memory x) (byte_at p.range.addr p.bytes x) t.1
      (ap (λ (q : Range). byte_at q.addr p.bytes x) h.range_is ∙ h.read.shown x here t.0)

  pub all_has : (rs : List Range) (ns : List ℕ) (ps : List Piece) → AreRead memory rs ns ps → AreUsed ns ps →
      ((x : ℕ) → any_piece ps x ≡ true → (x < 2 ^ 64) × (memory x ≢ None)) → HasAll memory ps
  all_has [] [] [] h used there = tt
  all_has [] [] (p ∷ ps) h used there = absurd h
  all_has [] (n ∷ ns) ps h used there = absurd h
  all_has (r ∷ rs) [] ps h used there = absurd h
  all_has (r ∷ rs) (n ∷ ns) [] h used there = absurd h
  all_has (r ∷ rs) (n ∷ ns) (p ∷ ps) h used there = (
    has_read r n p h.0 (subst (λ (q : Range). n ≤ q.len) h.0.range_is used.0.1)
        (λ x e. there x (or_true_left (covers p.range x) (any_piece ps x) (subst (λ (q : Range). covers q x ≡ true) (sym h.0.range_is) e))),
    all_has rs ns ps h.1 used.1 (λ x e. there x (or_true_right (covers p.range x) (any_piece ps x) e)),
  )

  pub has_both : (ps qs : List Piece) → HasAll memory ps → HasAll memory qs → HasAll memory (ps ++ qs)
  has_both [] qs h k = k
  has_both (p ∷ ps) qs h k = (h.0, has_both ps qs h.1 k)
