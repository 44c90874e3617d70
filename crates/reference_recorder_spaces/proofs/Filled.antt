-- The regions that a Ret gives back are filled as its pieces say.
use Rattle.std.proofs.Common.{◌≡◌, ℕ, ◌+◌, ◌-◌, ◌<◌, ◌≤◌, Bool, true, false, ◌||◌, eqb, eqb-true, List, [], ◌∷◌, map, length, get_or, drop, All, Some, inl, inr, refl, sym, ◌∙◌, ap, arith}
use Rattle.std.specs.Prelude.{slice_index}
use Rattle.std.proofs.lemmas.Bool.{cases_Bool, cases_lt, cond-true, cond-false, or_parts, true≢false}
use Rattle.std.proofs.lemmas.List.{get_or-drop, length-drop}
use Rattle.std.proofs.lemmas.List.Elements.{All-cons, All-head, All-nil, All-tail}
use Rattle.marks.specs.declared.range.Range.{Range}
use Rattle.marks.specs.Ranges.{Piece, any_piece, any_range, covers, piece_ranges}
use Rattle.space_memory_bytes.specs.Areas.{AreaState, byte_at}
use Rattle.space_memory_access.specs.declared.holder.Region.{Region}
use Rattle.replay_runs.specs.Rules.{Apart}
use Rattle.replay_runs.proofs.Holding.{piece_range_of}
use Rattle.space_memory.specs.Releases.{AllFilled, FirstUnfilled, IsFilled, used_of}
use Rattle.space_memory.specs.Spaces.{SpaceState}
use Rattle.space_memory_laws.specs.Returns.{FitsIn, used_at}
use Rattle.space_memory_laws.specs.Shown.{value_when_held}
use Rattle.space_memory_laws.proofs.Cells.{cover_parts, covered}
use Rattle.space_memory_laws.proofs.Gone.{IsWaiting, used_same}
use Rattle.reference_recorder_spaces.specs.Next.{IsUntouched, filled_range}

or_true : (a : Bool) {b : Bool} → b ≡ true → (a || b) ≡ true
or_true true e = refl
or_true false e = e

-- ---- the bytes of pieces

filled_inside : (p : Piece) (x : ℕ) → FitsIn p → covers (filled_range p) x ≡ true → covers p.range x ≡ true
filled_inside p x fit c = let q = cover_parts (filled_range p) x c in covered p.range x q.0 (let to = q.1 in omega (arith, to, fit))

pub not_filled : (p : Piece) (x : ℕ) → FitsIn p → covers p.range x ≡ false → covers (filled_range p) x ≡ false
not_filled p x fit e = elim (cases_Bool (covers (filled_range p) x)) [
  | inl c ↦ absurd (true≢false (sym (filled_inside p x fit c) ∙ e))
  | inr out ↦ out
]

pub none_filled : (ps : List Piece) (x : ℕ) → All FitsIn ps → any_piece ps x ≡ false → any_range (map filled_range ps) x ≡ false
none_filled [] x fits e = refl
none_filled (p ∷ ps) x fits e =
    let q = or_parts (covers p.range x) (any_piece ps x) e in
    ap (λ b. b || any_range (map filled_range ps) x) (not_filled p x (All-head FitsIn p ps fits) q.0) ∙ none_filled ps x (All-tail FitsIn p ps fits) q.1

-- all of them are used, since none is at address 0
pub all_used : (p : Piece) → FitsIn p → covers p.range 0 ≡ false → length p.bytes ≡ used_at p.range (length p.bytes)
all_used p fit away = elim (cases_Bool (eqb p.range.addr 0)) [
  | inl is ↦
      let at : p.range.addr ≡ 0 = eqb-true p.range.addr 0 is in
      let none : length p.bytes ≡ 0 = elim (cases_lt 0 p.range.len) [
        | inl some ↦ absurd (true≢false (sym (covered p.range 0 (omega (arith, at)) (omega (arith, at, some))) ∙ away))
        | inr le ↦ omega (arith, le, fit)
      ] in
      none ∙ sym (cond-true (eqb p.range.addr 0) 0 (length p.bytes) is)
  | inr not ↦ sym (cond-false (eqb p.range.addr 0) 0 (length p.bytes) not)
]

-- ---- regions

pub none_unfilled : (bytes : List AreaState) (gs : List Region) (ns : List ℕ) (x : ℕ) → AllFilled bytes gs ns → FirstUnfilled bytes gs ns x → ⊥
none_unfilled bytes [] ns x filled first = first
none_unfilled bytes (g ∷ gs) [] x filled first = first
none_unfilled bytes (g ∷ gs) (n ∷ ns) x filled first = elim first [
  | inl here ↦ here.0 filled.0
  | inr more ↦ none_unfilled bytes gs ns x filled.1 more.1
]

module _ (old new : SpaceState) where
  -- past the bytes of a piece its range is as it was
  abbrev EndsAsWas : Piece → Type 0
  EndsAsWas p = (x : ℕ) → covers p.range x ≡ true → covers (filled_range p) x ≡ false → byte_at new.bytes x ≡ byte_at old.bytes x

  pub all_end : (ps : List Piece) → All FitsIn ps → Apart (piece_ranges ps) →
      ((x : ℕ) → any_piece ps x ≡ true → any_range (map filled_range ps) x ≡ false → byte_at new.bytes x ≡ byte_at old.bytes x) → All EndsAsWas ps
  all_end [] fits apart others = All-nil EndsAsWas
  all_end (p ∷ ps) fits apart others = All-cons EndsAsWas p ps
      (λ x c out. others x (ap (λ b. b || any_piece ps x) c) (ap (λ b. b || any_range (map filled_range ps) x) out ∙ none_filled ps x (All-tail FitsIn p ps fits) (alone x c)))
      (all_end ps (All-tail FitsIn p ps fits) apart.1 (λ x some none. others x (or_true (covers p.range x) some) (ap (λ b. b || any_range (map filled_range ps) x) (outside x some) ∙ none)))
    where
      alone : (x : ℕ) → covers p.range x ≡ true → any_piece ps x ≡ false
      alone x c = sym (piece_range_of ps x) ∙ apart.0 x c

      outside : (x : ℕ) → any_piece ps x ≡ true → covers (filled_range p) x ≡ false
      outside x some = not_filled p x (All-head FitsIn p ps fits) (elim (cases_Bool (covers p.range x)) [ inl c ↦ absurd (true≢false (sym some ∙ alone x c)) | inr out ↦ out ])

  module _ (untouched : IsUntouched old) where
    module _ (g : Region) (p : Piece) (same : g.range ≡ p.range) (waits : IsWaiting old.held.regions g) (fit : FitsIn p) (away : covers p.range 0 ≡ false) (ends : EndsAsWas p) where
      abbrev used : ℕ
      used = used_of g (length p.bytes)

      abbrev later : List ℕ
      later = drop used g.before

      used_is : used ≡ length p.bytes
      used_is = used_same new.bytes old.held.regions g p (length p.bytes) same ∙ sym (all_used p fit away)

      from : g.range.addr ≡ p.range.addr
      from = ap (λ (q : Range). q.addr) same

      used_fits : used ≤ g.range.len
      used_fits = let len : g.range.len ≡ p.range.len = ap (λ (q : Range). q.len) same in omega (arith, used_is, len, fit)

      past_used : (x : ℕ) → g.range.addr + used ≤ x → covers (filled_range p) x ≡ false
      past_used x le = elim (cases_Bool (covers (filled_range p) x)) [
        | inl in' ↦ (let to = (cover_parts (filled_range p) x in').1 in absurd (omega (arith, to, le, from, used_is)))
        | inr out ↦ out
      ]

      filled_rest : (i : ℕ) → i < length later → byte_at new.bytes (g.range.addr + used + i) ≡ Some (slice_index later i)
      filled_rest i lt =
          let x = g.range.addr + used + i in
          let inside : used + i < g.range.len = omega (arith, lt, length-drop used g.before, waits.whole, used_fits) in
          let c : covers g.range x ≡ true = covered g.range x (omega arith) (omega (arith, inside)) in
          let off : x - g.range.addr ≡ used + i = omega arith in
          let was : value_when_held old.held.regions x ≡ Some (slice_index later i) =
          waits.value x c ∙ ap (λ v. Some v) (ap (λ j. get_or g.before j 0) off ∙ sym (get_or-drop used g.before i 0)) in
          ends x (ap (λ q. covers q x) (sym same) ∙ c) (past_used x (omega arith)) ∙ untouched x (slice_index later i) was

      filled_region : IsFilled new.bytes (length p.bytes) g
      filled_region = record { fits = used_fits; rest = filled_rest }

    pub all_filled : (gs : List Region) (ps : List Piece) → map (λ (g : Region). g.range) gs ≡ piece_ranges ps → All (IsWaiting old.held.regions) gs → All FitsIn ps →
        any_piece ps 0 ≡ false → All EndsAsWas ps → AllFilled new.bytes gs (map (λ (p : Piece). length p.bytes) ps)
    all_filled [] ps same waits fits away ends = tt
    all_filled (g ∷ gs) [] same waits fits away ends = absurd cc
    all_filled (g ∷ gs) (p ∷ ps) same waits fits away ends =
        let q = or_parts (covers p.range 0) (any_piece ps 0) away in (
          filled_region g p (heads g.range p.range (map (λ (g : Region). g.range) gs) (piece_ranges ps) same) (All-head (IsWaiting old.held.regions) g gs waits) (All-head FitsIn p ps fits) q.0 (All-head EndsAsWas p ps ends),
          all_filled gs ps (tails g.range p.range (map (λ (g : Region). g.range) gs) (piece_ranges ps) same) (All-tail (IsWaiting old.held.regions) g gs waits) (All-tail FitsIn p ps fits) q.1 (All-tail EndsAsWas p ps ends),
        )
      where
        heads : (a b : Range) (as' bs : List Range) → ◌≡◌ {A = List Range} (a ∷ as') (b ∷ bs) → a ≡ b
        heads a b as' bs e = cc

        tails : (a b : Range) (as' bs : List Range) → ◌≡◌ {A = List Range} (a ∷ as') (b ∷ bs) → as' ≡ bs
        tails a b as' bs e = cc
