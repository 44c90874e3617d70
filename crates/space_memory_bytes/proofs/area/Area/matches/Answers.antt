use Rattle.std.proofs.Common.{◌≡◌, ℕ, ◌+◌, ◌-◌, ◌<◌, ◌≤◌, true, false, List, Option, None, Some, length, get_or, ap, sym, subst, ◌∙◌, arith}
use Rattle.std.proofs.lemmas.Bool.Decides.{Decides-eqb}
use Rattle.std.proofs.lemmas.List.{ext_get_or, get_or_past}
use Rattle.std.proofs.lemmas.Slice.Eq.{slice_eq-Decides}
use Rattle.space_memory_bytes.specs.Areas.{AreaState, cell}
use Rattle.space_memory_bytes.proofs.Cells.{cell_from}
use Rattle.space_memory_bytes.proofs.Lookup.{holds_parts}
use Rattle.space_memory_bytes.proofs.area.Area.matches.Goals as goal

-- the area has these bytes from the address on
abbrev Has : AreaState → ℕ → List ℕ → Type 0
Has a addr bytes = (i : ℕ) → i < length bytes → cell a (addr + i) ≡ Some (get_or bytes i 0)

some_same : (x y : ℕ) (o : Option ℕ) → o ≡ Some x → o ≡ Some y → x ≡ y
some_same x y o p q = let both : Some x ≡ Some y = sym p ∙ q in cc

not_both : (o : Option ℕ) (x : ℕ) → o ≡ None → o ≡ Some x → ⊥
not_both o x p q = let both : None ≡ Some x = sym p ∙ q in absurd (cc)

-- more bytes than the area has from there on
no_room : (base at addr : ℕ) (cells : List (Option ℕ)) (bytes : List ℕ) → base + at ≡ addr → at < length cells → length cells < at + length bytes → Has (record { base = base; cells = cells }) addr bytes → ⊥
no_room base at addr cells bytes place inner more has =
    let i = length bytes - 1 in
    not_both (get_or cells (at + i) None) (get_or bytes i 0) (get_or_past cells (at + i) None (omega arith)) (sym (cell_from base at addr i cells place) ∙ has i (omega arith))

-- one of them is dead
one_dead : (base at addr k : ℕ) (cells : List (Option ℕ)) (bytes : List ℕ) → base + at ≡ addr → at ≤ k → k < at + length bytes → get_or cells k None ≡ None → Has (record { base = base; cells = cells }) addr bytes → ⊥
one_dead base at addr k cells bytes place low high dead has =
    let i = k - at in
    not_both (get_or cells k None) (get_or bytes i 0) dead (ap (λ j. get_or cells j None) (omega arith) ∙ sym (cell_from base at addr i cells place) ∙ has i (omega arith))

-- or all live, and are those or aren't
same_bytes : (base at addr : ℕ) (cells : List (Option ℕ)) (bytes part : List ℕ) → base + at ≡ addr → length part ≡ length bytes → ((i : ℕ) → i < length part → get_or cells (at + i) None ≡ Some (get_or part i 0)) → part ≡ bytes → Has (record { base = base; cells = cells }) addr bytes
same_bytes base at addr cells bytes part place len values same i lt =
    cell_from base at addr i cells place ∙ values i (omega arith) ∙ ap (λ (xs : List ℕ). Some (get_or xs i 0)) same

bytes_same : (base at addr : ℕ) (cells : List (Option ℕ)) (bytes part : List ℕ) → base + at ≡ addr → length part ≡ length bytes → ((i : ℕ) → i < length part → get_or cells (at + i) None ≡ Some (get_or part i 0)) → Has (record { base = base; cells = cells }) addr bytes → part ≡ bytes
bytes_same base at addr cells bytes part place len values has =
    ext_get_or 0 part bytes len (λ i lt. some_same (get_or part i 0) (get_or bytes i 0) (get_or cells (at + i) None) (values i lt) (sym (cell_from base at addr i cells place) ∙ has i (omega arith)))

pub returns-then-bytes-room : goal.returns-then-bytes-room
returns-then-bytes-room c =
    let inside = holds_parts c.args.self.now c.args.addr c.requires in
    let base = ap (λ (a : AreaState). a.base) c.self.view_is in
    let size = ap (λ (a : AreaState). length a.cells) c.self.view_is in
    let at = c.args.addr - c.self.inside.base in (
      λ (no : false ≡ true). absurd (cc),
      λ has. absurd (no_room c.self.inside.base at c.args.addr c.self.inside.cells c.args.bytes.now (omega (arith, inside.0, base)) (omega (arith, inside.0, inside.1, base, size)) (omega (arith, c.len.ensures, inside.0, inside.1, base, size))
          (subst (λ (a : AreaState). Has a c.args.addr c.args.bytes.now) (sym c.self.view_is) has)),
    )

pub returns-in-Some : goal.returns-in-Some
returns-in-Some c =
    let inside = holds_parts c.args.self.now c.args.addr c.requires in
    let base = ap (λ (a : AreaState). a.base) c.self.view_is in
    let at = c.args.addr - c.self.inside.base in (
      λ (no : false ≡ true). absurd (cc),
      λ has. absurd (one_dead c.self.inside.base at c.args.addr c.in-Some.field-0 c.self.inside.cells c.args.bytes.now (omega (arith, inside.0, base)) c.in-Some.ensures.0.low c.in-Some.ensures.0.high c.in-Some.ensures.1
          (subst (λ (a : AreaState). Has a c.args.addr c.args.bytes.now) (sym c.self.view_is) has)),
    )

pub part-requires-clause-live : goal.part-requires-clause-live
part-requires-clause-live c = λ i lt dead. c.in-None.ensures (c.args.addr - c.self.inside.base + i) (omega arith) (omega (arith, lt)) dead

pub returns-in-None : goal.returns-in-None
returns-in-None c =
    let inside = holds_parts c.args.self.now c.args.addr c.requires in
    let base = ap (λ (a : AreaState). a.base) c.self.view_is in
    let at = c.args.addr - c.self.inside.base in
    let place : c.self.inside.base + at ≡ c.args.addr = omega (arith, inside.0, base) in
    let len : length c.part.result.now ≡ length c.args.bytes.now = omega (arith, c.part.ensures.len) in
    let decides = slice_eq-Decides Decides-eqb c.part.result.now c.args.bytes.now c.eq.result c.eq.ensures in (
      λ yes. subst (λ (a : AreaState). Has a c.args.addr c.args.bytes.now) c.self.view_is (same_bytes c.self.inside.base at c.args.addr c.self.inside.cells c.args.bytes.now c.part.result.now place len c.part.ensures.values (decides.0 yes)),
      λ has. decides.1 (bytes_same c.self.inside.base at c.args.addr c.self.inside.cells c.args.bytes.now c.part.result.now place len c.part.ensures.values (subst (λ (a : AreaState). Has a c.args.addr c.args.bytes.now) (sym c.self.view_is) has)),
    )
