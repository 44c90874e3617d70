use Rattle.std.proofs.Common.{◌≡◌, ◌+◌, ◌-◌, ℕ, List, Option, length, get_or, cond, ap, sym, subst, ◌∙◌, arith}
use Rattle.std.specs.Vec.{with_items}
use Rattle.std.proofs.lemmas.List.{with_items_is}
use Rattle.marks.specs.Ranges.{covers}
use Rattle.space_memory_bytes.specs.Marks.{cells_in, AreMarks, PutsAt}
use Rattle.space_memory_bytes.proofs.Marks.{length_is, still_bits, stays_within, are_grown, changed}
use Rattle.space_memory_bytes.proofs.marked_bytes.MarkedBytes.fill.Goals as goal

pub fill_grown-requires-clause-room : goal.fill_grown-requires-clause-room
fill_grown-requires-clause-room c = omega (arith, c.requires.in_cells, c.self.invariant.1, length_is _ _ _ c.self.invariant.0 _ c.self.view_is)

pub fill_grown-requires-in-Some-clause-room : goal.fill_grown-requires-in-Some-clause-room
fill_grown-requires-in-Some-clause-room c = omega (arith, c.requires.in_cells, c.self.invariant.2, length_is _ _ _ c.self.invariant.0 _ c.self.view_is)

pub invariant_of-self : goal.invariant_of-self
invariant_of-self c = (
  are_grown _ _ _ c.self.invariant.0 c.args.self.now c.self.view_is c.fill_grown.new.bytes.items c.fill_grown-in-Some.new.bytes.items c.args.to c.args.from (c.args.to - c.args.from) c.requires.in_cells c.fill_grown.ensures.len c.fill_grown-in-Some.ensures.len c.fill_grown.ensures.filled,
  omega (arith, c.self.invariant.1, c.fill_grown.ensures.capacity),
  omega (arith, c.self.invariant.2, c.fill_grown-in-Some.ensures.capacity),
)

-- live bytes
pub returns-in-Some : goal.returns-in-Some
returns-in-Some c =
    let at = c.args.from in
    let n = c.args.to - c.args.from in
    let marks = c.fill_grown.new.bytes.items in
    let values = c.fill_grown-in-Some.new.bytes.items in
    let are : AreMarks c.self.inside.size marks values = are_grown _ _ _ c.self.invariant.0 c.args.self.now c.self.view_is marks values c.args.to at n c.requires.in_cells c.fill_grown.ensures.len c.fill_grown-in-Some.ensures.len c.fill_grown.ensures.filled in
    subst (λ (b : Option ℕ). PutsAt at n (λ i. b) c.args.self.now (cells_in c.self.inside.size marks values)) (sym c.in-Some.is)
    (changed _ _ _ c.self.invariant.0 c.args.self.now c.self.view_is marks values at n (λ i. 1) (λ i. c.in-Some.value) are c.fill_grown.ensures.filled c.fill_grown-in-Some.ensures.filled)

-- dead bytes keep their values
pub returns-in-None : goal.returns-in-None
returns-in-None c =
    let at = c.args.from in
    let n = c.args.to - c.args.from in
    let before = c.self.inside.values.items in
    let marks : (with_items c.self.inside.marks c.unmark.new.marks).items ≡ c.unmark.new.marks = with_items_is c.self.inside.marks c.unmark.new.marks (c.unmark.ensures.len ∙ c.deref_mut.ensures.len) in
    let len : length c.unmark.new.marks ≡ length c.self.inside.marks.items = c.unmark.ensures.len ∙ ap (λ (xs : List ℕ). length xs) c.deref_mut.ensures.value in
    let marks_are = λ (k : ℕ). c.unmark.ensures.unmarked k ∙ ap (λ (xs : List ℕ). cond (covers (record { addr = at; len = n }) k) 0 (get_or xs k 0)) c.deref_mut.ensures.value in
    let are : AreMarks c.self.inside.size c.unmark.new.marks before = record {
      same = c.self.invariant.0.same ∙ sym len;
      within = omega (arith, len, c.self.invariant.0.within);
      bits = still_bits c.self.inside.marks.items c.unmark.new.marks at n (λ i. 0) marks_are (λ i. omega arith) c.self.invariant.0.bits;
    } in
    subst (λ (ms : List ℕ). PutsAt at n (λ i. c.args.byte) c.args.self.now (cells_in c.self.inside.size ms before)) (sym marks)
    (subst (λ (b : Option ℕ). PutsAt at n (λ i. b) c.args.self.now (cells_in c.self.inside.size c.unmark.new.marks before)) (sym c.in-None.is)
    (changed _ _ _ c.self.invariant.0 c.args.self.now c.self.view_is c.unmark.new.marks before at n (λ i. 0) (λ i. get_or before (at + i) 0) are marks_are (stays_within before at n)))
