use Rattle.std.proofs.Common.{◌≡◌, ◌+◌, ◌-◌, ℕ, List, Some, length, get_or, cond, ap, sym, subst, ◌∙◌, arith}
use Rattle.std.specs.Vec.{with_items}
use Rattle.std.proofs.lemmas.List.{with_items_is}
use Rattle.marks.specs.Ranges.{covers}
use Rattle.space_memory_bytes.specs.Marks.{cells_in, AreMarks, PutsAt}
use Rattle.space_memory_bytes.proofs.Marks.{length_is, are_grown, changed}
use Rattle.space_memory_bytes.proofs.marked_bytes.MarkedBytes.put.Goals as goal

pub overflow_add-to : goal.overflow_add-to
overflow_add-to c = omega (arith, c.requires.ends)

pub fill_grown-requires-clause-room : goal.fill_grown-requires-clause-room
fill_grown-requires-clause-room c = omega (arith, c.requires.in_cells, c.self.invariant.1, length_is _ _ _ c.self.invariant.0 _ c.self.view_is)

pub grow-requires : goal.grow-requires
grow-requires c = omega (arith, c.requires.in_cells, c.self.invariant.2, length_is _ _ _ c.self.invariant.0 _ c.self.view_is)

-- the marks of the bytes are 1
marked_from : (old new : List ℕ) (at n m : ℕ) → m ≡ n → ((k : ℕ) → get_or new k 0 ≡ cond (covers (record { addr = at; len = m }) k) 1 (get_or old k 0)) → (k : ℕ) → get_or new k 0 ≡ cond (covers (record { addr = at; len = n }) k) 1 (get_or old k 0)
marked_from old new at n m same are k = are k ∙ ap (λ len. cond (covers (record { addr = at; len = len }) k) 1 (get_or old k 0)) same

pub invariant_of-self : goal.invariant_of-self
invariant_of-self c =
    let at = c.args.at in
    let n = length c.args.bytes.now in
    let values : (with_items c.grow.new.bytes c.put_part.new.bytes).items ≡ c.put_part.new.bytes = with_items_is c.grow.new.bytes c.put_part.new.bytes (c.put_part.ensures.len ∙ c.deref_mut.ensures.len) in
    let values_len = c.put_part.ensures.len ∙ ap (λ (xs : List ℕ). length xs) c.deref_mut.ensures.value ∙ c.grow.ensures.len in
    let marks_are = marked_from c.self.inside.marks.items c.fill_grown.new.bytes.items at n (at + n - at) (omega arith) c.fill_grown.ensures.filled in (
      subst (λ (vs : List ℕ). AreMarks c.self.inside.size c.fill_grown.new.bytes.items vs) (sym values)
          (are_grown _ _ _ c.self.invariant.0 c.args.self.now c.self.view_is c.fill_grown.new.bytes.items c.put_part.new.bytes (at + n) at n c.requires.in_cells c.fill_grown.ensures.len values_len marks_are),
      omega (arith, c.self.invariant.1, c.fill_grown.ensures.capacity),
      omega (arith, c.self.invariant.2, c.grow.ensures.capacity),
    )

pub returns : goal.returns
returns c =
    let at = c.args.at in
    let n = length c.args.bytes.now in
    let marks = c.fill_grown.new.bytes.items in
    let values : (with_items c.grow.new.bytes c.put_part.new.bytes).items ≡ c.put_part.new.bytes = with_items_is c.grow.new.bytes c.put_part.new.bytes (c.put_part.ensures.len ∙ c.deref_mut.ensures.len) in
    let values_len = c.put_part.ensures.len ∙ ap (λ (xs : List ℕ). length xs) c.deref_mut.ensures.value ∙ c.grow.ensures.len in
    let marks_are = marked_from c.self.inside.marks.items marks at n (at + n - at) (omega arith) c.fill_grown.ensures.filled in
    let are = are_grown _ _ _ c.self.invariant.0 c.args.self.now c.self.view_is marks c.put_part.new.bytes (at + n) at n c.requires.in_cells c.fill_grown.ensures.len values_len marks_are in
    let values_are = λ (k : ℕ). c.put_part.ensures.put k
    ∙ ap (λ (xs : List ℕ). cond (covers (record { addr = at; len = n }) k) (get_or c.args.bytes.now (k - at) 0) (get_or xs k 0)) c.deref_mut.ensures.value
    ∙ ap (λ v. cond (covers (record { addr = at; len = n }) k) (get_or c.args.bytes.now (k - at) 0) v) (c.grow.ensures.same k) in
    subst (λ (vs : List ℕ). PutsAt at n (λ i. Some (get_or c.args.bytes.now i 0)) c.args.self.now (cells_in c.self.inside.size marks vs)) (sym values)
    (changed _ _ _ c.self.invariant.0 c.args.self.now c.self.view_is marks c.put_part.new.bytes at n (λ i. 1) (λ i. get_or c.args.bytes.now i 0) are marks_are values_are)
