use Rattle.std.proofs.Common.{◌≡◌, ℕ, ◌-◌, List, length, get_or, take, cond, ap, sym, subst, ◌∙◌, arith}
use Rattle.std.specs.Vec.{with_items}
use Rattle.std.proofs.lemmas.List.{with_items_is, length-take-le, get_or-take}
use Rattle.marks.specs.Ranges.{covers}
use Rattle.space_memory_bytes.specs.Marks.{cells_in, WritesDigits}
use Rattle.space_memory_bytes.proofs.Marks.{live_within, overwritten, digit_of}
use Rattle.space_memory_bytes.proofs.marked_bytes.MarkedBytes.overwrite_with.Goals as goal

pub put_part-requires : goal.put_part-requires
put_part-requires c =
    let eight : length c.to_le_bytes.result ≡ 8 = ap (λ (xs : List ℕ). length xs) c.to_le_bytes.ensures in
    let len : length (take c.args.n c.to_le_bytes.result) ≡ c.args.n = length-take-le c.args.n c.to_le_bytes.result (omega (arith, eight)) in
    let within = live_within _ _ _ c.self.invariant.0 c.args.self.now c.self.view_is c.args.at c.args.n c.requires.some (c.are_live.ensures.0 c.if-are_live.true) in
    omega (arith, len, within, c.deref_mut.ensures.len, c.self.invariant.0.same)

pub returns-then-are_live-clause-written : goal.returns-then-are_live-clause-written
returns-then-are_live-clause-written c =
    let at = c.args.at in
    let n = c.args.n in
    let part = take n c.to_le_bytes.result in
    let eight : length c.to_le_bytes.result ≡ 8 = ap (λ (xs : List ℕ). length xs) c.to_le_bytes.ensures in
    let len : length part ≡ n = length-take-le n c.to_le_bytes.result (omega (arith, eight)) in
    let values : (with_items c.self.inside.values c.put_part.new.bytes).items ≡ c.put_part.new.bytes = with_items_is c.self.inside.values c.put_part.new.bytes (c.put_part.ensures.len ∙ c.deref_mut.ensures.len) in
    subst (λ (vs : List ℕ). WritesDigits at n c.args.value c.args.self.now (cells_in c.self.inside.size c.self.inside.marks.items vs)) (sym values)
    (overwritten _ c.self.inside.marks.items c.self.inside.values.items c.self.invariant.0 c.args.self.now c.self.view_is c.put_part.new.bytes part at n c.args.value
    (c.put_part.ensures.len ∙ ap (λ (xs : List ℕ). length xs) c.deref_mut.ensures.value)
    (c.are_live.ensures.0 c.if-are_live.true)
    (λ i lt. get_or-take n c.to_le_bytes.result i 0 lt ∙ ap (λ (xs : List ℕ). get_or xs i 0) c.to_le_bytes.ensures ∙ digit_of c.args.value i (omega arith))
    (λ k. c.put_part.ensures.put k
    ∙ ap (λ m. cond (covers (record { addr = at; len = m }) k) (get_or part (k - at) 0) (get_or c.deref_mut.result.now k 0)) len
    ∙ ap (λ (xs : List ℕ). cond (covers (record { addr = at; len = n }) k) (get_or part (k - at) 0) (get_or xs k 0)) c.deref_mut.ensures.value))
