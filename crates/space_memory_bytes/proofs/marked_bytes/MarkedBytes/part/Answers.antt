use Rattle.std.proofs.Common.{ℕ, ◌+◌, ◌-◌, ◌<◌, List, Some, get_or, drop, ap, sym, ◌∙◌, arith}
use Rattle.std.proofs.lemmas.List.{length-take, get_or-take, get_or-drop}
use Rattle.space_memory_bytes.proofs.Marks.{live_within, value_is}
use Rattle.space_memory_bytes.proofs.marked_bytes.MarkedBytes.part.Goals as goal

-- where there are some, they end within the marks
pub slice_bounds-result-end-2 : goal.slice_bounds-result-end-2
slice_bounds-result-end-2 c =
    let within = live_within _ _ _ c.self.invariant.0 c.args.self.now c.self.view_is c.args.from (c.args.to - c.args.from) (omega arith) c.requires.live in
    omega (arith, within, c.requires.order, c.deref.ensures.len, c.self.invariant.0.same)

pub returns-clause-values : goal.returns-clause-values
returns-clause-values c = λ i lt.
    let n = c.args.to - c.args.from in
    let few : i < n = omega (arith, lt, length-take n (drop c.args.from c.deref.result.now)) in
    value_is _ _ _ c.self.invariant.0 c.args.self.now c.self.view_is (c.args.from + i) (c.requires.live i few)
    ∙ ap (λ (xs : List ℕ). Some (get_or xs (c.args.from + i) 0)) (sym c.deref.ensures.value)
    ∙ ap (λ v. Some v) (sym (get_or-take n (drop c.args.from c.deref.result.now) i 0 few ∙ get_or-drop c.args.from c.deref.result.now i 0))
