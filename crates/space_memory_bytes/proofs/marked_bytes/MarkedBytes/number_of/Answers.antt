use Rattle.std.proofs.Common.{ℕ, ◌+◌, List, get_or, ap, ◌∙◌, arith}
use Rattle.space_memory_bytes.proofs.Marks.{live_within, number_is}
use Rattle.space_memory_bytes.proofs.marked_bytes.MarkedBytes.number_of.Goals as goal

pub number_at-requires-clause-in_bytes : goal.number_at-requires-clause-in_bytes
number_at-requires-clause-in_bytes c =
    let within = live_within _ _ _ c.self.invariant.0 c.args.self.now c.self.view_is c.args.at c.args.n c.requires.some (c.are_live.ensures.0 c.if-are_live.true) in
    omega (arith, within, c.deref.ensures.len, c.self.invariant.0.same)

pub returns-then-are_live-clause-digits : goal.returns-then-are_live-clause-digits
returns-then-are_live-clause-digits c =
    number_is _ _ _ c.self.invariant.0 c.args.self.now c.self.view_is c.number_at.result c.args.at c.args.n (c.are_live.ensures.0 c.if-are_live.true)
    (λ i lt. c.number_at.ensures.digits i lt ∙ ap (λ (xs : List ℕ). get_or xs (c.args.at + i) 0) c.deref.ensures.value)
