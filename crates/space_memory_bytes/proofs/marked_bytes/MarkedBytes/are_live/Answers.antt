use Rattle.std.proofs.Common.{◌≡◌, ℕ, ◌+◌, true, false, List, get_or, ap, ◌∙◌, arith}
use Rattle.std.proofs.lemmas.Bool.{eq-eqb, eqb-true}
use Rattle.space_memory_bytes.proofs.Marks.{length_is, number_live, live_within, eight_ones}
use Rattle.space_memory_bytes.proofs.marked_bytes.MarkedBytes.are_live.Goals as goal

pub overflow_add-at : goal.overflow_add-at
overflow_add-at c = omega (arith, c.requires.in_cells, c.requires.at_most_8, c.self.invariant.1, c.self.inside.marks.small, length_is _ _ _ c.self.invariant.0 _ c.self.view_is)

pub returns-then-len-at : goal.returns-then-len-at
returns-then-len-at c = (
  λ (no : false ≡ true). absurd (cc),
  λ live. absurd (omega (arith, c.len.ensures, live_within _ _ _ c.self.invariant.0 c.args.self.now c.self.view_is c.args.at c.args.n c.requires.some live)),
)

pub number_at-requires-clause-in_bytes : goal.number_at-requires-clause-in_bytes
number_at-requires-clause-in_bytes c = omega (arith, c.len.ensures, c.deref.ensures.len)

pub returns : goal.returns
returns c =
    let a = c.number_at.result in
    let b = c.number_at-2.result in
    let both = number_live _ _ _ c.self.invariant.0 c.args.self.now c.self.view_is a b c.args.at c.args.n c.requires.at_most_8 c.number_at.ensures.fits c.number_at-2.ensures.fits
    (λ i lt. c.number_at.ensures.digits i lt ∙ ap (λ (xs : List ℕ). get_or xs (c.args.at + i) 0) c.deref.ensures.value)
    (λ i lt. c.number_at-2.ensures.digits i lt ∙ ap (λ k. get_or eight_ones k 0) (omega arith)) in
    (λ yes. both.0 (eqb-true a b yes), λ live. eq-eqb a b (both.1 live))
