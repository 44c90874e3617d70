use Rattle.std.proofs.Common.{ℕ, ◌<◌, List, length, get_or, Some, sym, ap, ◌∙◌, arith}
use Rattle.std.specs.List.{slice_get}
use Rattle.std.proofs.lemmas.List.{get_or_read}
use Rattle.system_side.proofs.Kept.{length_turns, turn_at}
use Rattle.system_side.proofs.lists.Schedule.get.Goals as goal

pub index-requires : goal.index-requires
index-requires c =
    let l = c.self.inside in
    omega (arith, c.requires, length_turns l.threads.items l.steps.items, ap length c.self.view_is, l.threads.ok.0)

pub returns : goal.returns
returns c =
    let l = c.self.inside in
    let place = c.args.place in
    let within : place < length l.threads.items = omega (arith, c.requires, length_turns l.threads.items l.steps.items, ap length c.self.view_is) in
    let thread = get_or_read l.threads.items place _ within c.index.ensures 0 in
    let steps = c.steps_at.ensures ∙ ap (λ (ns : List ℕ). get_or ns place 1) c.deref.ensures.value in
    ap (λ (xs : List (ℕ × ℕ)). slice_get xs place) (sym c.self.view_is)
    ∙ (turn_at l.threads.items l.steps.items place within
    ∙ (λ i. Some (sym thread i, sym steps i)))
