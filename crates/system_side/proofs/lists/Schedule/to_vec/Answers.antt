use Rattle.std.proofs.Common.{ℕ, List, [], ◌∷◌, ◌++◌, take, sym, ap, ◌∙◌}
use Rattle.std.proofs.lemmas.List.{take_more}
use Rattle.std.proofs.lemmas.Option.{get_or_from_slice_get, slice_get_within}
use Rattle.system_side.proofs.lists.Schedule.to_vec.Goals as goal

pub loop-place-preserved : goal.loop-place-preserved
loop-place-preserved c =
    let turns = c.args.self.now in
    let place = c.loop-place.place in
    let x = c.get.result in
    let same = get_or_from_slice_get turns place x x c.get.ensures in
    c.in_ok-push.ensures.items
    ∙ (ap (λ (xs : List (ℕ × ℕ)). xs ++ x ∷ []) c.loop-place.invariant
    ∙ sym (take_more turns place x (slice_get_within turns place x c.get.ensures) ∙ ap (λ (y : ℕ × ℕ). take place turns ++ y ∷ []) same))
