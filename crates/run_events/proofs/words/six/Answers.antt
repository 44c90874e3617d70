use Rattle.std.proofs.Common.{rules, ◌≡◌, ◌∷◌, [], ◌∙◌, length, slice_index_or, of_z, to_z}
use Rattle.std.specs.Int.{w16}
use Rattle.run_events.specs.Words.{pattern}
use Rattle.run_events.proofs.Items.{all_items}
use Rattle.run_events.proofs.words.six.Goals as goal

pub returns : goal.returns
returns c =
    let xs = c.args.words.now in
    let size : length xs ≡ 6 = search rules in
    let e0 : pattern (to_z w16 (of_z w16 c.in_ok-quarter.field-0)) ≡ slice_index_or xs 0 0 = search rules in
    let e1 : pattern (to_z w16 (of_z w16 c.in_ok-quarter-2.field-0)) ≡ slice_index_or xs 1 0 = search rules in
    let e2 : pattern (to_z w16 (of_z w16 c.in_ok-quarter-3.field-0)) ≡ slice_index_or xs 2 0 = search rules in
    let e3 : pattern (to_z w16 (of_z w16 c.in_ok-quarter-4.field-0)) ≡ slice_index_or xs 3 0 = search rules in
    let e4 : pattern (to_z w16 (of_z w16 c.in_ok-quarter-5.field-0)) ≡ slice_index_or xs 4 0 = search rules in
    let e5 : pattern (to_z w16 (of_z w16 c.in_ok-quarter-6.field-0)) ≡ slice_index_or xs 5 0 = search rules in
    (λ i. e0 i ∷ e1 i ∷ e2 i ∷ e3 i ∷ e4 i ∷ e5 i ∷ []) ∙ all_items 6 xs size
