use Rattle.std.proofs.Common.{◌≡◌, ℤ, to_z, of_z, rules, ap, ◌∙◌}
use Rattle.std.specs.Prelude.{position}
use Rattle.std.specs.Int.{w128}
use Rattle.std.specs.Ordering.{int_eq}
use Rattle.lockset_check_held.specs.Rows.{place_in}
use Rattle.lockset_check_held.proofs.known.place_of.Goals as goal

pub returns : goal.returns
unfolding place_in
returns c =
    let back : to_z w128 (of_z w128 c.args.mutex) ≡ c.args.mutex = search rules in
    c.get_index_of.ensures.index ∙ ap (λ (v : ℤ). position (int_eq v) c.args.known.now.keys) back
