use Rattle.std.proofs.Common.{◌∙◌}
use Rattle.lockset_check_held.proofs.Sets.{first_rows, nothing_yet}
use Rattle.lockset_check_held.proofs.held.Held.new.Goals as goal

pub invariant_of-result : goal.invariant_of-result
invariant_of-result c =
    let e = c.new-3.ensures in
    first_rows c.new.result.keys c.new-3.result c.new-4.result.items c.new.ensures.empty (e.held ∙ c.new-2.ensures) e.start e.loops e.kept c.new-4.ensures.items

pub returns : goal.returns
returns c =
    let e = c.new-3.ensures in
    nothing_yet c.new.result.keys c.new-3.result c.new-4.result.items c.new.ensures.empty (e.held ∙ c.new-2.ensures) e.start e.loops e.kept c.new-4.ensures.items
