use Rattle.std.proofs.Common.{ap, ◌∙◌}
use Rattle.lockset_check_held.specs.HeldSets.{is_as_at_loop}
use Rattle.lockset_check_held.specs.Rows.{is_on}
use Rattle.lockset_check_held.proofs.Sets.{first_compared}
use Rattle.lockset_check_held.proofs.held.Held.is_as_at_loop.Goals as goal

pub returns : goal.returns
returns c =
    let h = c.self.inside in
    let w = c.self.invariant in
    let e = c.is_same_at_first.ensures in
    first_compared h.known.keys w.0 (is_on h.trail.held) h.trail.loops c.is_same_at_first.result w.1.2 e.same e.others
    ∙ ap is_as_at_loop c.self.view_is
