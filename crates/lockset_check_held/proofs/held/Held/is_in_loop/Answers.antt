use Rattle.std.proofs.Common.{is_some, ap, ◌∙◌}
use Rattle.lockset_check_held.specs.HeldSets.{HeldSets, head}
use Rattle.lockset_check_held.specs.Rows.{is_on}
use Rattle.lockset_check_held.proofs.Sets.{any_after}
use Rattle.lockset_check_held.proofs.held.Held.is_in_loop.Goals as goal

pub returns : goal.returns
returns c =
    let h = c.self.inside in
    c.has_any.ensures
    ∙ (any_after h.known.keys (is_on h.trail.held) h.trail.loops
    ∙ ap (λ (sets : HeldSets). is_some (head sets.loops)) c.self.view_is)
