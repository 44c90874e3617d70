use Rattle.std.proofs.Common.{length, ap, ◌∙◌}
use Rattle.lockset_check_held.specs.HeldSets.{forgetting}
use Rattle.lockset_check_held.proofs.Sets.{forgot, kept_rows}
use Rattle.lockset_check_held.proofs.held.Held.forget.Goals as goal

pub invariant_of-self : goal.invariant_of-self
invariant_of-self c =
    let h = c.self.inside in
    kept_rows h.known.keys h.trail h.needs.items c.self.invariant c.pop.new.self (c.pop.ensures.within (length h.known.keys))

pub invariant_of-self-2 : goal.invariant_of-self-2
invariant_of-self-2 c =
    let h = c.self.inside in
    kept_rows h.known.keys h.trail h.needs.items c.self.invariant c.pop.new.self (c.pop.ensures.within (length h.known.keys))

pub returns : goal.returns
returns c =
    let h = c.self.inside in
    forgot h.known.keys h.trail h.needs.items c.pop.new.self c.in_ok-pop.ensures.rest
    ∙ ap forgetting c.self.view_is
