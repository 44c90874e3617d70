use Rattle.std.proofs.Common.{length, ap, ◌∙◌}
use Rattle.std.proofs.lemmas.Result.{on_ok_weaker}
use Rattle.lockset_check_held.specs.HeldSets.{entering}
use Rattle.lockset_check_held.proofs.Sets.{entered, loops_rows, none_within}
use Rattle.lockset_check_held.proofs.held.Held.enter.Goals as goal

pub invariant_of-self : goal.invariant_of-self
invariant_of-self c =
    let h = c.self.inside in
    let count = length h.known.keys in
    loops_rows h.known.keys h.trail h.needs.items c.self.invariant c.push.new.self
    (c.push.ensures.within count (none_within count c.new.result c.new.ensures))

pub returns : goal.returns
returns c =
    let h = c.self.inside in
    on_ok_weaker c.push.result
    (λ e. entered h.known.keys h.trail h.needs.items c.push.new.self c.new.result c.new.ensures e ∙ ap entering c.self.view_is)
    c.push.ensures.more
