use Rattle.std.proofs.Common.{ap, ◌∙◌}
use Rattle.lockset_check_rules.specs.Mutexes.{same}
use Rattle.lockset_check_held.specs.HeldSets.{HeldSets}
use Rattle.lockset_check_held.specs.Rows.{is_on}
use Rattle.lockset_check_held.proofs.Sets.{compared}
use Rattle.lockset_check_held.proofs.held.Held.is_as_at_start.Goals as goal

pub returns : goal.returns
returns c =
    let h = c.self.inside in
    let w = c.self.invariant in
    compared h.known.keys w.0 (is_on h.trail.held) h.trail.start c.is_empty.result w.1.1 c.is_empty.ensures.none c.is_empty.ensures.some
    ∙ ap (λ (sets : HeldSets). same sets.held sets.start) c.self.view_is
