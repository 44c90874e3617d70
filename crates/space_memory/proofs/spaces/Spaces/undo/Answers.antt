use Rattle.std.proofs.Common.{List, All, sym, subst}
use Rattle.space_memory_access.specs.declared.holder.Region.{Region}
use Rattle.space_memory_access.specs.Held.{innermost}
use Rattle.space_memory.specs.Spaces.{IsWhole}
use Rattle.space_memory.proofs.Kept.{kept_regions, whole_without_call}
use Rattle.space_memory.proofs.spaces.Spaces.undo.Goals as goal

pub invariant_of-self : goal.invariant_of-self
invariant_of-self c =
    let held = c.self.inside.held in
    kept_regions _ held.regions c.undo.new.self.regions c.self.inside.sides c.self.invariant
    (subst (λ (rs : List Region). All IsWhole rs) (sym c.undo.ensures.regions) (whole_without_call (innermost held c.args.thread) held.regions c.self.invariant.regions))
