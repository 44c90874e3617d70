use Rattle.std.proofs.Common.{get_or, set, ap, sym, ◌∙◌}
use Rattle.std.proofs.lemmas.List.Edits.{map_over_more}
use Rattle.space_memory_access.specs.declared.holder.Region.{Region}
use Rattle.space_memory_access.specs.declared.holder.Holder.{Holder}
use Rattle.space_memory_access.specs.Held.{disown}
use Rattle.space_memory_access.proofs.regions.disown_all.Goals as goal

pub loop-at-preserved : goal.loop-at-preserved
loop-at-preserved c =
    let regions = c.loop-at.regions in
    let at = c.loop-at.at in
    let region = c.index-regions-at.result in
    let here = get_or regions at region in
    ap (λ (h : Holder). set regions at (let r : Region = record { range = here.range; before = here.before; holder = h } in r)) c.disowned-region.ensures
    ∙ ap (λ (r : Region). set regions at (disown c.args.call r)) (sym c.index-regions-at.is)
    ∙ map_over_more (disown c.args.call) c.args.regions.now regions at region c.loop-at-test.true c.loop-at.invariant c.index-regions-at.is
