use Rattle.std.proofs.Common.{◌≡◌, List, length, map, filter, ap, sym, ◌∙◌, rules}
use Rattle.std.proofs.lemmas.List.{length-map, with_items_is}
use Rattle.std.proofs.lemmas.Fn.{filter_same}
use Rattle.space_memory_access.specs.declared.holder.OpenCall.{OpenCall}
use Rattle.space_memory_access.specs.declared.holder.Region.{Region}
use Rattle.space_memory_access.specs.Holders.{outlives}
use Rattle.space_memory_access.specs.Held.{HeldState, innermost, disown, without_closed}
use Rattle.space_memory_access.proofs.regions.Regions.close.Goals as goal

-- the closure keeps the regions that outlive the call, and each is then disowned
pub returns-clause-regions : goal.returns-clause-regions
returns-clause-regions c =
    let call = c.innermost-call.result in
    let kept : c.retain.new.self.items ≡ filter (λ (r : Region). outlives call c.args.commit r.holder) c.self.inside.regions.items = filter_same _ _ _ (λ x b f' k. search rules) _ _ c.retain.ensures.filtered in
    let disowned : c.disown_all.new.regions ≡ map (disown call) c.retain.new.self.items = c.disown_all.ensures ∙ ap (λ (rs : List Region). map (disown call) rs) c.deref_mut.ensures.value in
    let size : length c.disown_all.new.regions ≡ c.retain.new.self.len = ap (λ (rs : List Region). length rs) disowned ∙ length-map c.retain.new.self.items (disown call) ∙ sym c.retain.new.self.ok.0 in
    with_items_is c.retain.new.self c.disown_all.new.regions size
    ∙ disowned
    ∙ ap (λ (rs : List Region). map (disown call) rs) kept
    ∙ ap (λ (call : OpenCall). without_closed call c.args.commit c.self.inside.regions.items) c.innermost-call.ensures
    ∙ ap (λ (held : HeldState). without_closed (innermost c.args.self.now c.args.thread) c.args.commit held.regions) c.self.view_is
