use Rattle.std.proofs.Common.{◌≡◌, ap, ◌∙◌, rules}
use Rattle.std.proofs.lemmas.Fn.{filter_same}
use Rattle.space_memory_access.specs.declared.holder.OpenCall.{OpenCall}
use Rattle.space_memory_access.specs.Held.{HeldState, innermost, without_call}
use Rattle.space_memory_access.proofs.regions.Regions.undo.Goals as goal

-- the closure keeps the regions that aren't the call's
pub returns-clause-regions : goal.returns-clause-regions
returns-clause-regions c =
    let kept : c.retain.new.self.items ≡ without_call c.innermost-call.result c.self.inside.regions.items = filter_same _ _ _ (λ x b f' k. search rules) _ _ c.retain.ensures.filtered in
    kept
    ∙ ap (λ (call : OpenCall). without_call call c.self.inside.regions.items) c.innermost-call.ensures
    ∙ ap (λ (held : HeldState). without_call (innermost c.args.self.now c.args.thread) held.regions) c.self.view_is
