use Rattle.std.proofs.Common.{ap, ◌∙◌}
use Rattle.c_types_rules.specs.Environment.{place_in}
use Rattle.c_types_structs.proofs.tags.Tags.place_of.Goals as goal

pub returns : goal.returns
returns c =
    let tag = c.args.tag.now in
    c.copied.ensures ∙ (c.get.ensures.value ∙ (c.self.invariant.first tag ∙ ap (place_in tag) c.self.view_is))
