use Rattle.std.proofs.Common.{map, sym, ap, ◌∙◌}
use Rattle.std.specs.Option.{option_map}
use Rattle.c_types_model.specs.Layouts.{capped_extent, extent_of}
use Rattle.c_types_table.specs.Tables.{type_at}
use Rattle.c_types_rules.specs.Environment.{extents}
use Rattle.c_types.proofs.Limited.{extent_missing, extent_there}
use Rattle.c_types.proofs.extents.extent_or.Goals as goal

pub returns-in-Some : goal.returns-in-Some
returns-in-Some c =
    let env = c.args.env.now in
    extent_there (extents env.env) (type_at env.table.types c.args.ty) c.in-Some.extent
    (sym (ap (λ ts. option_map capped_extent (extent_of (map capped_extent (extents env.env)) (type_at ts c.args.ty))) (c.types.ensures ∙ ap (λ t. t.types) c.table.ensures))
    ∙ (sym (ap (λ es. option_map capped_extent (extent_of es (type_at c.types.result.now c.args.ty))) c.extents.ensures) ∙ (sym c.extent.ensures ∙ c.in-Some.is)))

pub returns-in-None : goal.returns-in-None
returns-in-None c =
    let env = c.args.env.now in
    extent_missing (extents env.env) (type_at env.table.types c.args.ty)
    (sym (ap (λ ts. option_map capped_extent (extent_of (map capped_extent (extents env.env)) (type_at ts c.args.ty))) (c.types.ensures ∙ ap (λ t. t.types) c.table.ensures))
    ∙ (sym (ap (λ es. option_map capped_extent (extent_of es (type_at c.types.result.now c.args.ty))) c.extents.ensures) ∙ (sym c.extent.ensures ∙ c.in-None.is)))
