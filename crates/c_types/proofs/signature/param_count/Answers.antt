use Rattle.std.proofs.Common.{length, sym, ap, ◌∙◌}
use Rattle.c_types_table.specs.declared.ty.Ty.TheVariants as nodes
use Rattle.c_types_table.specs.Tables.{types_of}
use Rattle.c_types_rules.specs.Limits.{count}
use Rattle.c_types_rules.specs.Sources.{params_of}
use Rattle.c_types.proofs.Limited.{count_is}
use Rattle.c_types.proofs.Naming.{made_there}
use Rattle.c_types.proofs.signature.param_count.Goals as goal

pub returns-in-Function : goal.returns-in-Function
returns-in-Function c =
    let types = c.args.env.now.table.types in
    let is = made_there types c.types.result.now c.args.ty c.get.result.now (nodes.Function c.in-Function.result c.in-Function.params) (c.types.ensures ∙ ap (λ t. t.types) c.table.ensures) c.get.ensures.meaning c.in-Function.is in
    ap length c.as_slice.ensures ∙ (sym (count_is (types_of types) c.in-Function.params) ∙ ap (λ t. count (params_of t)) is)
