use Rattle.std.proofs.Common.{◌==◌, length, sym, ap, ◌∙◌}
use Rattle.c_types_table.specs.declared.ty.Ty.TheVariants as nodes
use Rattle.c_types_table.specs.Tables.{types_of}
use Rattle.c_types_rules.specs.Sources.{main_type}
use Rattle.c_types_rules.specs.TypeTests.{same_type}
use Rattle.c_types.proofs.FunctionSteps.{with_params}
use Rattle.c_types.proofs.Naming.{made_there}
use Rattle.c_types.proofs.signature.is_main_type.Goals as goal

pub returns-else-is_empty : goal.returns-else-is_empty
returns-else-is_empty c =
    let types = c.args.env.now.table.types in
    let is = made_there types c.types.result.now c.args.ty c.get.result.now (nodes.Function c.in-Function.result c.in-Function.params) (c.types.ensures ∙ ap (λ t. t.types) c.table.ensures) c.get.ensures.meaning c.in-Function.is in
    c.if-is_empty.false ∙ (sym (with_params (types_of types) c.in-Function.result c.in-Function.params c.is_empty.result (c.is_empty.ensures ∙ ap (λ ps. length ps == 0) c.as_slice.ensures) c.if-is_empty.false)
    ∙ ap (λ t. same_type t main_type) is)
