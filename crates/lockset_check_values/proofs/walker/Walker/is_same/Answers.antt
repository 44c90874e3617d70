use Rattle.std.proofs.Common.{◌∙◌, List, ap}
use Rattle.c_types_table.specs.declared.ty.Ty.{Ty}
use Rattle.c_types_table.specs.Tables.{type_at}
use Rattle.c_types_rules.specs.TypeTests.{same_type}
use Rattle.c_types_nodes.specs.Tables.{Table}
use Rattle.lockset_check_values.proofs.ByNumber.{same_as_test}
use Rattle.lockset_check_values.proofs.walker.Walker.is_same.Goals as goal

pub returns : goal.returns
returns c =
    same_as_test c.is_same.result (type_at c.types.result.now c.args.a) (type_at c.types.result.now c.args.b) c.is_same.ensures
    ∙ ap (λ (ts : List Ty). same_type (type_at ts c.args.a) (type_at ts c.args.b)) (c.types.ensures ∙ ap (λ (x : Table). x.types) c.table.ensures)
