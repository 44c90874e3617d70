use Rattle.std.proofs.Common.{◌∙◌, ap}
use Rattle.c_types_table.specs.Tables.{type_at}
use Rattle.c_types_rules.specs.TypeTests.{same_type}
use Rattle.c_lower_layout.proofs.Sized.{same_as_test}
use Rattle.c_lower_layout.proofs.index.Index.are_same.Goals as goal

pub returns : goal.returns
returns c =
    same_as_test c.is_same.result (type_at c.types.result.now c.args.a) (type_at c.types.result.now c.args.b) c.is_same.ensures
    ∙ ap (λ ts. same_type (type_at ts c.args.a) (type_at ts c.args.b)) c.types.ensures
