use Rattle.std.proofs.Common.{◌≡◌, ◌↔◌, IsTrue, List, subst}
use Rattle.c_types_table.specs.declared.ty.Ty.{Ty}
use Rattle.c_types_table.specs.Tables.{type_at}
use Rattle.c_types_operators.proofs.Rules.{same_as_test}
use Rattle.c_types_operators.proofs.queries.are_equal.Goals as goal

pub returns : goal.returns
returns c =
    let there : List Ty → Type 0 = λ ts. IsTrue c.is_same.result ↔ (type_at ts c.args.a ≡ type_at ts c.args.b) in
    let types = c.args.table.now.types in
    same_as_test c.is_same.result (type_at types c.args.a) (type_at types c.args.b) (subst there c.types.ensures c.is_same.ensures)
