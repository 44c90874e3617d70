use Rattle.std.proofs.Common.{sym, ◌∙◌}
use Rattle.c_types_rules.specs.TypedTree.{value_type}
use Rattle.c_types_nodes.specs.Tables.{value_at}
use Rattle.c_types_operators.proofs.Arms.{settled_types}
use Rattle.c_types_operators.proofs.choices.choice.Goals as goal

pub add-requires : goal.add-requires
add-requires c =
    let t = c.args.table.now in
    let same = settled_types (value_type (value_at t c.args.a)) (value_type (value_at t c.args.b)) (sym c.is_settled.ensures ∙ c.if-is_settled.true) in
    record { parts = (c.requires.condition, c.requires.a, c.requires.b, same) }
