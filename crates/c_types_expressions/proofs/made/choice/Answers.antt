use Rattle.std.proofs.Common.{◌∙◌, ap}
use Rattle.c_types_rules.specs.TypedTree.{value_of}
use Rattle.c_types_expressions.proofs.Kept.{node_stays, value_is, value_stays_is, then_all}
use Rattle.c_types_expressions.proofs.Operands.{choice_made}
use Rattle.c_types_expressions.proofs.made.choice.Goals as goal

pub returns-clause-agrees : goal.returns-clause-agrees
returns-clause-agrees c =
    let k = c.in_ok-condition.ensures.kept in
    let l = c.in_ok-left.ensures in
    choice_made _ _ _ _ _ _ _ _ _
    (value_stays_is _ _ _ _ l.kept.numbers c.in_ok-condition.ensures.value)
    (value_is _ _ _ l.left ∙ ap value_of (node_stays _ _ _ k.numbers c.requires.left))
    (value_is _ _ _ l.right ∙ ap value_of (node_stays _ _ _ k.numbers c.requires.right))
    c.choice.ensures.agrees

pub returns-clause-kept : goal.returns-clause-kept
returns-clause-kept c = then_all _ _ _ c.in_ok-condition.ensures.kept (then_all _ _ _ c.in_ok-left.ensures.kept c.choice.ensures.kept)
