use Rattle.c_types_expressions.proofs.Kept.{node_stays, value_is}
use Rattle.c_types_expressions.proofs.Operands.{assignment_made}
use Rattle.c_types_expressions.proofs.made.assignment.Goals as goal

pub returns-clause-agrees : goal.returns-clause-agrees
returns-clause-agrees c =
    let k = c.in_ok-right.ensures.kept in
    assignment_made _ _ _ _ _ _ _ _ _ _ k.env (node_stays _ _ _ k.numbers c.requires.left) (value_is _ _ _ c.in_ok-right.ensures.value) c.assignment.ensures.agrees
