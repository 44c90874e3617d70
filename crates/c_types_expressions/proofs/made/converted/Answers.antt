use Rattle.c_types_expressions.proofs.Kept.{type_stays, value_is}
use Rattle.c_types_expressions.proofs.Operands.{converted_made}
use Rattle.c_types_expressions.proofs.made.converted.Goals as goal

pub returns-clause-agrees : goal.returns-clause-agrees
returns-clause-agrees c =
    let k = c.in_ok-value.ensures.kept in
    converted_made _ _ _ _ _ _ _ (type_stays _ _ _ k.numbers c.requires.ty) (value_is _ _ _ c.in_ok-value.ensures.value) c.assigned.ensures.agrees
