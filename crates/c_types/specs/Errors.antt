-- Errors of one sort as those of another.
use Rattle.c_types_operators.specs.declared.error.TypeError.{TypeError}
use Rattle.c_types_operators.specs.declared.error.TypeError.TheVariants as operators
use Rattle.c_types.specs.declared.error.CheckError.{CheckError}
use Rattle.c_types.specs.declared.error.CheckError.TheVariants as checks

abbrev pub by_type_error : TypeError → CheckError
by_type_error (operators.Rule from rule) = checks.Rule from rule
by_type_error operators.Memory = checks.Memory
