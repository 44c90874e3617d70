-- Rules of types that an annotation breaks.
use Rattle.c_types_operators.specs.declared.error.TypeError.{TypeError}
use Rattle.c_types_operators.specs.declared.error.TypeError.TheVariants as types
use Rattle.annot_reader_words.specs.declared.error.AnnotationError.{AnnotationError}
use Rattle.annot_reader_words.specs.declared.error.AnnotationError.TheVariants.{Rule, Memory}

abbrev pub by_type_error : TypeError → AnnotationError
by_type_error (types.Rule from rule) = Rule from rule
by_type_error types.Memory = Memory
