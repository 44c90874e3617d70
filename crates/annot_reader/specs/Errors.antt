-- Why a source has no interface of a cut.
use Rattle.annot_reader_words.specs.declared.error.AnnotationError.{AnnotationError}
use Rattle.annot_reader_words.specs.declared.error.AnnotationError.TheVariants as broken
use Rattle.annot_reader.specs.declared.error.InterfaceError.{InterfaceError}
use Rattle.annot_reader.specs.declared.error.InterfaceError.TheVariants.{Rule, Memory}

abbrev pub by_annotation_error : AnnotationError → InterfaceError
by_annotation_error (broken.Rule from rule) = Rule from rule
by_annotation_error broken.Memory = Memory
