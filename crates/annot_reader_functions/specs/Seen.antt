-- What is declared, as the rules of annotations see it.
use Rattle.c_types_table.specs.Tables.{types_of}
use Rattle.annot_reader_functions.specs.Rules.{Declared}
use Rattle.c_types_nodes.specs.Tables.{typed_of}
use Rattle.c_types_environment.specs.States.{State}

abbrev pub declared_by : State → Declared
declared_by s = record { env = s.env; types = types_of s.table.types; nodes = typed_of s.table }
