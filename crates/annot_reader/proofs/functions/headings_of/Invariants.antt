use Rattle.std.proofs.Common.{map, take}
use Rattle.std.specs.List.{All}
use Rattle.c_types_program.specs.Declarations.{function_in}
use Rattle.annot_reader.specs.Headings.{AreHeadings, IsHeading}
use Rattle.annot_reader_functions.specs.Seen.{declared_by}
use Rattle.annot_reader.proofs.functions.headings_of.Given as goal

-- those before this place are known
abbrev pub invariant-loop-function : goal.invariant-loop-function
invariant-loop-function l =
    All (IsHeading (declared_by l.env)) l.headings.items × AreHeadings (declared_by l.env) l.headings.items (map (function_in l.env.table) (take l.function-index l.functions))
