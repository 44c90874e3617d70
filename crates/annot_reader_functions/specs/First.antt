-- What the first declaration of a function says of it, in steps.
use Rattle.std.specs.Prelude.{◌||◌}
use Rattle.c_syntax.specs.Syntax.{Decl, Decls, Declare}
use Rattle.c_types_model.specs.Types.{CType, CTypes}
use Rattle.c_types_rules.specs.Checked.{Checked, Fine, keep, ◌>>=◌, ◌>>◌}
use Rattle.c_types_rules.specs.Environment.{Environment}
use Rattle.annot_reader_rules.specs.Misplaced.{bare_annots, bare_parts, bare_rest}
use Rattle.annot_reader_rules.specs.Functions.{FunctionKind, all_noted, is_empty, named_parameters, no_holds, nothing, result_parts}
use Rattle.annot_reader_rules.specs.Notes.{Notes}
use Rattle.annot_reader_rules.specs.Regions.{Signature}

-- no parameter outside the function's own list has annotations
abbrev pub bare_outside : Decl → Checked (Unit {0})
bare_outside (Declare from an b ps n r) = bare_annots an >> (bare_parts (result_parts ps) >> bare_rest r)

-- what its annotations may speak of
abbrev pub signature_with : Environment → (own : Decls) → (result : CType) → CTypes → Signature
signature_with env ds t ts = record { params = named_parameters ds ts; result = t; env = env }

-- what its own annotations say
abbrev pub heading : Signature → FunctionKind → Decl → Checked Notes
heading s k (Declare from an b ps n r) = do
  m ← all_noted an s k nothing
  keep from 8 (no_holds m.holds || is_empty m.cuts)
  Fine m

-- no parameter outside the function's own list has annotations, beside those in its own annotations
abbrev pub bare_besides : Decl → Checked (Unit {0})
bare_besides (Declare from an b ps n r) = bare_parts (result_parts ps) >> bare_rest r
