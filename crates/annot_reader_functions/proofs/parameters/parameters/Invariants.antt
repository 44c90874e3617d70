use Rattle.c_syntax.specs.Syntax.{Decls}
use Rattle.c_syntax.specs.Stands.{StandDecls}
use Rattle.c_types_table.specs.Tables.{all_at}
use Rattle.annot_reader_rules.specs.Functions.{all_parameters}
use Rattle.annot_reader_rules.specs.Regions.{Signature}
use Rattle.annot_reader_functions.specs.Sorts.{IsKnown}
use Rattle.annot_reader_functions.specs.Parameters.{StaysAround}
use Rattle.annot_reader_functions.proofs.Listing.{Left}
use Rattle.annot_reader_functions.specs.Seen.{declared_by}
use Rattle.annot_reader_functions.proofs.parameters.parameters.Given as goal

-- what is declared around stays, and the parameters that are left decide
abbrev pub invariant-loop-place : goal.invariant-loop-place
invariant-loop-place l =
    let before = declared_by l.fn.env in
    let now = declared_by l.env in
    StaysAround before now ×
    ((ds : Decls) (s : Signature) → StandDecls l.tree l.ids ds → IsKnown l.signature before.env s →
    Left l.tree l.signature before.types l.ids l.types l.place now.env l.params.items (all_parameters ds s 0 (all_at before.types l.types)))
