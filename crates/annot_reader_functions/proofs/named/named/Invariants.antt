use Rattle.std.proofs.Common.{◌≡◌, ◌≤◌, length}
use Rattle.c_syntax.specs.Syntax.{Decls}
use Rattle.c_syntax.specs.Stands.{StandDecls}
use Rattle.c_types_rules.specs.Environment.{extents}
use Rattle.annot_reader_functions.proofs.Naming.{Left}
use Rattle.annot_reader_functions.specs.Seen.{declared_by}
use Rattle.annot_reader_functions.proofs.named.named.Given as goal

-- the parameters before this place are named, and have types
abbrev pub invariant-loop-place : goal.invariant-loop-place
invariant-loop-place l =
    let d = declared_by l.env in
    ((ds : Decls) → StandDecls l.tree l.ids ds → Left (extents d.env) l.tree d.types l.ids l.types ds l.place l.params.items) ×
    (length l.params.items ≡ l.place) × (l.place ≤ length l.types)
