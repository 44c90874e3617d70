use Rattle.std.proofs.Common.{sym, subst}
use Rattle.c_types_program.specs.Programs.{IsProgram}
use Rattle.c_types_source.specs.Sources.{IsTypedSource}
use Rattle.c_types_source.proofs.Sourced.{is_program}
use Rattle.c_types_source.proofs.source.TypedSource.into_program.Goals as goal

pub returns-clause-program : goal.returns-clause-program
returns-clause-program c = λ ds p h.
    let s = c.into_parts-tree.result in
    let t = subst (IsTypedSource ds p) (sym c.into_parts-tree.ensures.parts) h in
    subst (λ q. IsProgram q p) (sym c.new.ensures) (is_program _ p s c.into_parts-table.result.0 c.into_parts-table.result.1 t.is c.into_parts-table.ensures.table c.into_parts-table.ensures.structs c.into_parts-table.ensures.extents)
