use Rattle.std.proofs.Common.{drop}
use Rattle.c_syntax.specs.Syntax.{Decls}
use Rattle.c_syntax.specs.Stands.{StandDecls}
use Rattle.c_types.proofs.Tagged.{RestOfTags}
use Rattle.c_types.proofs.tags.tags_of.Given as goal

abbrev pub invariant-loop-id : goal.invariant-loop-id
invariant-loop-id l = (ds : Decls) → StandDecls l.tree l.ids ds → RestOfTags l.tree (drop l.id-index l.ids) ds l.tags
