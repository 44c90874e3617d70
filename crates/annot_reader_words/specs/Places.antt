-- Where in a tree annotations are looked for: pieces of nodes that stand for parts of a source.
use Rattle.std.specs.Prelude.{List}
use Rattle.c_syntax.specs.declared.id.DeclId.{DeclId}
use Rattle.c_syntax.specs.declared.declaration.Annot.{Annot}
use Rattle.c_syntax.specs.declared.declaration.Part.{Part}
use Rattle.c_syntax.specs.declared.declaration.Rest.{Rest as After}
use Rattle.c_syntax.specs.Nodes.{Nodes}
use Rattle.c_syntax.specs.Syntax.{Decls, Annots, Parts, Rest}
use Rattle.c_syntax.specs.Stands.{StandDecls, StandAnnots, StandParts, StandsRest}

abbrev pub AreDecls : Nodes → List DeclId → Type 0
AreDecls N is = (ds : Decls) × StandDecls N is ds

abbrev pub AreAnnots : Nodes → List Annot → Type 0
AreAnnots N vs = (xs : Annots) × StandAnnots N vs xs

abbrev pub AreParts : Nodes → List Part → Type 0
AreParts N vs = (ps : Parts) × StandParts N vs ps

abbrev pub IsRest : Nodes → After → Type 0
IsRest N v = (r : Rest) × StandsRest N v r
