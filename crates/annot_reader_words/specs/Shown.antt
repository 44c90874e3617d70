-- Which numbers stand for parts of a source, and what their nodes show of it.
use Rattle.std.specs.Prelude.{◌≡◌}
use Rattle.c_syntax.specs.declared.id.DeclId.{DeclId}
use Rattle.c_syntax.specs.declared.declaration.Decl.{Decl as DeclNode}
use Rattle.c_syntax.specs.Nodes.{Nodes}
use Rattle.c_syntax.specs.Syntax.{Decl, Declare}
use Rattle.c_syntax.specs.Stands.{StandsDecl, StandAnnots, StandParts, StandsRest}

-- the number stands for a declaration
abbrev pub IsDecl : Nodes → DeclId → Type 0
IsDecl N i = (d : Decl) × StandsDecl N i d

-- the node is that of this declaration
abbrev pub Shows : Nodes → DeclNode → Decl → Type 0
Shows N v (Declare from an b ps n r) = (v.from ≡ from) × StandAnnots N v.annots an × (v.base ≡ b) ×
    StandParts N v.parts ps × (v.name ≡ n) × StandsRest N v.rest r

-- the node is that of a declaration
abbrev pub IsShown : Nodes → DeclNode → Type 0
IsShown N v = (d : Decl) × Shows N v d
