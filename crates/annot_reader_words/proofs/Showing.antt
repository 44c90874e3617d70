-- What a node shows of a declaration.
use Rattle.std.proofs.Common.{◌≡◌, ◌<◌, List, length, sym, subst}
use Rattle.std.proofs.lemmas.Option.{slice_get_within}
use Rattle.c_syntax.specs.declared.id.DeclId.{DeclId}
use Rattle.c_syntax.specs.declared.declaration.Annot.{Annot}
use Rattle.c_syntax.specs.declared.declaration.Part.{Part}
use Rattle.c_syntax.specs.declared.declaration.Decl.{Decl as DeclNode}
use Rattle.c_syntax.specs.Nodes.{Nodes}
use Rattle.c_syntax.specs.Syntax.{Declare}
use Rattle.c_syntax.specs.Stands.{StandAnnots, StandParts}
use Rattle.annot_reader_words.specs.Places.{AreAnnots, AreParts, IsRest}
use Rattle.annot_reader_words.specs.Shown.{IsDecl, IsShown}

pub shown_annots : (N : Nodes) (v : DeclNode) (vs : List Annot) → vs ≡ v.annots → IsShown N v → AreAnnots N vs
shown_annots N v vs e (Declare from an b ps n r, h) = (an, subst (λ ws. StandAnnots N ws an) (sym e) h.1)

pub shown_parts : (N : Nodes) (v : DeclNode) (vs : List Part) → vs ≡ v.parts → IsShown N v → AreParts N vs
shown_parts N v vs e (Declare from an b ps n r, h) = (ps, subst (λ ws. StandParts N ws ps) (sym e) h.3)

pub shown_rest : (N : Nodes) (v : DeclNode) → IsShown N v → IsRest N v.rest
shown_rest N v (Declare from an b ps n r, h) = (r, h.5)

pub decl_inside : (N : Nodes) (i : DeclId) → IsDecl N i → i.0 < length N.decls
decl_inside N i (Declare from an b ps n r, (d, g, _, _, _, _, _, _)) = slice_get_within N.decls i.0 d g
