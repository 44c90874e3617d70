-- Lists in a source as lists.
use Rattle.std.proofs.Common.{List, [], ◌∷◌, sym, subst}
use Rattle.c_syntax.specs.declared.id.DeclId.{DeclId}
use Rattle.c_syntax.specs.declared.declaration.Annot.{Annot}
use Rattle.c_syntax.specs.declared.declaration.Item.{Item}
use Rattle.c_syntax.specs.Nodes.{Nodes}
use Rattle.c_syntax.specs.Syntax.{Decl, Decls, Annots, Annot as Annotated, Items, Item as Factors, NoDecls, MoreDecls, NoAnnots, MoreAnnots, NoItems, MoreItems}
use Rattle.c_syntax.specs.Stands.{StandsDecl, StandDecls, StandAnnots, StandsAnnot, StandsItem, StandItems}
use Rattle.annot_reader_words.proofs.Folding.{AllStand}

abbrev pub annots_in : Annots → List Annotated
annots_in NoAnnots = []
annots_in (MoreAnnots x xs) = x ∷ annots_in xs

abbrev pub items_in : Items → List Factors
items_in NoItems = []
items_in (MoreItems x xs) = x ∷ items_in xs

abbrev pub decls_in : Decls → List Decl
decls_in NoDecls = []
decls_in (MoreDecls x xs) = x ∷ decls_in xs

pub annots_stand : (N : Nodes) (vs : List Annot) (xs : Annots) → StandAnnots N vs xs → AllStand (StandsAnnot N) vs (annots_in xs)
annots_stand N vs NoAnnots e = let P : List Annot → Type 0 = λ ws. AllStand (StandsAnnot N) ws [] in subst P (sym e) tt
annots_stand N vs (MoreAnnots x xs) (v, ws, e, p, q) = let P : List Annot → Type 0 = λ us. AllStand (StandsAnnot N) us (x ∷ annots_in xs) in subst P (sym e) (p, annots_stand N ws xs q)

pub items_stand : (N : Nodes) (vs : List Item) (xs : Items) → StandItems N vs xs → AllStand (StandsItem N) vs (items_in xs)
items_stand N vs NoItems e = let P : List Item → Type 0 = λ ws. AllStand (StandsItem N) ws [] in subst P (sym e) tt
items_stand N vs (MoreItems x xs) (v, ws, e, p, q) = let P : List Item → Type 0 = λ us. AllStand (StandsItem N) us (x ∷ items_in xs) in subst P (sym e) (p, items_stand N ws xs q)

pub decls_stand : (N : Nodes) (vs : List DeclId) (xs : Decls) → StandDecls N vs xs → AllStand (StandsDecl N) vs (decls_in xs)
decls_stand N vs NoDecls e = let P : List DeclId → Type 0 = λ ws. AllStand (StandsDecl N) ws [] in subst P (sym e) tt
decls_stand N vs (MoreDecls x xs) (v, ws, e, p, q) = let P : List DeclId → Type 0 = λ us. AllStand (StandsDecl N) us (x ∷ decls_in xs) in subst P (sym e) (p, decls_stand N ws xs q)
