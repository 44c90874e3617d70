-- The cuts that nodes name are those that the parts of a source name for which they stand.
use Rattle.std.proofs.Common.{◌≡◌, ◌<◌, inl, inr, length, sym, if◌then◌else◌, List, [], ◌++◌, codes, Option, Some, None, refl, ap, ◌∙◌}
use Rattle.std.proofs.lemmas.Bool.{cases_lt}
use Rattle.std.proofs.lemmas.Option.{slice_get_past}
use Rattle.c_scopes.specs.Scopes.{same_name}
use Rattle.c_syntax.specs.declared.declaration.Annot.{Annot}
use Rattle.c_syntax.specs.declared.declaration.Item.{Item}
use Rattle.c_syntax.specs.declared.declaration.Atom.{Atom}
use Rattle.c_syntax.specs.declared.declaration.Atom.TheVariants as atoms
use Rattle.c_syntax.specs.declared.declaration.Decl.{Decl as DeclNode}
use Rattle.c_syntax.specs.declared.id.DeclId.{DeclId}
use Rattle.c_syntax.specs.Alike.{AreAlike}
use Rattle.c_syntax.specs.Nodes.{Nodes, decl_at}
use Rattle.c_syntax.specs.Syntax.{Annots, Annot as Annotated, Decl, Declare, Items, Item as Factors, NoAnnots, MoreAnnots, Annotate, NoItems, MoreItems, OneFactor, TwoFactors, NameAtom, NumberAtom, ReturnAtom, SizeofAtom}
use Rattle.c_syntax.specs.Stands.{StandAnnots, StandsAnnot, StandsDecl, StandItems, StandsItem}
use Rattle.annot_reader_words.specs.Shown.{IsDecl}
use Rattle.cut_advisor.specs.CutNodes.{names_at, names_by_annot, names_by_annots, names_by_atoms, names_by_item, names_by_items}
use Rattle.cut_advisor.specs.CutPuts.{annot_names, annots_names, decl_names, item_names, items_names}

no_name : (a b : Atom) → names_by_atoms a (Some b) ≡ []
no_name (atoms.Name n) b = refl
no_name (atoms.Number v) b = refl
no_name atoms.Return b = refl
no_name (atoms.Sizeof d) b = refl

item_stands : (N : Nodes) (v : Item) (x : Factors) → StandsItem N v x → names_by_item v ≡ item_names x
item_stands N v (OneFactor f (NameAtom n)) (_, p, e) = ap (λ a. names_by_atoms a v.b) p ∙ ap (names_by_atoms (atoms.Name n)) e
item_stands N v (OneFactor f (NumberAtom n)) (_, p, e) = ap (λ a. names_by_atoms a v.b) p
item_stands N v (OneFactor f ReturnAtom) (_, p, e) = ap (λ a. names_by_atoms a v.b) p
item_stands N v (OneFactor f (SizeofAtom d)) (_, p, e) = ap (λ a. names_by_atoms a v.b) p.1
item_stands N v (TwoFactors f x y) (b, _, p, e, q) = ap (names_by_atoms v.a) e ∙ no_name v.a b

items_stand : (N : Nodes) (vs : List Item) (xs : Items) → StandItems N vs xs → names_by_items vs ≡ items_names xs
items_stand N vs NoItems e = ap names_by_items e
items_stand N vs (MoreItems x xs) (v, ws, e, p, q) = ap names_by_items e ∙ (ap (λ l. l ++ names_by_items ws) (item_stands N v x p) ∙ ap (λ l. item_names x ++ l) (items_stand N ws xs q))

annot_stands : (N : Nodes) (v : Annot) (x : Annotated) → StandsAnnot N v x → names_by_annot v ≡ annot_names x
annot_stands N v (Annotate f n is) (_, e, p) =
    ap (λ w. if same_name w (codes "cut") then names_by_items v.items else []) e ∙ ap (λ l. if same_name n (codes "cut") then l else []) (items_stand N v.items is p)

pub annots_stand : (N : Nodes) (vs : List Annot) (xs : Annots) → StandAnnots N vs xs → names_by_annots vs ≡ annots_names xs
annots_stand N vs NoAnnots e = ap names_by_annots e
annots_stand N vs (MoreAnnots x xs) (v, ws, e, p, q) = ap names_by_annots e ∙ (ap (λ l. l ++ names_by_annots ws) (annot_stands N v x p) ∙ ap (λ l. annot_names x ++ l) (annots_stand N ws xs q))

-- declarations that share their annotations name the same
pub alike_names : (d e : Option DeclNode) → AreAlike d e → names_at d ≡ names_at e
alike_names (Some d) (Some e) h = ap names_by_annots h.0
alike_names (Some d) None h = absurd h
alike_names None e h = absurd h

-- what a declaration names
pub decl_stands : (N : Nodes) (i : DeclId) (d : Decl) → StandsDecl N i d → names_at (decl_at N i) ≡ decl_names d
decl_stands N i (Declare f an b ps n r) (v, at, _, p, _, _, _, _) = ap names_at at ∙ annots_stand N v.annots an p

-- the number of a declaration is one of the tree
pub decl_within : (N : Nodes) (i : DeclId) → IsDecl N i → i.0 < length N.decls
decl_within N i (Declare f an b ps n r, (v, at, _, _, _, _, _, _)) = elim (cases_lt i.0 (length N.decls)) [ inl h ↦ h | inr h ↦ absurd (let never : None ≡ Some v = sym (slice_get_past N.decls i.0 h) ∙ at in cc) ]
