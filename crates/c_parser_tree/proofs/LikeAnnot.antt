-- Actions on annotations and values do to pieces with numbers what they do to trees.
use Rattle.std.proofs.Common.{ℕ, List, [], refl}
use Rattle.c_syntax.specs.declared.declaration.Atom.TheVariants as atoms
use Rattle.c_syntax.specs.declared.declaration.Value.TheViews.{roll-Value, out-roll-Value}
use Rattle.c_syntax.specs.declared.declaration.Value.TheOpen.{Value-F}
use Rattle.c_syntax.specs.Syntax as c
use Rattle.c_parser_moves.specs.declared.action.Action.TheVariants as acts
use Rattle.c_parser_tree.specs.Made.{made_annot, made_item, made_value}
use Rattle.c_parser_tree.specs.Stacked as on
use Rattle.c_parser_tree.proofs.Ends.{annots_end, items_end, values_end}
use Rattle.c_parser_tree.proofs.Likewise.{Likewise, goes_broken}

pub like_no_annots : Likewise (made_annot acts.NoAnnots) acts.NoAnnots
unfolding made_annot
like_no_annots N R P t = on.annots [] c.NoAnnots refl t

pub like_annot_name : (f : ℕ) (n : List ℕ) → Likewise (made_annot (acts.AnnotName f n)) (acts.AnnotName f n)
unfolding made_annot
like_annot_name f n N R P t = on.annot f n [] c.NoItems refl t

pub like_add_annot : Likewise (made_annot acts.AddAnnot) acts.AddAnnot
unfolding made_annot
like_add_annot N _ _ (on.annot g m vs is q (on.annots i1 x1 p1 t)) = on.annots _ _ (annots_end N i1 _ x1 (c.Annotate g m is) p1 (refl, refl, q)) t
like_add_annot N R P t = goes_broken (made_annot acts.AddAnnot N R)

pub like_add_item : Likewise (made_annot acts.AddItem) acts.AddItem
unfolding made_annot
like_add_item N _ _ (on.item i0 x0 p0 (on.annot g m vs is q t)) = on.annot g m _ _ (items_end N vs i0 is x0 q p0) t
like_add_item N R P t = goes_broken (made_annot acts.AddItem N R)

pub like_name_atom : (n : List ℕ) → Likewise (made_item (acts.NameAtom n)) (acts.NameAtom n)
unfolding made_item
like_name_atom n N R P t = on.atom (atoms.Name n) (c.NameAtom n) refl t

pub like_number_atom : (v : ℕ) → Likewise (made_item (acts.NumberAtom v)) (acts.NumberAtom v)
unfolding made_item
like_number_atom v N R P t = on.atom (atoms.Number v) (c.NumberAtom v) refl t

pub like_return_atom : Likewise (made_item acts.ReturnAtom) acts.ReturnAtom
unfolding made_item
like_return_atom N R P t = on.atom atoms.Return c.ReturnAtom refl t

pub like_sizeof_atom : Likewise (made_item acts.SizeofAtom) acts.SizeofAtom
unfolding made_item
like_sizeof_atom N _ _ (on.decl i0 x0 p0 t) = on.atom (atoms.Sizeof i0) (c.SizeofAtom x0) (i0, refl, p0) t
like_sizeof_atom N R P t = goes_broken (made_item acts.SizeofAtom N R)

pub like_one_factor : (f : ℕ) → Likewise (made_item (acts.OneFactor f)) (acts.OneFactor f)
unfolding made_item
like_one_factor f N _ _ (on.atom i0 x0 p0 t) = on.item _ (c.OneFactor f x0) (refl, p0, refl) t
like_one_factor f N R P t = goes_broken (made_item (acts.OneFactor f) N R)

pub like_two_factors : (f : ℕ) → Likewise (made_item (acts.TwoFactors f)) (acts.TwoFactors f)
unfolding made_item
like_two_factors f N _ _ (on.atom i0 x0 p0 (on.atom i1 x1 p1 t)) = on.item _ (c.TwoFactors f x1 x0) (i0, refl, p1, refl, p0) t
like_two_factors f N R P t = goes_broken (made_item (acts.TwoFactors f) N R)

pub like_plain : Likewise (made_value acts.Plain) acts.Plain
unfolding made_value
like_plain N _ _ (on.expr i0 x0 p0 t) = on.value (roll-Value (Value-F.Plain i0)) (c.Plain x0) (i0, out-roll-Value (Value-F.Plain i0), p0) t
like_plain N R P t = goes_broken (made_value acts.Plain N R)

pub like_no_values : Likewise (made_value acts.NoValues) acts.NoValues
unfolding made_value
like_no_values N R P t = on.values [] c.NoValues refl t

pub like_add_value : Likewise (made_value acts.AddValue) acts.AddValue
unfolding made_value
like_add_value N _ _ (on.value i0 x0 p0 (on.values i1 x1 p1 t)) = on.values _ _ (values_end N i1 i0 x1 x0 p1 p0) t
like_add_value N R P t = goes_broken (made_value acts.AddValue N R)
