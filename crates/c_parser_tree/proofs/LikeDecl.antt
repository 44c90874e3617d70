-- Actions on declarators and declarations do to pieces with numbers what they do to trees.
use Rattle.std.proofs.Common.{◌≡◌, ℕ, List, [], ◌∷◌, length, reverse, Option, Some, None, refl, sym, ap, subst}
use Rattle.std.specs.Option.{option_map}
use Rattle.std.proofs.lemmas.List.{reverse-append}
use Rattle.c_syntax.specs.declared.declaration.Decl.{Decl as DeclNode}
use Rattle.c_syntax.specs.declared.declaration.Base.{Base}
use Rattle.c_syntax.specs.declared.declaration.Base.TheVariants as bases
use Rattle.c_syntax.specs.declared.declaration.PartKind.TheVariants as parts
use Rattle.c_syntax.specs.declared.declaration.Annot.{Annot}
use Rattle.c_syntax.specs.declared.declaration.Part.{Part}
use Rattle.c_syntax.specs.declared.declaration.Rest.{Rest}
use Rattle.c_syntax.specs.declared.declaration.Rest.TheVariants as rests
use Rattle.c_syntax.specs.Nodes.{Nodes}
use Rattle.c_syntax.specs.Stands.{StandParts, StandsRest}
use Rattle.c_syntax.specs.Syntax as c
use Rattle.c_parser_moves.specs.declared.action.Action.TheVariants as acts
use Rattle.c_parser_actions.specs.Pieces.{Piece as Tree, PDecl, PSpecs}
use Rattle.c_parser_tree.specs.declared.piece.Declarator.{Declarator}
use Rattle.c_parser_tree.specs.declared.piece.Shared.{Shared}
use Rattle.c_parser_tree.specs.declared.piece.Shared.TheVariants as shares
use Rattle.c_parser_tree.specs.Built.{decl_of, put_decl, put_with, shared_after, words_of}
use Rattle.c_parser_tree.specs.Nodes.{with_decl}
use Rattle.c_parser_tree.specs.Stacks.{Stacks}
use Rattle.c_parser_tree.specs.Stacked.{Stacked, StandsShared}
use Rattle.c_parser_tree.specs.Made.{made_declr, made_decl, made_list}
use Rattle.c_parser_tree.specs.Stacked as on
use Rattle.c_parser_tree.proofs.Grow.{Grows, grow_annots, grow_decls, grow_parts, grow_stmt, grow_value}
use Rattle.c_parser_tree.proofs.Ends.{new_decl, grows_decl, decls_end}
use Rattle.c_parser_tree.proofs.Likewise.{Likewise, Stood, goes_broken, grow_stack, grow_words}

pub like_named : (f : ℕ) (n : List ℕ) → Likewise (made_declr (acts.Named f n)) (acts.Named f n)
unfolding made_declr
like_named f n N R P t = on.declr [] (Some n) f c.NoParts refl t

pub like_nameless : (f : ℕ) → Likewise (made_declr (acts.Nameless f)) (acts.Nameless f)
unfolding made_declr
like_nameless f N R P t = on.declr [] None f c.NoParts refl t

pub like_pointer : (f : ℕ) → Likewise (made_declr (acts.Pointer f)) (acts.Pointer f)
unfolding made_declr
like_pointer f N _ _ (on.declr vs m g ps q t) = on.declr _ m g (c.Pointer f ps) (record { from = f; kind = parts.Pointer }, reverse vs, reverse-append vs (record { from = f; kind = parts.Pointer } ∷ []), refl, refl, q) t
like_pointer f N R P t = goes_broken (made_declr (acts.Pointer f) N R)

pub like_array : (f : ℕ) → Likewise (made_declr (acts.Array f)) (acts.Array f)
unfolding made_declr
like_array f N _ _ (on.expr i0 x0 p0 (on.declr vs m g ps q t)) = on.declr _ m g (c.Array f x0 ps) (record { from = f; kind = parts.Array i0 }, i0, reverse vs, reverse-append vs (record { from = f; kind = parts.Array i0 } ∷ []), refl, refl, p0, q) t
like_array f N R P t = goes_broken (made_declr (acts.Array f) N R)

pub like_params : (f : ℕ) → Likewise (made_declr (acts.Params f)) (acts.Params f)
unfolding made_declr
like_params f N _ _ (on.decls i0 x0 p0 (on.declr vs m g ps q t)) = on.declr _ m g (c.Params f x0 ps) (record { from = f; kind = parts.Params i0 }, i0, reverse vs, reverse-append vs (record { from = f; kind = parts.Params i0 } ∷ []), refl, refl, p0, q) t
like_params f N R P t = goes_broken (made_declr (acts.Params f) N R)

pub like_specs : (b : Base) → Likewise (made_decl (acts.Specs b)) (acts.Specs b)
unfolding made_decl
like_specs b N _ _ (on.annots i0 x0 p0 t) = on.specs (shares.Words i0 b) b x0 ((i0, b), refl, p0, refl) t
like_specs b N R P t = goes_broken (made_decl (acts.Specs b) N R)

-- what the names after a new declaration share stands for what it has
shared_then : (N : Nodes) (s : Shared) (d : Declarator) (q : Rest) (w : List Annot × Base) → words_of N s ≡ Some w →
    words_of (with_decl N (decl_of d w q)) (shared_after (record { 0 = length N.decls }) s) ≡ Some w
shared_then N (shares.Words an b) d q w h = ap (option_map (λ (x : DeclNode). (x.annots, x.base))) (new_decl N (decl_of d w q))
shared_then N (shares.Like i) d q w h = grow_words (grows_decl N (decl_of d w q)) (shares.Like i) w h

-- a new declaration with what stands for its rest
declared : (N : Nodes) (R : Stacks) (P : List Tree) (vs : List Part) (m : Option (List ℕ)) (g : ℕ) (ps : c.Parts) (s : Shared) (b : Base) (an : c.Annots) (q : Rest) (x : c.Rest) →
    StandParts N (reverse vs) ps → StandsShared N s an b → Stacked N R P →
    ((M : Nodes) → Grows N M → StandsRest M q x) →
    Stood (put_decl N (record { parts = vs; name = m; from = g }) s q R) (PDecl (c.Declare g an b ps m x) ∷ PSpecs an b ∷ P)
declared N R P vs m g ps s b an q x p (w, e, r, f) t h =
    let D : Declarator = record { parts = vs; name = m; from = g } in
    let d : DeclNode = decl_of D w q in
    let M : Nodes = with_decl N d in
    let k : Grows N M = grows_decl N d in
    let an_there = grow_annots k w.0 an r in
    subst (λ o. Stood (put_with N D s q R o) (PDecl (c.Declare g an b ps m x) ∷ PSpecs an b ∷ P)) (sym e)
    (on.decl _ _ (d, new_decl N d, refl, an_there, f, grow_parts k (reverse vs) ps p, refl, h M k)
    (on.specs (shared_after (record { 0 = length N.decls }) s) b an (w, shared_then N s D q w e, an_there, f) (grow_stack k t)))

pub like_declare : Likewise (made_decl acts.Declare) acts.Declare
unfolding made_decl
like_declare N _ _ (on.declr vs m g ps p (on.specs s b an r t)) = declared N _ _ vs m g ps s b an rests.None c.NoRest p r t (λ M k. refl)
like_declare N R P t = goes_broken (made_decl acts.Declare N R)

pub like_declare_value : Likewise (made_decl acts.DeclareValue) acts.DeclareValue
unfolding made_decl
like_declare_value N _ _ (on.value i0 x0 p0 (on.declr vs m g ps p (on.specs s b an r t))) =
    declared N _ _ vs m g ps s b an (rests.Value i0) (c.Initial x0) p r t (λ M k. (i0, refl, grow_value k i0 x0 p0))
like_declare_value N R P t = goes_broken (made_decl acts.DeclareValue N R)

pub like_declare_body : Likewise (made_decl acts.DeclareBody) acts.DeclareBody
unfolding made_decl
like_declare_body N _ _ (on.stmt i0 x0 p0 (on.declr vs m g ps p (on.specs s b an r t))) =
    declared N _ _ vs m g ps s b an (rests.Body i0) (c.Body x0) p r t (λ M k. (i0, refl, grow_stmt k i0 x0 p0))
like_declare_body N R P t = goes_broken (made_decl acts.DeclareBody N R)

pub like_end_specs : Likewise (made_decl acts.EndSpecs) acts.EndSpecs
unfolding made_decl
like_end_specs N _ _ (on.specs s b an r t) = t
like_end_specs N R P t = goes_broken (made_decl acts.EndSpecs N R)

pub like_drop_specs : Likewise (made_decl acts.DropSpecs) acts.DropSpecs
unfolding made_decl
like_drop_specs N _ _ (on.decl i0 x0 p0 (on.specs s b an r t)) = on.decl i0 x0 p0 t
like_drop_specs N R P t = goes_broken (made_decl acts.DropSpecs N R)

pub like_no_decls : Likewise (made_list acts.NoDecls) acts.NoDecls
unfolding made_list
like_no_decls N R P t = on.decls [] c.NoDecls refl t

pub like_add_name : Likewise (made_list acts.AddName) acts.AddName
unfolding made_list
like_add_name N _ _ (on.decl i0 x0 p0 (on.specs s b an r (on.decls i2 x2 p2 t))) = on.specs s b an r (on.decls _ _ (decls_end N i2 i0 x2 x0 p2 p0) t)
like_add_name N R P t = goes_broken (made_list acts.AddName N R)

pub like_tag : (f : ℕ) (n : List ℕ) → Likewise (made_list (acts.Tag f n)) (acts.Tag f n)
unfolding made_list
like_tag f n N R P t = on.tag f n t

pub like_struct : Likewise (made_list acts.Struct) acts.Struct
unfolding made_list
like_struct N _ _ (on.decls i0 x0 p0 (on.tag g m (on.decls i2 x2 p2 t))) =
    let d : DeclNode = record { from = g; annots = []; base = bases.Struct m; parts = []; name = None; rest = rests.Members i0 } in
    let h : Grows N (with_decl N d) = grows_decl N d in
    on.decls _ _ (decls_end _ i2 _ x2 _ (grow_decls h i2 x2 p2) (d, new_decl N d, refl, refl, refl, refl, refl, (i0, refl, grow_decls h i0 x0 p0))) (grow_stack h t)
like_struct N R P t = goes_broken (made_list acts.Struct N R)
