-- Lists of nodes, one at a time.
use Rattle.std.proofs.Common.{◌≡◌, ◌<◌, ◌≤◌, ◌+◌, ℕ, zero, suc, max, List, [], ◌∷◌, ◌++◌, length, drop, get_or, map, refl, ap, ◌∙◌, arith, subst}
use Rattle.std.proofs.Math.Seq.{drop-cons}
use Rattle.c_syntax.specs.declared.id.DeclId.{DeclId}
use Rattle.c_syntax.specs.declared.id.ExprId.{ExprId}
use Rattle.c_syntax.specs.declared.declaration.Annot.{Annot as AnnotNode}
use Rattle.c_syntax.specs.declared.declaration.Item.{Item as ItemNode}
use Rattle.c_syntax.specs.declared.declaration.Part.{Part}
use Rattle.c_syntax.specs.Nodes.{Nodes}
use Rattle.c_syntax.specs.Syntax.{Expr, Exprs, Decl, Decls, Annots, Item, Items, Parts, NoExprs, MoreExprs, NoDecls, MoreDecls, NoAnnots, MoreAnnots, Annotate, NoItems, MoreItems, NoParts, Pointer, Array, Params}
use Rattle.c_syntax.specs.Stands.{Stands, StandExprs, StandsDecl, StandDecls, StandAnnots, StandItems, StandsItem, StandParts}
use Rattle.c_syntax_laws.specs.Heights.{greatest}
use Rattle.c_syntax_laws.specs.declared.node.Node.{Node}
use Rattle.c_syntax_laws.specs.declared.node.Node.TheVariants.{Expr as AnExpr, Decl as ADecl}
use Rattle.c_syntax_laws.specs.Named.{by_annots, by_items, by_item, by_parts, by_kind}
use Rattle.c_syntax_laws.specs.Numbers.{FitsExprs, FitsDecls, FitsAnnots, FitsItems}
use Rattle.c_types_expressions.specs.Walks.{IsExpr, AreExprs, IsDecl, AreDecls, AreAnnots, AreItems, IsItem}

-- the first of what is left is the one at this place
pub from_here : {X : Type 0} (xs : List X) (k : ℕ) (d : X) → k < length xs → drop k xs ≡ get_or xs k d ∷ drop (k + 1) xs
from_here xs k d h = let next : suc k ≡ k + 1 = omega arith in drop-cons xs k d h ∙ ap (λ n. get_or xs k d ∷ drop n xs) next

-- ---- heights

pub greatest_of_joined : (f : Node → ℕ) (a b : List Node) → greatest f (a ++ b) ≡ max (greatest f a) (greatest f b)
greatest_of_joined f [] b = omega arith
greatest_of_joined f (v ∷ a) b = let p = greatest_of_joined f a b in omega (arith, p)

pub expr_lower : (f : Node → ℕ) (is : List ExprId) (k : ℕ) (d : ExprId) → k < length is → f (AnExpr (get_or is k d)) ≤ greatest f (map AnExpr is)
expr_lower f [] k d h = absurd (omega arith)
expr_lower f (i ∷ is) zero d h = omega arith
expr_lower f (i ∷ is) (suc k) d h = let p = expr_lower f is k d (omega arith) in omega (arith, p)

pub decl_lower : (f : Node → ℕ) (is : List DeclId) (k : ℕ) (d : DeclId) → k < length is → f (ADecl (get_or is k d)) ≤ greatest f (map ADecl is)
decl_lower f [] k d h = absurd (omega arith)
decl_lower f (i ∷ is) zero d h = omega arith
decl_lower f (i ∷ is) (suc k) d h = let p = decl_lower f is k d (omega arith) in omega (arith, p)

pub annot_lower : (f : Node → ℕ) (vs : List AnnotNode) (k : ℕ) (d : AnnotNode) → k < length vs → let v = get_or vs k d in greatest f (by_items v.items) ≤ greatest f (by_annots vs)
annot_lower f [] k d h = absurd (omega arith)
annot_lower f (v ∷ vs) zero d h = omega (arith, greatest_of_joined f (by_items v.items) (by_annots vs))
annot_lower f (v ∷ vs) (suc k) d h = let p = annot_lower f vs k d (omega arith) in omega (arith, greatest_of_joined f (by_items v.items) (by_annots vs), p)

pub item_lower : (f : Node → ℕ) (vs : List ItemNode) (k : ℕ) (d : ItemNode) → k < length vs → greatest f (by_item (get_or vs k d)) ≤ greatest f (by_items vs)
item_lower f [] k d h = absurd (omega arith)
item_lower f (v ∷ vs) zero d h = omega (arith, greatest_of_joined f (by_item v) (by_items vs))
item_lower f (v ∷ vs) (suc k) d h = let p = item_lower f vs k d (omega arith) in omega (arith, greatest_of_joined f (by_item v) (by_items vs), p)

pub part_lower : (f : Node → ℕ) (vs : List Part) (k : ℕ) (d : Part) → k < length vs → let v = get_or vs k d in greatest f (by_kind v.kind) ≤ greatest f (by_parts vs)
part_lower f [] k d h = absurd (omega arith)
part_lower f (v ∷ vs) zero d h = omega (arith, greatest_of_joined f (by_kind v.kind) (by_parts vs))
part_lower f (v ∷ vs) (suc k) d h = let p = part_lower f vs k d (omega arith) in omega (arith, greatest_of_joined f (by_kind v.kind) (by_parts vs), p)

-- ---- what stands at the first and for the others

pub record FirstExpr (N : Nodes) (i : ExprId) (ids : List ExprId) (xs : Exprs) : Type 0 where
  pub first : Expr
  pub others : Exprs
  pub on_first : Stands N i first
  pub on_others : StandExprs N ids others
  pub is : xs ≡ MoreExprs first others

pub first_expr : (N : Nodes) (i : ExprId) (is : List ExprId) (xs : Exprs) → StandExprs N (i ∷ is) xs → FirstExpr N i is xs
first_expr N i is NoExprs e = absurd cc
first_expr N i is (MoreExprs x xs) (j, js, e, p, q) =
    let one : j ≡ i = cc in let all : js ≡ is = cc in
    record { first = x; others = xs; on_first = subst (λ k. Stands N k x) one p; on_others = subst (λ ks. StandExprs N ks xs) all q; is = refl }

pub no_expr : (N : Nodes) (xs : Exprs) → StandExprs N [] xs → xs ≡ NoExprs
no_expr N NoExprs e = refl
no_expr N (MoreExprs x xs) (j, js, e, p, q) = absurd cc

pub record FirstDecl (N : Nodes) (i : DeclId) (ids : List DeclId) (ds : Decls) : Type 0 where
  pub first : Decl
  pub others : Decls
  pub on_first : StandsDecl N i first
  pub on_others : StandDecls N ids others
  pub is : ds ≡ MoreDecls first others

pub first_decl : (N : Nodes) (i : DeclId) (is : List DeclId) (ds : Decls) → StandDecls N (i ∷ is) ds → FirstDecl N i is ds
first_decl N i is NoDecls e = absurd cc
first_decl N i is (MoreDecls d ds) (j, js, e, p, q) =
    let one : j ≡ i = cc in let all : js ≡ is = cc in
    record { first = d; others = ds; on_first = subst (λ k. StandsDecl N k d) one p; on_others = subst (λ ks. StandDecls N ks ds) all q; is = refl }

pub no_decl : (N : Nodes) (ds : Decls) → StandDecls N [] ds → ds ≡ NoDecls
no_decl N NoDecls e = refl
no_decl N (MoreDecls d ds) (j, js, e, p, q) = absurd cc

pub record FirstAnnot (N : Nodes) (v : AnnotNode) (vs : List AnnotNode) (xs : Annots) : Type 0 where
  pub from : ℕ
  pub name : List ℕ
  pub items : Items
  pub others : Annots
  pub on_items : StandItems N v.items items
  pub on_others : StandAnnots N vs others
  pub is : xs ≡ MoreAnnots (Annotate from name items) others

pub first_annot : (N : Nodes) (v : AnnotNode) (vs : List AnnotNode) (xs : Annots) → StandAnnots N (v ∷ vs) xs → FirstAnnot N v vs xs
first_annot N v vs NoAnnots e = absurd cc
first_annot N v vs (MoreAnnots (Annotate f n is) xs) (w, ws, e, (_, _, p), q) =
    let one : w ≡ v = cc in let all : ws ≡ vs = cc in
    record { from = f; name = n; items = is; others = xs; on_items = subst (λ (u : AnnotNode). StandItems N u.items is) one p; on_others = subst (λ us. StandAnnots N us xs) all q; is = refl }

pub no_annot : (N : Nodes) (xs : Annots) → StandAnnots N [] xs → xs ≡ NoAnnots
no_annot N NoAnnots e = refl
no_annot N (MoreAnnots x xs) (j, js, e, p, q) = absurd cc

pub record FirstItem (N : Nodes) (v : ItemNode) (vs : List ItemNode) (xs : Items) : Type 0 where
  pub first : Item
  pub others : Items
  pub on_first : StandsItem N v first
  pub on_others : StandItems N vs others
  pub is : xs ≡ MoreItems first others

pub first_item : (N : Nodes) (v : ItemNode) (vs : List ItemNode) (xs : Items) → StandItems N (v ∷ vs) xs → FirstItem N v vs xs
first_item N v vs NoItems e = absurd cc
first_item N v vs (MoreItems x xs) (w, ws, e, p, q) =
    let one : w ≡ v = cc in let all : ws ≡ vs = cc in
    record { first = x; others = xs; on_first = subst (λ u. StandsItem N u x) one p; on_others = subst (λ us. StandItems N us xs) all q; is = refl }

pub no_item : (N : Nodes) (xs : Items) → StandItems N [] xs → xs ≡ NoItems
no_item N NoItems e = refl
no_item N (MoreItems x xs) (j, js, e, p, q) = absurd cc

pub no_part : (N : Nodes) (ps : Parts) → StandParts N [] ps → ps ≡ NoParts
no_part N NoParts e = refl
no_part N (Pointer f ps) (v, ws, e, _, k, q) = absurd cc
no_part N (Array f x ps) (v, a, ws, e, _, k, p, q) = absurd cc
no_part N (Params f ds ps) (v, is, ws, e, _, k, p, q) = absurd cc

-- ---- one among many

pub expr_among : (N : Nodes) (is : List ExprId) (k : ℕ) (d : ExprId) → k < length is → AreExprs N is → IsExpr N (get_or is k d)
expr_among N [] k d h a = absurd (omega arith)
expr_among N (i ∷ is) zero d h (xs, s, f) = let r = first_expr N i is xs s in let g = subst FitsExprs r.is f in (r.first, r.on_first, g.0)
expr_among N (i ∷ is) (suc k) d h (xs, s, f) = let r = first_expr N i is xs s in let g = subst FitsExprs r.is f in expr_among N is k d (omega arith) (r.others, r.on_others, g.1)

pub decl_among : (N : Nodes) (is : List DeclId) (k : ℕ) (d : DeclId) → k < length is → AreDecls N is → IsDecl N (get_or is k d)
decl_among N [] k d h a = absurd (omega arith)
decl_among N (i ∷ is) zero d h (xs, s, f) = let r = first_decl N i is xs s in let g = subst FitsDecls r.is f in (r.first, r.on_first, g.0)
decl_among N (i ∷ is) (suc k) d h (xs, s, f) = let r = first_decl N i is xs s in let g = subst FitsDecls r.is f in decl_among N is k d (omega arith) (r.others, r.on_others, g.1)

pub annot_among : (N : Nodes) (vs : List AnnotNode) (k : ℕ) (d : AnnotNode) → k < length vs → AreAnnots N vs → let v = get_or vs k d in AreItems N v.items
annot_among N [] k d h a = absurd (omega arith)
annot_among N (v ∷ vs) zero d h (xs, s, f) = let r = first_annot N v vs xs s in let g = subst FitsAnnots r.is f in (r.items, r.on_items, g.0)
annot_among N (v ∷ vs) (suc k) d h (xs, s, f) = let r = first_annot N v vs xs s in let g = subst FitsAnnots r.is f in annot_among N vs k d (omega arith) (r.others, r.on_others, g.1)

pub item_among : (N : Nodes) (vs : List ItemNode) (k : ℕ) (d : ItemNode) → k < length vs → AreItems N vs → IsItem N (get_or vs k d)
item_among N [] k d h a = absurd (omega arith)
item_among N (v ∷ vs) zero d h (xs, s, f) = let r = first_item N v vs xs s in let g = subst FitsItems r.is f in (r.first, r.on_first, g.0)
item_among N (v ∷ vs) (suc k) d h (xs, s, f) = let r = first_item N v vs xs s in let g = subst FitsItems r.is f in item_among N vs k d (omega arith) (r.others, r.on_others, g.1)
