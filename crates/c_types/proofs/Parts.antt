-- Nodes of declarations, and the parts of declarations that they stand for.
use Rattle.std.proofs.Common.{◌≡◌, ℕ, zero, suc, ◌<◌, List, [], ◌∷◌, length, drop, get_or, Option, Some, refl, subst, arith}
use Rattle.std.proofs.lemmas.Option.{slice_get_within}
use Rattle.c_syntax.specs.declared.id.DeclId.{DeclId}
use Rattle.c_syntax.specs.declared.id.StmtId.{StmtId}
use Rattle.c_syntax.specs.declared.declaration.Base.{Base}
use Rattle.c_syntax.specs.declared.declaration.Decl.{Decl as DeclNode}
use Rattle.c_syntax.specs.declared.declaration.Rest.{Rest as After}
use Rattle.c_syntax.specs.declared.declaration.Rest.TheVariants as rests
use Rattle.c_syntax.specs.declared.declaration.Value.{Value as Given}
use Rattle.c_syntax.specs.Nodes.{Nodes, decl_at}
use Rattle.c_syntax.specs.Syntax.{Decl, Decls, Annots, Parts, Rest, Declare, NoDecls, MoreDecls, NoRest, Initial, Body, Members}
use Rattle.c_syntax.specs.Stands.{StandsDecl, StandDecls, StandAnnots, StandParts, StandsRest, StandsStmt, StandsValue}
use Rattle.c_syntax_laws.specs.Numbers.{FitsDecls}
use Rattle.c_types_expressions.specs.Walks.{IsDecl, AreDecls, AreAnnots, AreParts}
use Rattle.c_types_statements.specs.Walks.{IsRest, IsStmt}
use Rattle.c_types_initializers.specs.Values.{IsValue}

-- the parts of a node are those of a declaration
pub record IsNode (N : Nodes) (e : DeclNode) (from : ℕ) (an : Annots) (b : Base) (ps : Parts) (n : Option (List ℕ)) (r : Rest) : Type 0 where
  pub offset : e.from ≡ from
  pub annots : StandAnnots N e.annots an
  pub base : e.base ≡ b
  pub parts : StandParts N e.parts ps
  pub name : e.name ≡ n
  pub rest : StandsRest N e.rest r

pub node_is : (N : Nodes) (i : DeclId) (e : DeclNode) (from : ℕ) (an : Annots) (b : Base) (ps : Parts) (n : Option (List ℕ)) (r : Rest) → StandsDecl N i (Declare from an b ps n r) → decl_at N i ≡ Some e → IsNode N e from an b ps n r
node_is N i e from an b ps n r (d, at, f, a, p, q, m, s) h =
    let same : d ≡ e = cc in
    subst (λ x. IsNode N x from an b ps n r) same (record { offset = f; annots = a; base = p; parts = q; name = m; rest = s })

pub inside : (N : Nodes) (i : DeclId) (d : Decl) → StandsDecl N i d → i.0 < length N.decls
inside N i (Declare from an b ps n r) (e, at, f, a, p, q, m, s) = slice_get_within N.decls i.0 e at

pub decl_inside : (N : Nodes) (i : DeclId) → IsDecl N i → i.0 < length N.decls
decl_inside N i (d, s, f) = inside N i d s

-- the node of a declaration
pub node_of : (N : Nodes) (i : DeclId) → IsDecl N i → (e : DeclNode) × (decl_at N i ≡ Some e)
node_of N i (Declare from an b ps n r, (e, at, f, a, p, q, m, s), f') = (e, at)

-- ---- parts whose numbers fit

pub annots_of : (N : Nodes) (i : DeclId) (e : DeclNode) → IsDecl N i → decl_at N i ≡ Some e → AreAnnots N e.annots
annots_of N i e (Declare from an b ps n r, s, f) h = let k = node_is N i e from an b ps n r s h in (an, k.annots, f.0)

pub parts_of : (N : Nodes) (i : DeclId) (e : DeclNode) → IsDecl N i → decl_at N i ≡ Some e → AreParts N e.parts
parts_of N i e (Declare from an b ps n r, s, f) h = let k = node_is N i e from an b ps n r s h in (ps, k.parts, f.1)

pub rest_of : (N : Nodes) (i : DeclId) (e : DeclNode) → IsDecl N i → decl_at N i ≡ Some e → IsRest N e.rest
rest_of N i e (Declare from an b ps n r, s, f) h = let k = node_is N i e from an b ps n r s h in (r, k.rest, f.2)

pub body_of_rest : (N : Nodes) (q : After) (i : StmtId) → IsRest N q → q ≡ rests.Body i → IsStmt N i
body_of_rest N q i (NoRest, s, f) e = absurd cc
body_of_rest N q i (Initial v, (w, p, s), f) e = absurd cc
body_of_rest N q i (Body b, (j, p, s), f) e = let same : j ≡ i = cc in (b, subst (λ x. StandsStmt N x b) same s, f)
body_of_rest N q i (Members ds, (is, p, s), f) e = absurd cc

pub members_of_rest : (N : Nodes) (q : After) (is : List DeclId) → IsRest N q → q ≡ rests.Members is → AreDecls N is
members_of_rest N q is (NoRest, s, f) e = absurd cc
members_of_rest N q is (Initial v, (w, p, s), f) e = absurd cc
members_of_rest N q is (Body b, (j, p, s), f) e = absurd cc
members_of_rest N q is (Members ds, (js, p, s), f) e = let same : js ≡ is = cc in (ds, subst (λ x. StandDecls N x ds) same s, f)

pub value_of_rest : (N : Nodes) (q : After) (v : Given) → IsRest N q → q ≡ rests.Value v → IsValue N v
value_of_rest N q v (NoRest, s, f) e = absurd cc
value_of_rest N q v (Initial x, (w, p, s), f) e = let same : w ≡ v = cc in (x, subst (λ y. StandsValue N y x) same s, f)
value_of_rest N q v (Body b, (j, p, s), f) e = absurd cc
value_of_rest N q v (Members ds, (js, p, s), f) e = absurd cc

-- ---- several declarations

pub one_of : (N : Nodes) (is : List DeclId) (ds : Decls) (k : ℕ) (z : DeclId) → StandDecls N is ds → FitsDecls ds → k < length is → IsDecl N (get_or is k z)
one_of N [] ds k z s f lt = absurd (omega arith)
one_of N (i ∷ is) NoDecls k z s f lt = absurd cc
one_of N (i ∷ is) (MoreDecls d ds) zero z (j, js, e, s, t) f lt = let same : j ≡ i = cc in (d, subst (λ x. StandsDecl N x d) same s, f.0)
one_of N (i ∷ is) (MoreDecls d ds) (suc k) z (j, js, e, s, t) f lt = let same : js ≡ is = cc in one_of N is ds k z (subst (λ x. StandDecls N x ds) same t) f.1 (omega arith)

pub one_of_all : (N : Nodes) (is : List DeclId) (k : ℕ) (z : DeclId) → AreDecls N is → k < length is → IsDecl N (get_or is k z)
one_of_all N is k z (ds, s, f) lt = one_of N is ds k z s f lt

-- the numbers that are left begin with this one
pub ids_left : (is : List DeclId) (k : ℕ) (z : DeclId) → k < length is → drop k is ≡ get_or is k z ∷ drop (suc k) is
ids_left [] k z lt = absurd (omega arith)
ids_left (i ∷ is) zero z lt = refl
ids_left (i ∷ is) (suc k) z lt = ids_left is k z (omega arith)
