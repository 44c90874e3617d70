-- The end of the actions.
use Rattle.std.proofs.Common.{◌≡◌, List, [], ◌∷◌, Some, None, ap, sym, subst}
use Rattle.c_syntax.specs.declared.id.DeclId.{DeclId}
use Rattle.c_syntax.specs.Nodes.{Nodes}
use Rattle.c_syntax.specs.Stands.{StandDecls, Holds}
use Rattle.c_syntax.specs.Syntax.{Decls}
use Rattle.c_parser_actions.specs.Pieces.{PDecls}
use Rattle.c_parser_tree.specs.Stacks.{Stacks}
use Rattle.c_parser_tree.specs.Stacked.{Stacked}
use Rattle.c_parser_tree.specs.Stacked as s
use Rattle.c_parser_tree.specs.Takes.{decls_in}
use Rattle.c_parser_tree.proofs.Grow.{Grows, grow_decls}

same_nodes : (N M : Nodes) → M.decls ≡ N.decls → M.stmts ≡ N.stmts → M.exprs ≡ N.exprs → Grows N M
same_nodes N M d t e = record { decl = λ i x h. rw d h; stmt = λ i x h. rw t h; expr = λ i x h. rw e h }

some_inj : (x y : List DeclId × Stacks) → Some x ≡ Some y → x ≡ y
some_inj x y e = cc

one_list : (N : Nodes) (R Q : Stacks) (is : List DeclId) (ds : Decls) → decls_in R ≡ Some (is, Q) → Stacked N R (PDecls ds ∷ []) → StandDecls N is ds
one_list N _ Q is _ e (s.decls {S = R} i x p t) = let same : i ≡ is = ap (λ (z : List DeclId × Stacks). z.0) (some_inj (i, R) (is, Q) e) in rw same at p

pub finished : (N : Nodes) (R Q : Stacks) (is : List DeclId) (t : Nodes) → decls_in R ≡ Some (is, Q) → t.decls ≡ N.decls → t.stmts ≡ N.stmts → t.exprs ≡ N.exprs → t.tops ≡ is → (ds : Decls) → Stacked N R (PDecls ds ∷ []) → Holds t ds
finished N R Q is t e d s x o ds h = subst (λ (v : List DeclId). StandDecls t v ds) (sym o) (grow_decls (same_nodes N t d s x) is ds (one_list N R Q is ds e h))

pub no_decls : (N : Nodes) (R : Stacks) → decls_in R ≡ None → (ds : Decls) → Stacked N R (PDecls ds ∷ []) → ⊥
no_decls N _ e _ (s.decls i x p t) = absurd cc
