-- What a node of a source names is lower than it.
use Rattle.std.proofs.Common.{◌≡◌, ◌<◌, ◌++◌, Some, ap, ◌∙◌, arith, subst}
use Rattle.c_syntax.specs.declared.id.DeclId.{DeclId}
use Rattle.c_syntax.specs.declared.id.ExprId.{ExprId}
use Rattle.c_syntax.specs.declared.expression.Expr.{Expr as ExprNode}
use Rattle.c_syntax.specs.declared.expression.ExprKind.{ExprKind}
use Rattle.c_syntax.specs.declared.declaration.Decl.{Decl as DeclNode}
use Rattle.c_syntax.specs.Nodes.{Nodes, decl_at, expr_at}
use Rattle.c_syntax_laws.specs.Heights.{greatest}
use Rattle.c_syntax_laws.specs.declared.node.Node.TheVariants.{Expr as AnExpr, Decl as ADecl}
use Rattle.c_syntax_laws.specs.Named.{by_expr, by_expr_node, by_annots, by_parts, by_decl, by_decl_node, by_rest, height_in}
use Rattle.c_syntax_laws.proofs.Lower.{expr_falls, decl_falls}
use Rattle.c_types_expressions.specs.Walks.{IsExpr, IsDecl}
use Rattle.c_types_expressions.proofs.Lists.{greatest_of_joined}

-- what an expression names
pub below_expr : (N : Nodes) (i : ExprId) (e : ExprNode) (k : ExprKind) → IsExpr N i → expr_at N i ≡ Some e → e.kind ≡ k → greatest (height_in N) (by_expr k) < height_in N (AnExpr i)
below_expr N i e k (x, h, f) at is = subst (λ vs. greatest (height_in N) vs < height_in N (AnExpr i)) (ap by_expr_node at ∙ ap by_expr is) (expr_falls N i x h)

below_decl : (N : Nodes) (i : DeclId) (v : DeclNode) → IsDecl N i → decl_at N i ≡ Some v → greatest (height_in N) (by_decl v) < height_in N (ADecl i)
below_decl N i v (d, h, f) at = subst (λ vs. greatest (height_in N) vs < height_in N (ADecl i)) (ap by_decl_node at) (decl_falls N i d h)

-- what the annotations of a declaration name
pub below_annots : (N : Nodes) (i : DeclId) (v : DeclNode) → IsDecl N i → decl_at N i ≡ Some v → greatest (height_in N) (by_annots v.annots) < height_in N (ADecl i)
below_annots N i v h at = omega (arith, below_decl N i v h at, greatest_of_joined (height_in N) (by_annots v.annots) (by_parts v.parts ++ by_rest v.rest), greatest_of_joined (height_in N) (by_parts v.parts) (by_rest v.rest))

-- what the parts of its declarator name
pub below_parts : (N : Nodes) (i : DeclId) (v : DeclNode) → IsDecl N i → decl_at N i ≡ Some v → greatest (height_in N) (by_parts v.parts) < height_in N (ADecl i)
below_parts N i v h at = omega (arith, below_decl N i v h at, greatest_of_joined (height_in N) (by_annots v.annots) (by_parts v.parts ++ by_rest v.rest), greatest_of_joined (height_in N) (by_parts v.parts) (by_rest v.rest))
