-- The parts of an expression stand for expressions and declarations, whose numbers fit.
use Rattle.std.proofs.Common.{ℕ, List}
use Rattle.c_syntax.specs.declared.id.DeclId.{DeclId}
use Rattle.c_syntax.specs.declared.id.ExprId.{ExprId}
use Rattle.c_syntax.specs.declared.declaration.Decl.{Decl as DeclNode}
use Rattle.c_syntax.specs.Nodes.{Nodes}
use Rattle.c_syntax.specs.Syntax.{Decl, Expr}
use Rattle.c_types_model.specs.Types.{CType}
use Rattle.c_types_rules.specs.Checked.{Checked}
use Rattle.c_types_rules.specs.Environment.{Environment}
use Rattle.c_types_rules.specs.TypedTree.{Typed}
use Rattle.c_syntax_laws.specs.Numbers.{FitsDecl, FitsExpr}
use Rattle.c_types_expressions.specs.Walks.{AreAnnots, AreExprs, AreParts, IsDecl, IsExpr}
use Rattle.c_types_expressions.proofs.Constructs.{OfCall, OfDecl, OfOne, OfThree, OfTwo, OfType, OfTypeAndOne}

module _ {N : Nodes} {a : ExprId} {x : Expr} {K : Environment → Typed → Checked Typed} where
  pub operand_fits : OfOne N a x K → FitsExpr x → IsExpr N a
  operand_fits p f = (p.operand, p.stand, p.fits f)

module _ {N : Nodes} {a b : ExprId} {x : Expr} {K : Environment → Typed → Typed → Checked Typed} where
  pub left_fits : OfTwo N a b x K → FitsExpr x → IsExpr N a
  left_fits p f = let both = p.fits f in (p.left, p.on_left, both.0)

  pub right_fits : OfTwo N a b x K → FitsExpr x → IsExpr N b
  right_fits p f = let both = p.fits f in (p.right, p.on_right, both.1)

module _ {N : Nodes} {a b c : ExprId} {x : Expr} {K : Typed → Typed → Typed → Checked Typed} where
  pub condition_fits : OfThree N a b c x K → FitsExpr x → IsExpr N a
  condition_fits p f = let all = p.fits f in (p.condition, p.on_condition, all.0)

  pub first_arm_fits : OfThree N a b c x K → FitsExpr x → IsExpr N b
  first_arm_fits p f = let all = p.fits f in (p.left, p.on_left, all.1)

  pub second_arm_fits : OfThree N a b c x K → FitsExpr x → IsExpr N c
  second_arm_fits p f = let all = p.fits f in (p.right, p.on_right, all.2)

module _ {N : Nodes} {d : DeclId} {x : Expr} where
  pub type_fits : {K : Environment → CType → Checked Typed} → OfType N d x K → FitsExpr x → IsDecl N d
  type_fits p f = (p.name, p.stand, p.fits f)

  pub target_fits : {a : ExprId} {K : CType → Typed → Checked Typed} → OfTypeAndOne N d a x K → FitsExpr x → IsDecl N d
  target_fits p f = let both = p.fits f in (p.name, p.on_name, both.0)

  pub cast_operand_fits : {a : ExprId} {K : CType → Typed → Checked Typed} → OfTypeAndOne N d a x K → FitsExpr x → IsExpr N a
  cast_operand_fits p f = let both = p.fits f in (p.operand, p.on_operand, both.1)

module _ {N : Nodes} {v : DeclNode} {d : Decl} where
  pub annots_fit : OfDecl N v d → FitsDecl d → AreAnnots N v.annots
  annots_fit p f = let both = p.fits f in (p.annots, p.on_annots, both.0)

  pub parts_fit : OfDecl N v d → FitsDecl d → AreParts N v.parts
  parts_fit p f = let both = p.fits f in (p.parts, p.on_parts, both.1)

module _ {N : Nodes} {from : ℕ} {a : ExprId} {is : List ExprId} {x : Expr} where
  pub callee_fits : OfCall N from a is x → FitsExpr x → IsExpr N a
  callee_fits p f = let both = p.fits f in (p.callee, p.on_callee, both.0)

  pub arguments_fit : OfCall N from a is x → FitsExpr x → AreExprs N is
  arguments_fit p f = let both = p.fits f in (p.arguments, p.on_arguments, both.1)
