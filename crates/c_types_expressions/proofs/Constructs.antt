-- What each kind of expression is made of.
use Rattle.std.proofs.Common.{◌≡◌, ℕ, ℤ, Bool, ◌<◌, List, length, Some, refl, sym, ap, ◌∙◌, subst}
use Rattle.std.proofs.lemmas.Option.{slice_get_within}
use Rattle.c_lexer.specs.declared.token.Sign.{Sign}
use Rattle.c_lexer.specs.declared.token.Suffix.{Suffix}
use Rattle.c_syntax.specs.declared.id.DeclId.{DeclId}
use Rattle.c_syntax.specs.declared.id.ExprId.{ExprId}
use Rattle.c_syntax.specs.declared.expression.Expr.{Expr as ExprNode}
use Rattle.c_syntax.specs.declared.expression.ExprKind.TheVariants as exprs
use Rattle.c_syntax.specs.declared.declaration.Decl.{Decl as DeclNode}
use Rattle.c_syntax.specs.Nodes.{Nodes, decl_at, expr_at}
use Rattle.c_syntax.specs.Syntax.{Expr, Exprs, Decl, Declare, Annots, Parts, Name, Number, Char, Text, Binary, Assign, Cond, Prefix, Postfix, SizeofExpr, SizeofType, Cast, Index, Call, Member, Arrow}
use Rattle.c_syntax.specs.Stands.{Stands, StandExprs, StandsDecl, StandAnnots, StandParts}
use Rattle.c_syntax.proofs.Only.{name_only, number_only, char_only, text_only, binary_only, assign_only, cond_only, prefix_only, postfix_only, sizeof_expr_only, sizeof_type_only, cast_only, index_only, call_only, member_only, arrow_only}
use Rattle.c_types_model.specs.Types.{CType}
use Rattle.c_types_rules.specs.Checked.{Checked, ◌>>=◌, ◌>>◌}
use Rattle.c_types_rules.specs.Environment.{Environment, base_type, extents}
use Rattle.c_types_rules.specs.Expressions.{expression, declared_type, declarator_type, annotation_types, parameter_type, parameter_scope, with_parameter, member, prefixed, postfixed}
use Rattle.c_types_rules.specs.TypedTree.{Typed, typed_type}
use Rattle.c_syntax_laws.specs.Numbers.{FitsExpr, FitsExprs, FitsDecl, FitsAnnots, FitsParts}
use Rattle.c_types_expressions.specs.Pieces.{binary_of, assignment_of, choice_of, subscript_of, cast_of, arrow_from, size_constant, size_of_operand, parameter, whole_type}
use Rattle.c_types_expressions.specs.Walks.{IsExpr, IsDecl}

-- of one operand
pub record OfOne (N : Nodes) (a : ExprId) (x : Expr) (K : Environment → Typed → Checked Typed) : Type 0 where
  pub operand : Expr
  pub stand : Stands N a operand
  pub is : (E : Environment) → expression x E ≡ (expression operand E >>= K E)
  pub fits : FitsExpr x → FitsExpr operand

-- of two operands
pub record OfTwo (N : Nodes) (a b : ExprId) (x : Expr) (K : Environment → Typed → Typed → Checked Typed) : Type 0 where
  pub left : Expr
  pub right : Expr
  pub on_left : Stands N a left
  pub on_right : Stands N b right
  pub is : (E : Environment) → expression x E ≡ (expression left E >>= (λ u. expression right E >>= (λ v. K E u v)))
  pub fits : FitsExpr x → FitsExpr left × FitsExpr right

-- of a condition and two arms
pub record OfThree (N : Nodes) (a b c : ExprId) (x : Expr) (K : Typed → Typed → Typed → Checked Typed) : Type 0 where
  pub condition : Expr
  pub left : Expr
  pub right : Expr
  pub on_condition : Stands N a condition
  pub on_left : Stands N b left
  pub on_right : Stands N c right
  pub is : (E : Environment) → expression x E ≡ (expression condition E >>= (λ u. expression left E >>= (λ v. expression right E >>= (λ w. K u v w))))
  pub fits : FitsExpr x → FitsExpr condition × FitsExpr left × FitsExpr right

-- of a type name
pub record OfType (N : Nodes) (d : DeclId) (x : Expr) (K : Environment → CType → Checked Typed) : Type 0 where
  pub name : Decl
  pub stand : StandsDecl N d name
  pub is : (E : Environment) → expression x E ≡ (declared_type name E >>= K E)
  pub fits : FitsExpr x → FitsDecl name

-- of a type name and an operand
pub record OfTypeAndOne (N : Nodes) (d : DeclId) (a : ExprId) (x : Expr) (K : CType → Typed → Checked Typed) : Type 0 where
  pub name : Decl
  pub operand : Expr
  pub on_name : StandsDecl N d name
  pub on_operand : Stands N a operand
  pub is : (E : Environment) → expression x E ≡ (declared_type name E >>= (λ t. expression operand E >>= (λ u. K t u)))
  pub fits : FitsExpr x → FitsDecl name × FitsExpr operand

-- of what is called and arguments
pub record OfCall (N : Nodes) (from : ℕ) (a : ExprId) (is : List ExprId) (x : Expr) : Type 0 where
  pub callee : Expr
  pub arguments : Exprs
  pub on_callee : Stands N a callee
  pub on_arguments : StandExprs N is arguments
  pub is_call : x ≡ Call from callee arguments
  pub fits : FitsExpr x → FitsExpr callee × FitsExprs arguments

-- ---- each of them

pub binary_parts : (N : Nodes) (i : ExprId) (e : ExprNode) (s : Sign) (a b : ExprId) → expr_at N i ≡ Some e → e.kind ≡ exprs.Binary s a b → (x : Expr) → Stands N i x → OfTwo N a b x (λ E. binary_of E e.from s)
binary_parts N i e s a b at k x h =
    let p = binary_only N i e.from s a b x (e, at, refl, k) h in
    record { left = p.0; right = p.1; on_left = p.3; on_right = p.4; is = λ E. ap (λ w. expression w E) p.2; fits = λ f. subst FitsExpr p.2 f }

pub assign_parts : (N : Nodes) (i : ExprId) (e : ExprNode) (s : Sign) (a b : ExprId) → expr_at N i ≡ Some e → e.kind ≡ exprs.Assign s a b → (x : Expr) → Stands N i x → OfTwo N a b x (λ E. assignment_of E e.from s)
assign_parts N i e s a b at k x h =
    let p = assign_only N i e.from s a b x (e, at, refl, k) h in
    record { left = p.0; right = p.1; on_left = p.3; on_right = p.4; is = λ E. ap (λ w. expression w E) p.2; fits = λ f. subst FitsExpr p.2 f }

pub index_parts : (N : Nodes) (i : ExprId) (e : ExprNode) (a b : ExprId) → expr_at N i ≡ Some e → e.kind ≡ exprs.Index a b → (x : Expr) → Stands N i x → OfTwo N a b x (λ E. subscript_of E e.from)
index_parts N i e a b at k x h =
    let p = index_only N i e.from a b x (e, at, refl, k) h in
    record { left = p.0; right = p.1; on_left = p.3; on_right = p.4; is = λ E. ap (λ w. expression w E) p.2; fits = λ f. subst FitsExpr p.2 f }

pub cond_parts : (N : Nodes) (i : ExprId) (e : ExprNode) (a b c : ExprId) → expr_at N i ≡ Some e → e.kind ≡ exprs.Cond a b c → (x : Expr) → Stands N i x → OfThree N a b c x (choice_of e.from)
cond_parts N i e a b c at k x h =
    let p = cond_only N i e.from a b c x (e, at, refl, k) h in
    record { condition = p.0; left = p.1; right = p.2; on_condition = p.4; on_left = p.5; on_right = p.6; is = λ E. ap (λ w. expression w E) p.3; fits = λ f. subst FitsExpr p.3 f }

pub prefix_parts : (N : Nodes) (i : ExprId) (e : ExprNode) (s : Sign) (a : ExprId) → expr_at N i ≡ Some e → e.kind ≡ exprs.Prefix s a → (x : Expr) → Stands N i x → OfOne N a x (λ E. prefixed (extents E) e.from s)
prefix_parts N i e s a at k x h =
    let p = prefix_only N i e.from s a x (e, at, refl, k) h in
    record { operand = p.0; stand = p.2; is = λ E. ap (λ w. expression w E) p.1; fits = λ f. subst FitsExpr p.1 f }

pub postfix_parts : (N : Nodes) (i : ExprId) (e : ExprNode) (s : Sign) (a : ExprId) → expr_at N i ≡ Some e → e.kind ≡ exprs.Postfix s a → (x : Expr) → Stands N i x → OfOne N a x (λ E. postfixed (extents E) e.from s)
postfix_parts N i e s a at k x h =
    let p = postfix_only N i e.from s a x (e, at, refl, k) h in
    record { operand = p.0; stand = p.2; is = λ E. ap (λ w. expression w E) p.1; fits = λ f. subst FitsExpr p.1 f }

pub sizeof_expr_parts : (N : Nodes) (i : ExprId) (e : ExprNode) (a : ExprId) → expr_at N i ≡ Some e → e.kind ≡ exprs.SizeofExpr a → (x : Expr) → Stands N i x → OfOne N a x (λ E u. size_of_operand (extents E) e.from u)
sizeof_expr_parts N i e a at k x h =
    let p = sizeof_expr_only N i e.from a x (e, at, refl, k) h in
    record { operand = p.0; stand = p.2; is = λ E. ap (λ w. expression w E) p.1; fits = λ f. subst FitsExpr p.1 f }

pub member_parts : (N : Nodes) (i : ExprId) (e : ExprNode) (a : ExprId) (n : List ℕ) → expr_at N i ≡ Some e → e.kind ≡ exprs.Member a n → (x : Expr) → Stands N i x → OfOne N a x (λ E u. member E e.from u n)
member_parts N i e a n at k x h =
    let p = member_only N i e.from a n x (e, at, refl, k) h in
    record { operand = p.0; stand = p.2; is = λ E. ap (λ w. expression w E) p.1; fits = λ f. subst FitsExpr p.1 f }

pub arrow_parts : (N : Nodes) (i : ExprId) (e : ExprNode) (a : ExprId) (n : List ℕ) → expr_at N i ≡ Some e → e.kind ≡ exprs.Arrow a n → (x : Expr) → Stands N i x → OfOne N a x (λ E u. arrow_from E e.from u n)
arrow_parts N i e a n at k x h =
    let p = arrow_only N i e.from a n x (e, at, refl, k) h in
    record { operand = p.0; stand = p.2; is = λ E. ap (λ w. expression w E) p.1; fits = λ f. subst FitsExpr p.1 f }

pub sizeof_type_parts : (N : Nodes) (i : ExprId) (e : ExprNode) (d : DeclId) → expr_at N i ≡ Some e → e.kind ≡ exprs.SizeofType d → (x : Expr) → Stands N i x → OfType N d x (λ E. size_constant (extents E) e.from)
sizeof_type_parts N i e d at k x h =
    let p = sizeof_type_only N i e.from d x (e, at, refl, k) h in
    record { name = p.0; stand = p.2; is = λ E. ap (λ w. expression w E) p.1; fits = λ f. subst FitsExpr p.1 f }

pub cast_parts : (N : Nodes) (i : ExprId) (e : ExprNode) (d : DeclId) (a : ExprId) → expr_at N i ≡ Some e → e.kind ≡ exprs.Cast d a → (x : Expr) → Stands N i x → OfTypeAndOne N d a x (cast_of e.from)
cast_parts N i e d a at k x h =
    let p = cast_only N i e.from d a x (e, at, refl, k) h in
    record { name = p.0; operand = p.1; on_name = p.3; on_operand = p.4; is = λ E. ap (λ w. expression w E) p.2; fits = λ f. subst FitsExpr p.2 f }

pub call_parts : (N : Nodes) (i : ExprId) (e : ExprNode) (a : ExprId) (is : List ExprId) → expr_at N i ≡ Some e → e.kind ≡ exprs.Call a is → (x : Expr) → Stands N i x → OfCall N e.from a is x
call_parts N i e a is at k x h =
    let p = call_only N i e.from a is x (e, at, refl, k) h in
    record { callee = p.0; arguments = p.1; on_callee = p.3; on_arguments = p.4; is_call = p.2; fits = λ f. subst FitsExpr p.2 f }

pub name_is : (N : Nodes) (i : ExprId) (e : ExprNode) (n : List ℕ) → expr_at N i ≡ Some e → e.kind ≡ exprs.Name n → (x : Expr) → Stands N i x → x ≡ Name e.from n
name_is N i e n at k x h = name_only N i e.from n x (e, at, refl, k) h

pub number_is : (N : Nodes) (i : ExprId) (e : ExprNode) (v : ℕ) (s : Suffix) (d : Bool) → expr_at N i ≡ Some e → e.kind ≡ exprs.Number v s d → (x : Expr) → Stands N i x → x ≡ Number e.from v s d
number_is N i e v s d at k x h = number_only N i e.from v s d x (e, at, refl, k) h

pub char_is : (N : Nodes) (i : ExprId) (e : ExprNode) (v : ℤ) → expr_at N i ≡ Some e → e.kind ≡ exprs.Char v → (x : Expr) → Stands N i x → x ≡ Char e.from v
char_is N i e v at k x h = char_only N i e.from v x (e, at, refl, k) h

pub text_is : (N : Nodes) (i : ExprId) (e : ExprNode) (n : List ℕ) → expr_at N i ≡ Some e → e.kind ≡ exprs.Text n → (x : Expr) → Stands N i x → x ≡ Text e.from n
text_is N i e n at k x h = text_only N i e.from n x (e, at, refl, k) h

-- ---- where nodes are

expr_node : (N : Nodes) (i : ExprId) (x : Expr) → Stands N i x → (e : ExprNode) × (expr_at N i ≡ Some e)
expr_node N i (Name f n) h = (h.0, h.1)
expr_node N i (Number f v s d) h = (h.0, h.1)
expr_node N i (Char f v) h = (h.0, h.1)
expr_node N i (Text f n) h = (h.0, h.1)
expr_node N i (Binary f s x y) (a, b, h, p, q) = (h.0, h.1)
expr_node N i (Assign f s x y) (a, b, h, p, q) = (h.0, h.1)
expr_node N i (Cond f x y z) (a, b, c, h, p, q, r) = (h.0, h.1)
expr_node N i (Prefix f s x) (a, h, p) = (h.0, h.1)
expr_node N i (Postfix f s x) (a, h, p) = (h.0, h.1)
expr_node N i (SizeofExpr f x) (a, h, p) = (h.0, h.1)
expr_node N i (SizeofType f d) (a, h, p) = (h.0, h.1)
expr_node N i (Cast f d x) (a, b, h, p, q) = (h.0, h.1)
expr_node N i (Index f x y) (a, b, h, p, q) = (h.0, h.1)
expr_node N i (Call f x xs) (a, is, h, p, q) = (h.0, h.1)
expr_node N i (Member f x n) (a, h, p) = (h.0, h.1)
expr_node N i (Arrow f x n) (a, h, p) = (h.0, h.1)

pub expr_inside : (N : Nodes) (i : ExprId) → IsExpr N i → i.0 < length N.exprs
expr_inside N i (x, h, f) = let r = expr_node N i x h in slice_get_within N.exprs i.0 r.0 r.1

decl_node : (N : Nodes) (i : DeclId) (d : Decl) → StandsDecl N i d → (v : DeclNode) × (decl_at N i ≡ Some v)
decl_node N i (Declare f an b ps n r) (v, at, _, _, _, _, _, _) = (v, at)

pub decl_inside : (N : Nodes) (i : DeclId) → IsDecl N i → i.0 < length N.decls
decl_inside N i (d, h, f) = let r = decl_node N i d h in slice_get_within N.decls i.0 r.0 r.1

-- ---- declarations

-- what a declaration's node is made of
pub record OfDecl (N : Nodes) (v : DeclNode) (d : Decl) : Type 0 where
  pub annots : Annots
  pub parts : Parts
  pub on_annots : StandAnnots N v.annots annots
  pub on_parts : StandParts N v.parts parts
  pub declared : (E : Environment) → declared_type d E ≡ whole_type parts E (base_type E v.base)
  pub as_parameter : (E : Environment) → parameter_type d E ≡ (annotation_types annots E >> (declarator_type parts E (base_type E v.base) >>= (λ t. parameter v.from t)))
  pub scope : (E : Environment) (place : ℕ) (t : CType) → parameter_scope d E place t ≡ with_parameter E v.from place v.name t
  pub fits : FitsDecl d → FitsAnnots annots × FitsParts parts

pub decl_parts : (N : Nodes) (i : DeclId) (v : DeclNode) → decl_at N i ≡ Some v → (d : Decl) → StandsDecl N i d → OfDecl N v d
decl_parts N i v at (Declare f an b ps n r) (w, there, e, p, k, q, l, _) =
    let same : w ≡ v = cc in
    let from : f ≡ v.from = sym e ∙ ap (λ u. u.from) same in
    let base : b ≡ v.base = sym k ∙ ap (λ u. u.base) same in
    let name : n ≡ v.name = sym l ∙ ap (λ u. u.name) same in
    record {
      annots = an;
      parts = ps;
      on_annots = subst (λ u. StandAnnots N u.annots an) same p;
      on_parts = subst (λ u. StandParts N u.parts ps) same q;
      declared = λ E. ap (λ u. whole_type ps E (base_type E u)) base;
      as_parameter = λ E. ap (λ u. annotation_types an E >> (declarator_type ps E (base_type E u) >>= (λ t. parameter f t))) base ∙ ap (λ g. annotation_types an E >> (declarator_type ps E (base_type E v.base) >>= (λ t. parameter g t))) from;
      scope = λ E place t. ap (λ g. with_parameter E g place n t) from ∙ ap (λ m. with_parameter E v.from place m t) name;
      fits = λ g. (g.0, g.1);
    }
