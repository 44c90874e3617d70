-- What the answers on the parts of an expression say of it.
use Rattle.std.proofs.Common.{◌≡◌, ◌<◌, ℕ, Bool, List, length, Result, Ok, Err, sym, ap, ◌∙◌, subst}
use Rattle.c_syntax.specs.declared.id.DeclId.{DeclId}
use Rattle.c_syntax.specs.declared.id.ExprId.{ExprId}
use Rattle.c_syntax.specs.Nodes.{Nodes}
use Rattle.c_syntax.specs.Syntax.{Call, Decl, Expr, Exprs}
use Rattle.c_syntax.specs.Stands.{Stands, StandExprs, StandsDecl}
use Rattle.c_types_model.specs.Types.{CType}
use Rattle.c_types_table.specs.declared.ids.TypeId.{TypeId}
use Rattle.c_types_table.specs.Tables.{type_at}
use Rattle.c_types_rules.specs.Checked.{Checked, ◌>>=◌, Notes}
use Rattle.c_types_rules.specs.Environment.{Environment}
use Rattle.c_types_rules.specs.Expressions.{declared_type, expression}
use Rattle.c_types_rules.specs.TypedTree.{Typed}
use Rattle.c_types_nodes.specs.declared.ids.NodeId.{NodeId}
use Rattle.c_types_nodes.specs.Tables.{Table, IsNode, node_at}
use Rattle.c_types_operators.specs.declared.error.TypeError.{TypeError}
use Rattle.c_types_operators.specs.Answers.{Agrees, StandsAt}
use Rattle.c_types_environment.specs.States.{notes_of, State}
use Rattle.c_types_expressions.specs.Found.{Found, Finds, Stays, AreBoth, IsType}
use Rattle.c_types_expressions.specs.Pieces.{operands}
use Rattle.c_types_expressions.proofs.Sequences.{passed, noted_nothing, stopped_in, there}
use Rattle.c_types_expressions.proofs.Kept.{is_node}
use Rattle.c_types_expressions.proofs.Constructs.{OfOne, OfTwo, OfThree, OfType, OfTypeAndOne, OfCall}
use Rattle.c_types_expressions.proofs.Arms.{one_goes_on, one_is_noted, two_go_on, two_stop, three_go_on, third_stops, type_goes_on, type_and_one_go_on, second_stops}

-- ---- what is found is in the table

pub node_found : (f g : Notes) (t : Table) (c : Checked Typed) (id : NodeId) → Found f g (StandsAt t) c (Ok id) → IsNode t id
node_found f g t c id h = let p = there f g (StandsAt t) c id h in is_node t id p.0 p.1

pub left_found : (f g : Notes) (t : Table) (c : Checked (Typed × Typed)) (a b : NodeId) → Found f g (AreBoth t) c (Ok (a, b)) → IsNode t a
left_found f g t c a b h = let p = there f g (AreBoth t) c (a, b) h in is_node t a p.0.0 p.1.0

pub right_found : (f g : Notes) (t : Table) (c : Checked (Typed × Typed)) (a b : NodeId) → Found f g (AreBoth t) c (Ok (a, b)) → IsNode t b
right_found f g t c a b h = let p = there f g (AreBoth t) c (a, b) h in is_node t b p.0.1 p.1.1

pub type_found : (f g : Notes) (t : Table) (c : Checked CType) (id : TypeId) → Found f g (IsType t) c (Ok id) → id.0 < length t.types
type_found f g t c id h = let p = there f g (IsType t) c id h in p.1.inside

-- an error is handed on
pub failed : {A B : Type 0} (f g : Notes) (is : A → B → Type 0) (c : Checked A) (r : Result B TypeError) (e : TypeError) → r ≡ Err e → Found f g is c (Err e) → Found f g is c r
failed f g is c r e same h = subst (Found f g is c) (sym same) h

-- ---- an expression of one

pub same_answer : (x y : Expr) (old new : State) (c : Checked Typed) (r : Result NodeId TypeError) → x ≡ y → expression y old.env ≡ c → Agrees (StandsAt new.table) c r → (notes_of new) ≡ (notes_of old) → Finds old new (StandsAt new.table) (expression x old.env) r
same_answer x y old new c r same is h l = passed (notes_of old) (notes_of new) (StandsAt new.table) _ _ r (ap (λ w. expression w old.env) same ∙ is) (noted_nothing (notes_of old) (notes_of new) (StandsAt new.table) c r l h)

module _ {N : Nodes} {x : Expr} (old mid new : State) where
  module _ {a : ExprId} {K : Environment → Typed → Checked Typed} (p : OfOne N a x K) where
    pub one_done : (o : NodeId) (r : Result NodeId TypeError) → ((y : Expr) → Stands N a y → Finds old mid (StandsAt mid.table) (expression y old.env) (Ok o)) → mid.env ≡ old.env →
        Agrees (StandsAt new.table) (K mid.env (node_at mid.table o)) r → (notes_of new) ≡ (notes_of mid) → Finds old new (StandsAt new.table) (expression x old.env) r
    one_done o r h e q l =
        passed (notes_of old) (notes_of new) (StandsAt new.table) _ _ r (p.is old.env) (one_goes_on StandsAt K old mid new (expression p.operand old.env) o r (h p.operand p.stand) e q l)

    pub one_noted : (o : NodeId) (r : Result NodeId TypeError) → ((y : Expr) → Stands N a y → Finds old mid (StandsAt mid.table) (expression y old.env) (Ok o)) → mid.env ≡ old.env →
        Finds mid new (StandsAt new.table) (K mid.env (node_at mid.table o)) r → Finds old new (StandsAt new.table) (expression x old.env) r
    one_noted o r h e q =
        passed (notes_of old) (notes_of new) (StandsAt new.table) _ _ r (p.is old.env) (one_is_noted StandsAt K old mid new (expression p.operand old.env) o r (h p.operand p.stand) e q)

    pub one_fails : (r : Result NodeId TypeError) (e : TypeError) → r ≡ Err e → ((y : Expr) → Stands N a y → Finds old new (StandsAt new.table) (expression y old.env) (Err e)) → Finds old new (StandsAt new.table) (expression x old.env) r
    one_fails r e same h =
        failed (notes_of old) (notes_of new) (StandsAt new.table) (expression x old.env) r e same
        (passed (notes_of old) (notes_of new) (StandsAt new.table) _ _ (Err e) (p.is old.env)
        (stopped_in (notes_of old) (notes_of new) (notes_of new) (StandsAt new.table) (StandsAt new.table) (expression p.operand old.env) (K old.env) e (h p.operand p.stand)))

  module _ {a b : ExprId} {K : Environment → Typed → Typed → Checked Typed} (p : OfTwo N a b x K) where
    pub two_done : (u v : NodeId) (r : Result NodeId TypeError) → ((y z : Expr) → Stands N a y → Stands N b z → Finds old mid (AreBoth mid.table) (operands y z old.env) (Ok (u, v))) → mid.env ≡ old.env →
        Agrees (StandsAt new.table) (K mid.env (node_at mid.table u) (node_at mid.table v)) r → (notes_of new) ≡ (notes_of mid) → Finds old new (StandsAt new.table) (expression x old.env) r
    two_done u v r h e q l =
        passed (notes_of old) (notes_of new) (StandsAt new.table) _ _ r (p.is old.env)
        (two_go_on StandsAt K old mid new (expression p.left old.env) (expression p.right old.env) u v r (h p.left p.right p.on_left p.on_right) e q l)

    pub two_fail : (r : Result NodeId TypeError) (e : TypeError) → r ≡ Err e → ((y z : Expr) → Stands N a y → Stands N b z → Finds old new (AreBoth new.table) (operands y z old.env) (Err e)) → Finds old new (StandsAt new.table) (expression x old.env) r
    two_fail r e same h =
        failed (notes_of old) (notes_of new) (StandsAt new.table) (expression x old.env) r e same
        (passed (notes_of old) (notes_of new) (StandsAt new.table) _ _ (Err e) (p.is old.env)
        (two_stop StandsAt (K old.env) (notes_of old) (notes_of new) (notes_of new) new.table new.table (expression p.left old.env) (expression p.right old.env) e (h p.left p.right p.on_left p.on_right)))

  module _ {a b c : ExprId} {K : Typed → Typed → Typed → Checked Typed} (p : OfThree N a b c x K) where
    pub arms_fail : (r : Result NodeId TypeError) (e : TypeError) → r ≡ Err e → ((y z : Expr) → Stands N a y → Stands N b z → Finds old new (AreBoth new.table) (operands y z old.env) (Err e)) → Finds old new (StandsAt new.table) (expression x old.env) r
    arms_fail r e same h =
        failed (notes_of old) (notes_of new) (StandsAt new.table) (expression x old.env) r e same
        (passed (notes_of old) (notes_of new) (StandsAt new.table) _ _ (Err e) (p.is old.env)
        (two_stop StandsAt (λ u v. expression p.right old.env >>= (λ w. K u v w)) (notes_of old) (notes_of new) (notes_of new) new.table new.table (expression p.condition old.env) (expression p.left old.env) e (h p.condition p.left p.on_condition p.on_left)))

    pub last_arm_fails : (u v : NodeId) (r : Result NodeId TypeError) (e : TypeError) → r ≡ Err e → ((y z : Expr) → Stands N a y → Stands N b z → Finds old mid (AreBoth mid.table) (operands y z old.env) (Ok (u, v))) → Stays old mid →
        ((y : Expr) → Stands N c y → Finds mid new (StandsAt new.table) (expression y mid.env) (Err e)) → Finds old new (StandsAt new.table) (expression x old.env) r
    last_arm_fails u v r e same h s q =
        failed (notes_of old) (notes_of new) (StandsAt new.table) (expression x old.env) r e same
        (passed (notes_of old) (notes_of new) (StandsAt new.table) _ _ (Err e) (p.is old.env)
        (third_stops StandsAt K old mid new (expression p.condition old.env) (expression p.left old.env) (expression p.right) u v e (h p.condition p.left p.on_condition p.on_left) s (q p.right p.on_right)))

    pub three_done : (end : State) (u v w : NodeId) (r : Result NodeId TypeError) → ((y z : Expr) → Stands N a y → Stands N b z → Finds old mid (AreBoth mid.table) (operands y z old.env) (Ok (u, v))) → Stays old mid →
        ((y : Expr) → Stands N c y → Finds mid new (StandsAt new.table) (expression y mid.env) (Ok w)) → Stays mid new → Agrees (StandsAt end.table) (K (node_at new.table u) (node_at new.table v) (node_at new.table w)) r →
        (notes_of end) ≡ (notes_of new) → Finds old end (StandsAt end.table) (expression x old.env) r
    three_done end u v w r h s q k g l =
        passed (notes_of old) (notes_of end) (StandsAt end.table) _ _ r (p.is old.env)
        (three_go_on StandsAt K old mid new end (expression p.condition old.env) (expression p.left old.env) (expression p.right) u v w r (h p.condition p.left p.on_condition p.on_left) s (q p.right p.on_right) k g l)

  module _ {d : DeclId} {K : Environment → CType → Checked Typed} (p : OfType N d x K) where
    pub type_done : (o : TypeId) (r : Result NodeId TypeError) → ((y : Decl) → StandsDecl N d y → Finds old mid (IsType mid.table) (declared_type y old.env) (Ok o)) → mid.env ≡ old.env →
        Agrees (StandsAt new.table) (K mid.env (type_at mid.table.types o)) r → (notes_of new) ≡ (notes_of mid) → Finds old new (StandsAt new.table) (expression x old.env) r
    type_done o r h e q l = passed (notes_of old) (notes_of new) (StandsAt new.table) _ _ r (p.is old.env) (type_goes_on StandsAt K old mid new (declared_type p.name old.env) o r (h p.name p.stand) e q l)

    pub type_fails : (r : Result NodeId TypeError) (e : TypeError) → r ≡ Err e → ((y : Decl) → StandsDecl N d y → Finds old new (IsType new.table) (declared_type y old.env) (Err e)) → Finds old new (StandsAt new.table) (expression x old.env) r
    type_fails r e same h =
        failed (notes_of old) (notes_of new) (StandsAt new.table) (expression x old.env) r e same
        (passed (notes_of old) (notes_of new) (StandsAt new.table) _ _ (Err e) (p.is old.env)
        (stopped_in (notes_of old) (notes_of new) (notes_of new) (IsType new.table) (StandsAt new.table) (declared_type p.name old.env) (K old.env) e (h p.name p.stand)))

  module _ {d : DeclId} {a : ExprId} {K : CType → Typed → Checked Typed} (p : OfTypeAndOne N d a x K) where
    pub target_fails : (r : Result NodeId TypeError) (e : TypeError) → r ≡ Err e → ((y : Decl) → StandsDecl N d y → Finds old new (IsType new.table) (declared_type y old.env) (Err e)) → Finds old new (StandsAt new.table) (expression x old.env) r
    target_fails r e same h =
        failed (notes_of old) (notes_of new) (StandsAt new.table) (expression x old.env) r e same
        (passed (notes_of old) (notes_of new) (StandsAt new.table) _ _ (Err e) (p.is old.env)
        (stopped_in (notes_of old) (notes_of new) (notes_of new) (IsType new.table) (StandsAt new.table) (declared_type p.name old.env) (λ t. expression p.operand old.env >>= (λ u. K t u)) e (h p.name p.on_name)))

    pub cast_operand_fails : (o : TypeId) (r : Result NodeId TypeError) (e : TypeError) → r ≡ Err e → ((y : Decl) → StandsDecl N d y → Finds old mid (IsType mid.table) (declared_type y old.env) (Ok o)) → Stays old mid →
        ((y : Expr) → Stands N a y → Finds mid new (StandsAt new.table) (expression y mid.env) (Err e)) → Finds old new (StandsAt new.table) (expression x old.env) r
    cast_operand_fails o r e same h s q =
        failed (notes_of old) (notes_of new) (StandsAt new.table) (expression x old.env) r e same
        (passed (notes_of old) (notes_of new) (StandsAt new.table) _ _ (Err e) (p.is old.env)
        (second_stops StandsAt IsType K old mid new (declared_type p.name old.env) (expression p.operand) o e (h p.name p.on_name) s (q p.operand p.on_operand)))

    pub cast_done : (end : State) (o : TypeId) (u : NodeId) (r : Result NodeId TypeError) → ((y : Decl) → StandsDecl N d y → Finds old mid (IsType mid.table) (declared_type y old.env) (Ok o)) → Stays old mid →
        ((y : Expr) → Stands N a y → Finds mid new (StandsAt new.table) (expression y mid.env) (Ok u)) → Stays mid new → Agrees (StandsAt end.table) (K (type_at new.table.types o) (node_at new.table u)) r →
        (notes_of end) ≡ (notes_of new) → Finds old end (StandsAt end.table) (expression x old.env) r
    cast_done end o u r h s q k g l =
        passed (notes_of old) (notes_of end) (StandsAt end.table) _ _ r (p.is old.env)
        (type_and_one_go_on StandsAt K old mid new end (declared_type p.name old.env) (expression p.operand) o u r (h p.name p.on_name) s (q p.operand p.on_operand) k g l)

-- a call
pub call_done : {N : Nodes} {from : ℕ} {a : ExprId} {is : List ExprId} {x : Expr} (old new : State) (p : OfCall N from a is x) (r : Result NodeId TypeError) →
    ((y : Expr) (ys : Exprs) → Stands N a y → StandExprs N is ys → Finds old new (StandsAt new.table) (expression (Call from y ys) old.env) r) → Finds old new (StandsAt new.table) (expression x old.env) r
call_done old new p r h = passed (notes_of old) (notes_of new) (StandsAt new.table) _ _ r (ap (λ w. expression w old.env) p.is_call) (h p.callee p.arguments p.on_callee p.on_arguments)
