-- What is made of operands, whose values stand at other numbers.
use Rattle.std.proofs.Common.{◌≡◌, ℕ, Result, Ok, Err, sym, subst}
use Rattle.c_lexer.specs.declared.token.Sign.{Sign}
use Rattle.c_types_model.specs.Types.{CType}
use Rattle.c_types_rules.specs.Checked.{Checked, Fine, Noted, Broken}
use Rattle.c_types_rules.specs.Environment.{Environment, extents}
use Rattle.c_types_rules.specs.Expressions.{a_value}
use Rattle.c_types_rules.specs.Operators.{assigned, assignment, cast, choice}
use Rattle.c_types_rules.specs.TypedTree.{Typed, Value}
use Rattle.c_types_nodes.specs.declared.ids.NodeId.{NodeId}
use Rattle.c_types_nodes.specs.Tables.{Table}
use Rattle.c_types_operators.specs.declared.error.TypeError.{TypeError}
use Rattle.c_types_operators.specs.declared.error.TypeError.TheVariants.{Rule, Memory}
use Rattle.c_types_operators.specs.Answers.{Agrees, IsAt, StandsAt}

pub agrees_as : {A B : Type 0} (is : A → B → Type 0) (c d : Checked A) (r : Result B TypeError) → c ≡ d → Agrees is d r → Agrees is c r
agrees_as is c d r e h = subst (λ x. Agrees is x r) (sym e) h

-- what is a value stands at the number
pub value_agrees : (t : Table) (c : Checked Value) (r : Result NodeId TypeError) → Agrees (IsAt t) c r → Agrees (StandsAt t) (a_value c) r
value_agrees t c (Err Memory) h = tt
value_agrees t (Fine v) (Ok id) h = h
value_agrees t (Noted n v) (Ok id) h = absurd h
value_agrees t (Broken from rule) (Ok id) h = absurd h
value_agrees t (Broken from rule) (Err (Rule p q)) h = h
value_agrees t (Fine v) (Err (Rule p q)) h = absurd h
value_agrees t (Noted n v) (Err (Rule p q)) h = absurd h

pub assignment_made : (t : Table) (E F : Environment) (from : ℕ) (s : Sign) (a b : Typed) (v w : Value) (r : Result NodeId TypeError) → E ≡ F → a ≡ b → v ≡ w →
    Agrees (IsAt t) (assignment (extents E) from s a v) r → Agrees (StandsAt t) (a_value (assignment (extents F) from s b w)) r
assignment_made t E F from s a b v w r e f g h =
    let same : assignment (extents F) from s b w ≡ assignment (extents E) from s a v = cc in
    value_agrees t _ r (agrees_as (IsAt t) _ _ r same h)

pub cast_made : (t : Table) (from : ℕ) (c d : CType) (v w : Value) (r : Result NodeId TypeError) → c ≡ d → v ≡ w →
    Agrees (IsAt t) (cast from c v) r → Agrees (StandsAt t) (a_value (cast from d w)) r
cast_made t from c d v w r e f h =
    let same : cast from d w ≡ cast from c v = cc in
    value_agrees t _ r (agrees_as (IsAt t) _ _ r same h)

pub converted_made : (t : Table) (from : ℕ) (c d : CType) (v w : Value) (r : Result NodeId TypeError) → c ≡ d → v ≡ w →
    Agrees (IsAt t) (assigned from c v) r → Agrees (IsAt t) (assigned from d w) r
converted_made t from c d v w r e f h =
    let same : assigned from d w ≡ assigned from c v = cc in
    agrees_as (IsAt t) _ _ r same h

pub choice_made : (t : Table) (from : ℕ) (u v w x y z : Value) (r : Result NodeId TypeError) → u ≡ x → v ≡ y → w ≡ z →
    Agrees (IsAt t) (choice from u v w) r → Agrees (StandsAt t) (a_value (choice from x y z)) r
choice_made t from u v w x y z r e f g h =
    let same : choice from x y z ≡ choice from u v w = cc in
    value_agrees t _ r (agrees_as (IsAt t) _ _ r same h)
