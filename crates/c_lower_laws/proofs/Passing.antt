-- Where each call within is of what is known, and has one converted value per parameter, each passes converted arguments.
use Rattle.std.proofs.Common.{ℕ}
use Rattle.c_types_rules.specs.TypedTree.{Object, Value, Values, Callee, GlobalObject, LocalObject, TextObject, Pointed, Element, MemberOf, Constant, FunctionAddress, ReadOf, AddressOf, Convert, Negate, Complement, Arithmetic, PointerSum, PointerDifference, PointerComparison, Not, Both, Either, Choice, Sequence, Assigned, Changed, Moved, Stepped, CallOf, NoValues, MoreValues, SourceFunction, BuiltinFunction, Through, MaybeValue, NoValue, OneValue, Statement, Statements, Block, Evaluate, Initialise, If, IfElse, While, Do, For, Break, Continue, Return, NoStatements, MoreStatements}
use Rattle.c_semantics.specs.Arguments.{Passes, ObjectPasses, ValuePasses, ValuesPass, CalleePasses, MaybePasses, StatementPasses, StatementsPass}
use Rattle.c_semantics.specs.Context.{Source}
use Rattle.c_lower_placement.specs.Code.{Making}
use Rattle.c_lower_placement.specs.Placement.{count}
use Rattle.c_lower_placement.specs.Heights.{ObjectCalls, ValueCalls, ValuesCall, CalleeCalls, MaybeCalls, StatementCalls, StatementsCall}

-- by another source that knows the same functions
module _ (x : Making) (s : Source) (alike : (f : Callee) (vs : Values) → Passes x.against.source f vs → Passes s f vs) where
  mutual
    object_passes : (o : Object) → ObjectCalls o x → ObjectPasses s o
    object_passes (GlobalObject from place t) h = tt
    object_passes (LocalObject place t) h = tt
    object_passes (TextObject from n) h = tt
    object_passes (Pointed v t) h = value_passes v h
    object_passes (Element w p i t) h = (value_passes p h.0, value_passes i h.1)
    object_passes (MemberOf o number t) h = object_passes o h

    value_passes : (v : Value) → ValueCalls v x → ValuePasses s v
    value_passes (Constant k n) h = tt
    value_passes (FunctionAddress from number t) h = tt
    value_passes (ReadOf o) h = object_passes o h
    value_passes (AddressOf o t) h = object_passes o h
    value_passes (Convert t v) h = value_passes v h
    value_passes (Negate k v) h = value_passes v h
    value_passes (Complement k v) h = value_passes v h
    value_passes (Arithmetic op k a b) h = (value_passes a h.0, value_passes b h.1)
    value_passes (PointerSum w p i size) h = (value_passes p h.0, value_passes i h.1)
    value_passes (PointerDifference a b size) h = (value_passes a h.0, value_passes b h.1)
    value_passes (PointerComparison op a b) h = (value_passes a h.0, value_passes b h.1)
    value_passes (Not v) h = value_passes v h
    value_passes (Both a b) h = (value_passes a h.0, value_passes b h.1)
    value_passes (Either a b) h = (value_passes a h.0, value_passes b h.1)
    value_passes (Choice c a b) h = (value_passes c h.0, value_passes a h.1, value_passes b h.2)
    value_passes (Sequence a b) h = (value_passes a h.0, value_passes b h.1)
    value_passes (Assigned o v) h = (object_passes o h.0, value_passes v h.1)
    value_passes (Changed o op k v) h = (object_passes o h.0, value_passes v h.1)
    value_passes (Moved o w i size) h = (object_passes o h.0, value_passes i h.1)
    value_passes (Stepped o w g size) h = object_passes o h
    value_passes (CallOf f vs t) h = (callee_passes f (count vs) h.0, values_pass vs h.1, alike f vs h.2)

    values_pass : (vs : Values) → ValuesCall vs x → ValuesPass s vs
    values_pass NoValues h = tt
    values_pass (MoreValues v vs) h = (value_passes v h.0, values_pass vs h.1)

    callee_passes : (f : Callee) (n : ℕ) → CalleeCalls f x n → CalleePasses s f
    callee_passes (SourceFunction from number) n h = tt
    callee_passes (BuiltinFunction from b) n h = tt
    callee_passes (Through v) n h = value_passes v h.0

  maybe_passes : (v : MaybeValue) → MaybeCalls v x → MaybePasses s v
  maybe_passes NoValue h = tt
  maybe_passes (OneValue v) h = value_passes v h

  mutual
    pub statement_passes : (z : Statement) → StatementCalls z x → StatementPasses s z
    statement_passes (Block zs) h = statements_pass zs h
    statement_passes (Evaluate v) h = value_passes v h
    statement_passes (Initialise place t v) h = value_passes v h
    statement_passes (If v z) h = (value_passes v h.0, statement_passes z h.1)
    statement_passes (IfElse v y z) h = (value_passes v h.0, statement_passes y h.1, statement_passes z h.2)
    statement_passes (While from v z) h = (value_passes v h.0, statement_passes z h.1)
    statement_passes (Do from z v) h = (statement_passes z h.0, value_passes v h.1)
    statement_passes (For from first v last z) h = (statements_pass first h.0, maybe_passes v h.1, maybe_passes last h.2, statement_passes z h.3)
    statement_passes Break h = tt
    statement_passes Continue h = tt
    statement_passes (Return from v) h = maybe_passes v h

    statements_pass : (zs : Statements) → StatementsCall zs x → StatementsPass s zs
    statements_pass NoStatements h = tt
    statements_pass (MoreStatements z zs) h = (statement_passes z h.0, statements_pass zs h.1)
