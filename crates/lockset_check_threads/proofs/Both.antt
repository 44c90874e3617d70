-- Where each call is of one sort and of another, it is of both.
use Rattle.std.proofs.Common.{Bool, true}
use Rattle.c_types_rules.specs.TypedTree.{Object, Value, Values, Callee, GlobalObject, LocalObject, TextObject, Pointed, Element, MemberOf, Constant, FunctionAddress, ReadOf, AddressOf, Convert, Negate, Complement, Arithmetic, PointerSum, PointerDifference, PointerComparison, Not, Both, Either, Choice, Sequence, Assigned, Changed, Moved, Stepped, CallOf, NoValues, MoreValues, SourceFunction, BuiltinFunction, Through, MaybeValue, NoValue, OneValue, Statement, Statements, Block, Evaluate, Initialise, If, IfElse, While, Do, For, Break, Continue, Return, NoStatements, MoreStatements}
use Rattle.lockset_check_threads.specs.Typed.{InCallee, InMaybe, InObject, InStatement, InStatements, InValue, InValues}

module _ (P Q : Callee → Values → Type 0) where
  abbrev Two : Callee → Values → Type 0
  Two f vs = P f vs × Q f vs

  mutual
    in_object : (o : Object) → InObject P o → InObject Q o → InObject Two o
    in_object (GlobalObject from place t) h k = tt
    in_object (LocalObject place t) h k = tt
    in_object (TextObject from n) h k = tt
    in_object (Pointed v t) h k = in_value v h k
    in_object (Element w p i t) h k = (in_value p h.0 k.0, in_value i h.1 k.1)
    in_object (MemberOf o number t) h k = in_object o h k

    in_value : (v : Value) → InValue P v → InValue Q v → InValue Two v
    in_value (Constant i n) h k = tt
    in_value (FunctionAddress from number t) h k = tt
    in_value (ReadOf o) h k = in_object o h k
    in_value (AddressOf o t) h k = in_object o h k
    in_value (Convert t v) h k = in_value v h k
    in_value (Negate i v) h k = in_value v h k
    in_value (Complement i v) h k = in_value v h k
    in_value (Arithmetic op i a b) h k = (in_value a h.0 k.0, in_value b h.1 k.1)
    in_value (PointerSum w p i size) h k = (in_value p h.0 k.0, in_value i h.1 k.1)
    in_value (PointerDifference a b size) h k = (in_value a h.0 k.0, in_value b h.1 k.1)
    in_value (PointerComparison op a b) h k = (in_value a h.0 k.0, in_value b h.1 k.1)
    in_value (Not v) h k = in_value v h k
    in_value (Both a b) h k = (in_value a h.0 k.0, in_value b h.1 k.1)
    in_value (Either a b) h k = (in_value a h.0 k.0, in_value b h.1 k.1)
    in_value (Choice c a b) h k = (in_value c h.0 k.0, in_value a h.1 k.1, in_value b h.2 k.2)
    in_value (Sequence a b) h k = (in_value a h.0 k.0, in_value b h.1 k.1)
    in_value (Assigned o v) h k = (in_object o h.0 k.0, in_value v h.1 k.1)
    in_value (Changed o op i v) h k = (in_object o h.0 k.0, in_value v h.1 k.1)
    in_value (Moved o w i size) h k = (in_object o h.0 k.0, in_value i h.1 k.1)
    in_value (Stepped o w g size) h k = in_object o h k
    in_value (CallOf f vs t) h k = (in_callee f h.0 k.0, in_values vs h.1 k.1, (h.2, k.2))

    in_values : (vs : Values) → InValues P vs → InValues Q vs → InValues Two vs
    in_values NoValues h k = tt
    in_values (MoreValues v vs) h k = (in_value v h.0 k.0, in_values vs h.1 k.1)

    in_callee : (f : Callee) → InCallee P f → InCallee Q f → InCallee Two f
    in_callee (SourceFunction from number) h k = tt
    in_callee (BuiltinFunction from b) h k = tt
    in_callee (Through v) h k = in_value v h k

  in_maybe : (v : MaybeValue) → InMaybe P v → InMaybe Q v → InMaybe Two v
  in_maybe NoValue h k = tt
  in_maybe (OneValue v) h k = in_value v h k

  -- the first says what stands in loops
  mutual
    pub in_statement : (z : Statement) (l : Bool) → InStatement P l z → InStatement Q true z → InStatement Two l z
    in_statement (Block zs) l h k = in_statements zs l h k
    in_statement (Evaluate v) l h k = in_value v h k
    in_statement (Initialise place t v) l h k = in_value v h k
    in_statement (If v z) l h k = (in_value v h.0 k.0, in_statement z l h.1 k.1)
    in_statement (IfElse v y z) l h k = (in_value v h.0 k.0, in_statement y l h.1 k.1, in_statement z l h.2 k.2)
    in_statement (While from v z) l h k = (in_value v h.0 k.0, in_statement z true h.1 k.1)
    in_statement (Do from z v) l h k = (in_statement z true h.0 k.0, in_value v h.1 k.1)
    in_statement (For from first v last z) l h k = (in_statements first l h.0 k.0, in_maybe v h.1 k.1, in_maybe last h.2 k.2, in_statement z true h.3 k.3)
    in_statement Break l h k = h
    in_statement Continue l h k = h
    in_statement (Return from v) l h k = in_maybe v h k

    in_statements : (zs : Statements) (l : Bool) → InStatements P l zs → InStatements Q true zs → InStatements Two l zs
    in_statements NoStatements l h k = tt
    in_statements (MoreStatements z zs) l h k = (in_statement z l h.0 k.0, in_statements zs l h.1 k.1)
