-- The mutexes that are held after a value or a statement, in the order of evaluation.
use Rattle.std.specs.Prelude.{ℤ, Option, Some, None}
use Rattle.c_builtins.specs.declared.builtin.Builtin.{Builtin}
use Rattle.c_builtins.specs.declared.builtin.Builtin.TheVariants.{Malloc, Free, Spawn, Join, Lock, Unlock, Print}
use Rattle.c_types_rules.specs.Constants.{integer_constant}
use Rattle.c_types_rules.specs.TypedTree.{Object, Value, Values, Callee, PointerPlus, PlusPointer, PointerMinus, GlobalObject, LocalObject, TextObject, Pointed, Element, MemberOf, Constant, FunctionAddress, ReadOf, AddressOf, Convert, Negate, Complement, Arithmetic, PointerSum, PointerDifference, PointerComparison, Not, Both, Either, Choice, Sequence, Assigned, Changed, Moved, Stepped, CallOf, NoValues, MoreValues, SourceFunction, BuiltinFunction, Through, MaybeValue, NoValue, OneValue, Statement, Statements, Block, Evaluate, Initialise, If, IfElse, While, Do, For, Break, Continue, Return, NoStatements, MoreStatements}
use Rattle.lockset_check_rules.specs.Mutexes.{Locks, shared, with_lock, without_lock}

-- the mutex that an argument names, which is a value of int by then; None where it is no constant
abbrev pub mutex_of : Values → Option ℤ
mutex_of NoValues = None
mutex_of (MoreValues v vs) = integer_constant v

abbrev locked : Option ℤ → Locks → Locks
locked (Some k) s = with_lock k s
locked None s = s

abbrev unlocked : Option ℤ → Locks → Locks
unlocked (Some k) s = without_lock k s
unlocked None s = s

-- after a call of a builtin with these arguments
abbrev pub builtin_after : Builtin → Values → Locks → Locks
builtin_after Malloc vs s = s
builtin_after Free vs s = s
builtin_after Spawn vs s = s
builtin_after Join vs s = s
builtin_after Lock vs s = locked (mutex_of vs) s
builtin_after Unlock vs s = unlocked (mutex_of vs) s
builtin_after Print vs s = s

-- after a call, once its arguments are evaluated; a function gives back what it was lent
abbrev pub call_after : Callee → Values → Locks → Locks
call_after (SourceFunction from number) vs s = s
call_after (BuiltinFunction from b) vs s = builtin_after b vs s
call_after (Through v) vs s = s

abbrev mutual
  pub object_after : Object → Locks → Locks
  object_after (GlobalObject from place t) s = s
  object_after (LocalObject place t) s = s
  object_after (TextObject from length) s = s
  object_after (Pointed v t) s = value_after v s
  object_after (Element PointerPlus p i t) s = value_after i (value_after p s)
  object_after (Element PlusPointer p i t) s = value_after p (value_after i s)
  object_after (Element PointerMinus p i t) s = value_after i (value_after p s)
  object_after (MemberOf o number t) s = object_after o s

  pub value_after : Value → Locks → Locks
  value_after (Constant k n) s = s
  value_after (FunctionAddress from number t) s = s
  value_after (ReadOf o) s = object_after o s
  value_after (AddressOf o t) s = object_after o s
  value_after (Convert t v) s = value_after v s
  value_after (Negate k v) s = value_after v s
  value_after (Complement k v) s = value_after v s
  value_after (Arithmetic op k a b) s = value_after b (value_after a s)
  value_after (PointerSum PointerPlus p i size) s = value_after i (value_after p s)
  value_after (PointerSum PlusPointer p i size) s = value_after p (value_after i s)
  value_after (PointerSum PointerMinus p i size) s = value_after i (value_after p s)
  value_after (PointerDifference a b size) s = value_after b (value_after a s)
  value_after (PointerComparison op a b) s = value_after b (value_after a s)
  value_after (Not v) s = value_after v s
  value_after (Both a b) s = let t = value_after a s in shared t (value_after b t)
  value_after (Either a b) s = let t = value_after a s in shared t (value_after b t)
  value_after (Choice c a b) s = let t = value_after c s in shared (value_after a t) (value_after b t)
  value_after (Sequence a b) s = value_after b (value_after a s)
  value_after (Assigned o v) s = value_after v (object_after o s)
  value_after (Changed o op k v) s = value_after v (object_after o s)
  value_after (Moved o w i size) s = value_after i (object_after o s)
  value_after (Stepped o w g size) s = object_after o s
  value_after (CallOf f vs t) s = call_after f vs (values_after vs (callee_after f s))

  pub values_after : Values → Locks → Locks
  values_after NoValues s = s
  values_after (MoreValues v vs) s = values_after vs (value_after v s)

  -- after what is called, before its arguments
  pub callee_after : Callee → Locks → Locks
  callee_after (SourceFunction from number) s = s
  callee_after (BuiltinFunction from b) s = s
  callee_after (Through v) s = value_after v s

abbrev pub maybe_after : MaybeValue → Locks → Locks
maybe_after NoValue s = s
maybe_after (OneValue v) s = value_after v s

-- what two ways share that go on; where one goes on, what is held there
abbrev pub joined : Option Locks → Option Locks → Option Locks
joined (Some s) (Some t) = Some (shared s t)
joined (Some s) None = Some s
joined None (Some t) = Some t
joined None None = None

abbrev mutual
  -- None where the statement doesn't go on; a loop always goes on, with what is held at its start
  pub statement_after : Statement → Locks → Option Locks
  statement_after (Block ss) s = statements_after ss s
  statement_after (Evaluate v) s = Some (value_after v s)
  statement_after (Initialise place t v) s = Some (value_after v s)
  statement_after (If v a) s = let t = value_after v s in joined (Some t) (statement_after a t)
  statement_after (IfElse v a b) s =
      let t = value_after v s in joined (statement_after a t) (statement_after b t)
  statement_after (While from v a) s = Some s
  statement_after (Do from a v) s = Some s
  statement_after (For from first v last a) s = statements_after first s
  statement_after Break s = None
  statement_after Continue s = None
  statement_after (Return from v) s = None

  -- a block goes on where each of its own statements does
  pub statements_after : Statements → Locks → Option Locks
  statements_after NoStatements s = Some s
  statements_after (MoreStatements a rest) s = elim (statement_after a s) [
    | Some t ↦ statements_after rest t
    | None ↦ None
  ]
