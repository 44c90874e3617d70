-- What expressions and statements mention. A global is written by its name where a path of subscripts and
-- members that begins with it is assigned to, changed, or under `&`, and where the name of an array stands
-- alone, neither subscripted nor below sizeof.
use Rattle.std.specs.Prelude.{ℕ, Bool, true, false, if◌then◌else◌, List, [], ◌∷◌, ◌++◌, Option, Some, None}
use Rattle.c_types_model.specs.Types.{CType}
use Rattle.c_builtins.specs.Table.{number_of}
use Rattle.c_types_rules.specs.TypedTree.{Object, Value, Values, Callee, Typed, AnObject, AFunction, AValue, GlobalObject, LocalObject, TextObject, Pointed, Element, MemberOf, Constant, FunctionAddress, ReadOf, AddressOf, Convert, Negate, Complement, Arithmetic, PointerSum, PointerDifference, PointerComparison, Not, Both, Either, Choice, Sequence, Assigned, Changed, Moved, Stepped, CallOf, NoValues, MoreValues, SourceFunction, BuiltinFunction, Through, MaybeValue, NoValue, OneValue, Statement, Statements, Block, Evaluate, Initialise, If, IfElse, While, Do, For, Break, Continue, Return, NoStatements, MoreStatements, object_type}
use Rattle.c_semantics.specs.Values.{decayed, origin}
use Rattle.cut_graph_rules.specs.declared.mention.Mention.{Mention}
use Rattle.cut_graph_rules.specs.declared.mention.Mention.TheVariants.{Function, Global, Written}

-- ---- writes

abbrev pub written_at : Option ℕ → List Mention
written_at (Some place) = Written place ∷ []
written_at None = []

-- of what is assigned to, changed, or under `&`, the global that the path begins with
abbrev pub root_written : Object → List Mention
root_written o = written_at (origin o)

-- the global that a name alone designates
abbrev pub named_global : Object → Option ℕ
named_global (GlobalObject from place t) = Some place
named_global (LocalObject place t) = None
named_global (TextObject from n) = None
named_global (Pointed v t) = None
named_global (Element s p i t) = None
named_global (MemberOf o number t) = None

-- the global that is written where the address of an object is taken as a pointer of this type: under `&` that
-- at the root of the path; where an array is converted to the address of its first element, that whose name it
-- is, if such a name counts there
abbrev pub written_under : (counts : Bool) → Object → CType → Option ℕ
written_under counts o t =
    if decayed (object_type o) t then (if counts then named_global o else None) else origin o

-- ---- expressions; `counts` says whether the name of an array that stands alone counts as written, which it
-- does below no sizeof. Of the value itself `here` says it: what is subscripted doesn't stand alone

abbrev mutual
  pub object_mentions : (counts : Bool) → Object → List Mention
  object_mentions counts (GlobalObject from place t) = Global place ∷ []
  object_mentions counts (LocalObject place t) = []
  object_mentions counts (TextObject from n) = []
  object_mentions counts (Pointed v t) = value_mentions counts counts v
  object_mentions counts (Element s p i t) =
      value_mentions false counts p ++ value_mentions counts counts i
  object_mentions counts (MemberOf o number t) = object_mentions counts o

  pub value_mentions : (here counts : Bool) → Value → List Mention
  value_mentions here counts (Constant k n) = []
  value_mentions here counts (FunctionAddress from number t) = Function number ∷ []
  value_mentions here counts (ReadOf o) = object_mentions counts o
  value_mentions here counts (AddressOf o t) = written_at (written_under here o t) ++ object_mentions counts o
  value_mentions here counts (Convert t v) = value_mentions counts counts v
  value_mentions here counts (Negate k v) = value_mentions counts counts v
  value_mentions here counts (Complement k v) = value_mentions counts counts v
  value_mentions here counts (Arithmetic op k a b) =
      value_mentions counts counts a ++ value_mentions counts counts b
  value_mentions here counts (PointerSum s p i size) =
      value_mentions counts counts p ++ value_mentions counts counts i
  value_mentions here counts (PointerDifference a b size) =
      value_mentions counts counts a ++ value_mentions counts counts b
  value_mentions here counts (PointerComparison op a b) =
      value_mentions counts counts a ++ value_mentions counts counts b
  value_mentions here counts (Not v) = value_mentions counts counts v
  value_mentions here counts (Both a b) =
      value_mentions counts counts a ++ value_mentions counts counts b
  value_mentions here counts (Either a b) =
      value_mentions counts counts a ++ value_mentions counts counts b
  value_mentions here counts (Choice c a b) = value_mentions counts counts c ++
      (value_mentions counts counts a ++ value_mentions counts counts b)
  value_mentions here counts (Sequence a b) =
      value_mentions counts counts a ++ value_mentions counts counts b
  value_mentions here counts (Assigned o v) =
      (root_written o ++ object_mentions counts o) ++ value_mentions counts counts v
  value_mentions here counts (Changed o op k v) =
      (root_written o ++ object_mentions counts o) ++ value_mentions counts counts v
  value_mentions here counts (Moved o w i size) =
      (root_written o ++ object_mentions counts o) ++ value_mentions counts counts i
  value_mentions here counts (Stepped o w g size) = root_written o ++ object_mentions counts o
  value_mentions here counts (CallOf f vs t) = callee_mentions counts f ++ values_mentions counts vs

  pub values_mentions : (counts : Bool) → Values → List Mention
  values_mentions counts NoValues = []
  values_mentions counts (MoreValues v vs) = value_mentions counts counts v ++ values_mentions counts vs

  pub callee_mentions : (counts : Bool) → Callee → List Mention
  callee_mentions counts (SourceFunction from number) = Function number ∷ []
  callee_mentions counts (BuiltinFunction from b) = Function (number_of b) ∷ []
  callee_mentions counts (Through v) = value_mentions counts counts v

abbrev pub typed_mentions : (here counts : Bool) → Typed → List Mention
typed_mentions here counts (AnObject o) = object_mentions counts o
typed_mentions here counts (AFunction f t) = callee_mentions counts f
typed_mentions here counts (AValue v) = value_mentions here counts v

-- what is typed and never evaluated: operands of sizeof, and lengths, which name nothing but below sizeof
abbrev pub unevaluated_mentions : List Typed → List Mention
unevaluated_mentions [] = []
unevaluated_mentions (x ∷ xs) = typed_mentions false false x ++ unevaluated_mentions xs

-- ---- statements

abbrev pub evaluated_mentions : Value → List Mention
evaluated_mentions v = value_mentions true true v

abbrev pub maybe_mentions : MaybeValue → List Mention
maybe_mentions NoValue = []
maybe_mentions (OneValue v) = evaluated_mentions v

abbrev mutual
  pub statement_mentions : Statement → List Mention
  statement_mentions (Block ss) = statements_mentions ss
  statement_mentions (Evaluate v) = evaluated_mentions v
  statement_mentions (Initialise place t v) = evaluated_mentions v
  statement_mentions (If v s) = evaluated_mentions v ++ statement_mentions s
  statement_mentions (IfElse v s z) =
      evaluated_mentions v ++ (statement_mentions s ++ statement_mentions z)
  statement_mentions (While from v s) = evaluated_mentions v ++ statement_mentions s
  statement_mentions (Do from s v) = statement_mentions s ++ evaluated_mentions v
  statement_mentions (For from first v last s) = statements_mentions first ++
      (maybe_mentions v ++ (maybe_mentions last ++ statement_mentions s))
  statement_mentions Break = []
  statement_mentions Continue = []
  statement_mentions (Return from v) = maybe_mentions v

  pub statements_mentions : Statements → List Mention
  statements_mentions NoStatements = []
  statements_mentions (MoreStatements s ss) = statement_mentions s ++ statements_mentions ss
