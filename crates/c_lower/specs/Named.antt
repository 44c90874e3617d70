-- What a function names, and what its code does.
use Rattle.std.specs.Prelude.{◌≡◌, ℕ, ◌+◌, ◌<◌, ◌≤◌, List, [], ◌∷◌, ◌++◌, length, Option, Some, None, slice_get}
use Rattle.std.specs.List.{AllByRecursion, Contains}
use Rattle.c_code.specs.declared.code.FuncInfo.{FuncInfo}
use Rattle.c_code.specs.declared.instr.Instr.{Instr}
use Rattle.c_code.specs.declared.instr.Instr.TheVariants as instr
use Rattle.c_code.specs.declared.instr.Push.{Push}
use Rattle.c_code.specs.declared.instr.Push.TheVariants.{Global, Text}
use Rattle.c_code.specs.Machine.{Flat, func_of}
use Rattle.c_builtins.specs.Table.{first_source_function, number_of}
use Rattle.c_types_rules.specs.TypedTree.{Object, Value, Values, Callee, GlobalObject, LocalObject, TextObject, Pointed, Element, MemberOf, Constant, FunctionAddress, ReadOf, AddressOf, Convert, Negate, Complement, Arithmetic, PointerSum, PointerDifference, PointerComparison, Not, Both, Either, Choice, Sequence, Assigned, Changed, Moved, Stepped, CallOf, NoValues, MoreValues, SourceFunction, BuiltinFunction, Through, MaybeValue, NoValue, OneValue, Statement, Statements, Block, Evaluate, Initialise, If, IfElse, While, Do, For, Break, Continue, Return, NoStatements, MoreStatements}
use Rattle.c_semantics.specs.Context.{order_of}
use Rattle.c_types_program.specs.declared.function.Body.{Body}
use Rattle.c_types_program.specs.declared.function.Function.{Function}
use Rattle.c_types_program.specs.Declarations.{Declared, body_in}
use Rattle.c_types_program.specs.Programs.{texts_in}
use Rattle.c_lower.specs.Lowered.{code_of}

-- a function by its number, or a global or a string by its place in the order of the source
pub data Name : Type 0 where
  FunctionName : (number : ℕ) → Name
  GlobalName : (place : ℕ) → Name
  TextName : (order : ℕ) → Name

-- ---- what a typed source names, whose strings stand at these offsets

abbrev mutual
  pub object_names : (texts : List ℕ) → Object → List Name
  object_names texts (GlobalObject from place t) = GlobalName place ∷ []
  object_names texts (LocalObject place t) = []
  object_names texts (TextObject from n) = TextName (order_of from texts) ∷ []
  object_names texts (Pointed v t) = value_names texts v
  object_names texts (Element s p i t) = value_names texts p ++ value_names texts i
  object_names texts (MemberOf o number t) = object_names texts o

  pub value_names : (texts : List ℕ) → Value → List Name
  value_names texts (Constant k n) = []
  value_names texts (FunctionAddress from number t) = FunctionName number ∷ []
  value_names texts (ReadOf o) = object_names texts o
  value_names texts (AddressOf o t) = object_names texts o
  value_names texts (Convert t v) = value_names texts v
  value_names texts (Negate k v) = value_names texts v
  value_names texts (Complement k v) = value_names texts v
  value_names texts (Arithmetic op k a b) = value_names texts a ++ value_names texts b
  value_names texts (PointerSum s p i size) = value_names texts p ++ value_names texts i
  value_names texts (PointerDifference a b size) = value_names texts a ++ value_names texts b
  value_names texts (PointerComparison op a b) = value_names texts a ++ value_names texts b
  value_names texts (Not v) = value_names texts v
  value_names texts (Both a b) = value_names texts a ++ value_names texts b
  value_names texts (Either a b) = value_names texts a ++ value_names texts b
  value_names texts (Choice c a b) = value_names texts c ++ (value_names texts a ++ value_names texts b)
  value_names texts (Sequence a b) = value_names texts a ++ value_names texts b
  value_names texts (Assigned o v) = object_names texts o ++ value_names texts v
  value_names texts (Changed o op k v) = object_names texts o ++ value_names texts v
  value_names texts (Moved o w i size) = object_names texts o ++ value_names texts i
  value_names texts (Stepped o w g size) = object_names texts o
  value_names texts (CallOf f vs t) = callee_names texts f ++ values_names texts vs

  pub values_names : (texts : List ℕ) → Values → List Name
  values_names texts NoValues = []
  values_names texts (MoreValues v vs) = value_names texts v ++ values_names texts vs

  pub callee_names : (texts : List ℕ) → Callee → List Name
  callee_names texts (SourceFunction from number) = FunctionName number ∷ []
  callee_names texts (BuiltinFunction from b) = FunctionName (number_of b) ∷ []
  callee_names texts (Through v) = value_names texts v

abbrev pub maybe_names : (texts : List ℕ) → MaybeValue → List Name
maybe_names texts NoValue = []
maybe_names texts (OneValue v) = value_names texts v

abbrev mutual
  pub statement_names : (texts : List ℕ) → Statement → List Name
  statement_names texts (Block ss) = statements_names texts ss
  statement_names texts (Evaluate v) = value_names texts v
  statement_names texts (Initialise place t v) = value_names texts v
  statement_names texts (If v s) = value_names texts v ++ statement_names texts s
  statement_names texts (IfElse v s z) = value_names texts v ++
      (statement_names texts s ++ statement_names texts z)
  statement_names texts (While from v s) = value_names texts v ++ statement_names texts s
  statement_names texts (Do from s v) = statement_names texts s ++ value_names texts v
  statement_names texts (For from first v last s) = statements_names texts first ++
      (maybe_names texts v ++ (maybe_names texts last ++ statement_names texts s))
  statement_names texts Break = []
  statement_names texts Continue = []
  statement_names texts (Return from v) = maybe_names texts v

  pub statements_names : (texts : List ℕ) → Statements → List Name
  statements_names texts NoStatements = []
  statements_names texts (MoreStatements s ss) = statement_names texts s ++ statements_names texts ss

-- ---- what an instruction names: the function that it calls by its number, and the global or string that
-- it works on

abbrev pub push_names : Push → List Name
push_names (Global place) = GlobalName place ∷ []
push_names (Text order) = TextName order ∷ []
push_names what = []

abbrev pub origin_names : Option ℕ → List Name
origin_names (Some place) = GlobalName place ∷ []
origin_names None = []

abbrev pub instr_names : Instr → List Name
instr_names (instr.Push what) = push_names what
instr_names (instr.Load k o) = origin_names o
instr_names (instr.LoadKeep k o) = origin_names o
instr_names (instr.Store k o) = origin_names o
instr_names (instr.StoreStep k by old o) = origin_names o
instr_names (instr.Call f n) = FunctionName f ∷ []
instr_names i = []

-- ---- code

-- each name is one of those
abbrev pub Among : List Name → List Name → Type 0
Among those names = AllByRecursion (Contains those) names

-- the instruction at a place is of the code of a function, and names nothing but what the function does
pub record IsOfFunction (p : Declared) (code : Flat) (place : ℕ) (i : Instr) : Type 0 where
  pub order : ℕ
  pub function : Function
  pub body : Body
  pub declared : slice_get p.functions order ≡ Some function
  pub defined : function.body ≡ Some body
  pub info : FuncInfo
  pub entry : ℕ
  pub known : func_of code (first_source_function + order) ≡ Some info
  pub begins : info.entry ≡ Some entry
  pub from : entry ≤ place
  pub before : place < entry + length (code_of p function.body)
  pub names : Among (statement_names (texts_in p.texts) (body_in p.table body).statements) (instr_names i)

-- the code of each function names nothing but what the function does
abbrev pub NamesNoMore : Declared → Flat → Type 0
NamesNoMore p code = (place : ℕ) (i : Instr) → slice_get code.instrs place ≡ Some i →
    IsOfFunction p code place i
