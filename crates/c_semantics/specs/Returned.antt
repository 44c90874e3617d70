-- Functions that give values of their results' types: each `return` converts its value to the type (C11
-- 6.8.6.4, 3).
use Rattle.std.specs.Prelude.{◌≡◌, ℕ, true, List, Some}
use Rattle.marks.specs.declared.side.Side.TheVariants.{Replay}
use Rattle.marks.specs.Marks.{Mark}
use Rattle.marks.specs.Wants.{Returns}
use Rattle.c_code.specs.Values.{is_value}
use Rattle.c_code.specs.MarkLists.{Expects}
use Rattle.c_types_model.specs.Types.{CType}
use Rattle.c_types_rules.specs.TypedTree.{Body, Value, Convert, MaybeValue, NoValue, OneValue, Statement, Statements, Block, Evaluate, Initialise, If, IfElse, While, Do, For, Break, Continue, Return, NoStatements, MoreStatements}
use Rattle.c_types_rules.specs.Sources.{result_of}
use Rattle.c_semantics.specs.Reading.{Marks}
use Rattle.c_semantics.specs.Context.{Source, body_of, result_shape, type_of}
use Rattle.c_semantics.specs.Values.{is_read}

-- the value is converted to this type, which is one of a scalar
abbrev pub IsConverted : CType → Value → Type 0
IsConverted t (Convert u v) = (u ≡ t) × (is_read t ≡ true)
IsConverted t v = ⊥

-- without a value a function gives 0, which is a value of each type
abbrev pub IsReturned : CType → MaybeValue → Type 0
IsReturned t NoValue = Unit {0}
IsReturned t (OneValue v) = IsConverted t v

abbrev mutual
  pub Converts : CType → Statement → Type 0
  Converts t (Block ss) = AllConvert t ss
  Converts t (Evaluate v) = Unit {0}
  Converts t (Initialise place u v) = Unit {0}
  Converts t (If v s) = Converts t s
  Converts t (IfElse v s z) = Converts t s × Converts t z
  Converts t (While from v s) = Converts t s
  Converts t (Do from s v) = Converts t s
  Converts t (For from first v last s) = AllConvert t first × Converts t s
  Converts t Break = Unit {0}
  Converts t Continue = Unit {0}
  Converts t (Return from v) = IsReturned t v

  pub AllConvert : CType → Statements → Type 0
  AllConvert t NoStatements = Unit {0}
  AllConvert t (MoreStatements s ss) = Converts t s × AllConvert t ss

-- the functions of the source give values of their results' types
abbrev pub ResultsAreConverted : Source → Type 0
ResultsAreConverted s = (f : ℕ) (b : Body) → body_of s f ≡ Some b →
    Converts (result_of (type_of s f)) b.statements

-- where a function that replay code called below the cut has given a result, that is a value of its type
abbrev pub ReturnsGiveValues : Source → Marks → Type 0
ReturnsGiveValues s p = (ms : List Mark) (f : ℕ) (args : List ℕ) (v : ℕ) →
    p ms ≡ Expects Replay (Returns f args v) → is_value (result_shape s f) v ≡ true
