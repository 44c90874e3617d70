-- What parts of an expression are, and what is made of them.
use Rattle.std.specs.Prelude.{ℕ, pos, List, Some, None}
use Rattle.r2_num.specs.declared.kinds.IntKind.TheVariants.{U64}
use Rattle.c_lexer.specs.declared.token.Sign.{Sign}
use Rattle.c_syntax.specs.Syntax.{Expr, Parts}
use Rattle.c_builtins.specs.Table.{prototype_of}
use Rattle.c_types_model.specs.Types.{CType, CTypes, ArrayOf, NoTypes, MoreTypes}
use Rattle.c_types_model.specs.declared.extent.Extent.{Extent}
use Rattle.c_types_rules.specs.Checked.{Checked, Fine, Broken, keep, small, unevaluated, ◌>>=◌, ◌>>◌}
use Rattle.c_types_rules.specs.Constants.{integer_constant}
use Rattle.c_types_rules.specs.TypeTests.{is_complete, is_scalar}
use Rattle.c_types_rules.specs.Operators.{assigned, assignment, binary, cast, choice, size_in}
use Rattle.c_types_rules.specs.TypedTree.{Value, Typed, Callee, Constant, AValue, AFunction, BuiltinFunction, typed_type, value_of, value_type}
use Rattle.c_types_rules.specs.Environment.{Environment, extents}
use Rattle.c_types_rules.specs.Expressions.{expression, declarator_type, a_value, subscript, arrow_of, adjusted, builtin_in, called, is_small, length_of, start_of}

-- two operands, the left one first
abbrev pub operands : Expr → Expr → Environment → Checked (Typed × Typed)
operands x y env = do
  a ← expression x env
  b ← expression y env
  Fine (a, b)

-- an operator between two operands
abbrev pub binary_of : Environment → (from : ℕ) → Sign → Typed → Typed → Checked Typed
binary_of env from s a b = a_value (binary (extents env) from s (value_of a) (value_of b))

abbrev pub assignment_of : Environment → (from : ℕ) → Sign → Typed → Typed → Checked Typed
assignment_of env from s a b = a_value (assignment (extents env) from s a (value_of b))

abbrev pub choice_of : (from : ℕ) → Typed → Typed → Typed → Checked Typed
choice_of from c a b = a_value (choice from (value_of c) (value_of a) (value_of b))

abbrev pub subscript_of : Environment → (from : ℕ) → Typed → Typed → Checked Typed
subscript_of env from a b = subscript (extents env) from (value_of a) (value_of b)

abbrev pub cast_of : (from : ℕ) → CType → Typed → Checked Typed
cast_of from t a = a_value (cast from t (value_of a))

-- `->` and a name after an operand
abbrev pub arrow_from : Environment → (from : ℕ) → Typed → (name : List ℕ) → Checked Typed
arrow_from env from a name = arrow_of env from (value_of a) (value_type (value_of a)) name

-- that a type is that of a complete object (C11 6.5.3.4, 1)
abbrev pub sized : (structs : List Extent) → (from : ℕ) → CType → Checked (Unit {0})
sized structs from t = keep from 15 (is_complete structs t)

-- the size of a type (C11 6.5.3.4, 2)
abbrev pub size_constant : (structs : List Extent) → (from : ℕ) → CType → Checked Typed
size_constant structs from t = sized structs from t >> Fine
    (AValue (Constant U64 (pos (size_in structs t))))

-- the size of an operand, which isn't evaluated (C11 6.5.3.4, 2)
abbrev pub size_of_operand : (structs : List Extent) → (from : ℕ) → Typed → Checked Typed
size_of_operand structs from a = unevaluated a >> size_constant structs from (typed_type a)

-- what is called, what it gives and what it takes; a builtin is only found where it is called
abbrev pub call_target : Expr → Environment → (from : ℕ) → Checked (Callee × CType × CTypes)
call_target x env from = elim (builtin_in env x) [
  | Some b ↦ called (start_of x) (AFunction (BuiltinFunction (start_of x) b) (prototype_of b))
  | None ↦
      expression x env >>= called from
]

-- a value at an offset, converted to the type of a parameter
abbrev pub argument : (from : ℕ) → CType → Typed → Checked Value
argument from t a = assigned from t (value_of a)

-- the type of a parameter (C11 6.7.6.3, 7)
abbrev pub parameter : (from : ℕ) → CType → Checked CType
parameter from t = keep from 3 (is_scalar (adjusted t)) >> Fine (adjusted t)

-- an array of elements of a type, with this length
abbrev pub array_by : (from : ℕ) → CType → Typed → Checked CType
array_by from t a = do
  n ← length_of from (integer_constant (value_of a))
  Fine (ArrayOf n t)

-- the same, where the length isn't evaluated
abbrev pub array_of : (from : ℕ) → CType → Typed → Checked CType
array_of from t a = unevaluated a >> array_by from t a

-- what a declarator makes of the type that the words of its declaration make
abbrev pub whole_type : Parts → Environment → CType → Checked CType
whole_type ps env c = do
  t ← declarator_type ps env c
  small (is_small (extents env) t)
  Fine t

-- an argument of a call, which is converted to the first of the types that are left
abbrev pub argument_of : Expr → Environment → (from : ℕ) → CTypes → Checked Value
argument_of x env from NoTypes = Broken from 9
argument_of x env from (MoreTypes t ts) = do
  a ← expression x env
  argument (start_of x) t a
