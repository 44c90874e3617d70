-- The depth of the evaluation stack in the functions of a program.
use Rattle.std.specs.Prelude.{ℕ, suc, ◌+◌, Bool, false, if◌then◌else◌, nat_lt, max, min, List, [], ◌∷◌, map, Option, Some, None}
use Rattle.source_limits.specs.Limits.{most_values}
use Rattle.c_builtins.specs.Table.{first_source_function}
use Rattle.c_types_rules.specs.TypedTree.{Body, Callee, Typed, AnObject, AFunction, AValue, SourceFunction, BuiltinFunction, Through}
use Rattle.c_types_rules.specs.Sources.{Function}
use Rattle.c_types_program.specs.Declarations.{Declared, function_in}
use Rattle.c_lower_placement.specs.Heights.{call_depth, object_depth, statement_depth, value_depth}

-- a count of 8 bits; more than 255 count as 255
abbrev pub capped : ℕ → ℕ
capped n = min n 255

-- the values of an expression of any sort; a function that is called by its name has none
abbrev pub callee_depth : Callee → ℕ
callee_depth (SourceFunction from number) = 0
callee_depth (BuiltinFunction from b) = 0
callee_depth (Through v) = value_depth v

abbrev pub typed_depth : Typed → ℕ
typed_depth (AnObject o) = object_depth o
typed_depth (AFunction f t) = callee_depth f
typed_depth (AValue v) = value_depth v

-- those of a call, where so many values are on the stack below its arguments; nothing but functions is
-- called
abbrev pub calling_depth : Typed → ℕ → ℕ
calling_depth (AnObject o) n = max 1 n
calling_depth (AFunction f t) n = call_depth f n
calling_depth (AValue v) n = max 1 n

-- the greatest depth over expressions, before each of which the evaluation stack is empty
abbrev pub greatest_depth : List Typed → ℕ
greatest_depth [] = 0
greatest_depth (x ∷ xs) = max (typed_depth x) (greatest_depth xs)

-- the greatest depth over all expressions in the block of a body, also those that aren't evaluated: operands of
-- sizeof, and lengths of arrays
abbrev pub body_depth : Body → ℕ
body_depth b = max (statement_depth b.statements) (greatest_depth b.unevaluated)

-- whether the evaluation stack is deeper than 64 values in what a function does
abbrev pub is_wide : Option Body → Bool
is_wide None = false
is_wide (Some b) = nat_lt most_values (body_depth b)

-- the number of the first such function, where these have the places from one on
abbrev pub first_wide : (place : ℕ) → List Function → Option ℕ
first_wide place [] = None
first_wide place (f ∷ fs) = if is_wide f.body then Some (first_source_function + place)
    else first_wide (suc place) fs

-- the functions that a program declares, by number less 16
abbrev pub functions_in : Declared → List Function
functions_in p = map (function_in p.table) p.functions
