-- What names are as typed nodes, and which sorts nodes are of.
use Rattle.std.specs.Prelude.{ℕ, List, Option, Some, None}
use Rattle.c_builtins.specs.declared.builtin.Builtin.{Builtin}
use Rattle.c_syntax.specs.declared.declaration.Base.TheVariants.{Struct}
use Rattle.c_types_model.specs.Types.{CType}
use Rattle.c_types_rules.specs.Environment.{Environment, Meaning, FunctionNamed, GlobalNamed, LocalNamed, base_type}
use Rattle.c_types_rules.specs.TypedTree.{Typed, AnObject, AFunction, GlobalObject, LocalObject, SourceFunction}
use Rattle.c_types_operators.specs.declared.error.TypeError.{TypeError}
use Rattle.c_types_operators.specs.declared.error.TypeError.TheVariants.{Rule}

-- what a name at this offset is by what it means (C11 6.5.1)
abbrev pub typed_by : (from : ℕ) → Meaning → Typed
typed_by from (FunctionNamed number t) = AFunction (SourceFunction from number) t
typed_by from (GlobalNamed place t) = AnObject (GlobalObject from place t)
typed_by from (LocalNamed place t) = AnObject (LocalObject place t)

-- the rule that an unknown name breaks: that of a builtin isn't called here, any other isn't declared
abbrev pub unknown_name_error : (from : ℕ) → Option Builtin → TypeError
unknown_name_error from (Some b) = Rule from 19
unknown_name_error from None = Rule from 1

-- the type that a tag names (C11 6.7.2.3)
abbrev pub type_of_tag : Environment → List ℕ → CType
type_of_tag env tag = base_type env (Struct tag)
