-- The parameters of a declared function are scalars.
use Rattle.std.proofs.Common.{◌≡◌, ℕ, ◌+◌, Bool, true, List, Option, Some, None, refl}
use Rattle.c_syntax.specs.declared.declaration.Base.{Base}
use Rattle.c_syntax.specs.declared.declaration.Base.TheVariants as bases
use Rattle.c_syntax.specs.Syntax.{Decl, Decls, Parts, Declare, NoDecls, MoreDecls, NoParts, Pointer, Array, Params}
use Rattle.c_types_model.specs.Types.{CType, CTypes, Void, Integer, PointerTo, ArrayOf, StructOf, UndefinedStruct, FunctionOf, NoTypes, MoreTypes}
use Rattle.c_types_rules.specs.Checked.{Checked, Fine, keep, small, unevaluated, ◌>>=◌, ◌>>◌}
use Rattle.c_types_rules.specs.Constants.{integer_constant}
use Rattle.c_types_rules.specs.TypeTests.{is_result, is_scalar}
use Rattle.c_types_rules.specs.TypedTree.{value_of}
use Rattle.c_types_rules.specs.Environment.{Environment, base_type, extents, inner, place_in, struct_type}
use Rattle.c_types_rules.specs.Expressions.{adjusted, annotation_types, complete, declarator_type, declared_type, expression, is_small, length_of, parameter_scope, parameter_type, parameter_types}
use Rattle.c_lower_laws.proofs.Held.{Holds, holds_then, holds_on, holds_after, holds_kept}

abbrev pub IsScalar : CType → Type 0
IsScalar t = is_scalar t ≡ true

abbrev pub AreScalars : CTypes → Type 0
AreScalars NoTypes = Unit {0}
AreScalars (MoreTypes t ts) = IsScalar t × AreScalars ts

-- where it is the type of a function, its parameters are scalars
abbrev pub TakesScalars : CType → Type 0
TakesScalars Void = Unit {0}
TakesScalars (Integer k) = Unit {0}
TakesScalars (PointerTo t) = Unit {0}
TakesScalars (ArrayOf n t) = Unit {0}
TakesScalars (StructOf n) = Unit {0}
TakesScalars (UndefinedStruct tag) = Unit {0}
TakesScalars (FunctionOf r ps) = AreScalars ps

base_takes : (env : Environment) (b : Base) → TakesScalars (base_type env b)
base_takes env bases.Void = tt
base_takes env (bases.Int bytes signed) = tt
base_takes env (bases.Struct tag) = by (place_in tag env.tags)
  where
    by : (o : Option ℕ) → TakesScalars (struct_type tag o)
    by (Some number) = tt
    by None = tt

parameter_scalar : (d : Decl) (env : Environment) → Holds IsScalar (parameter_type d env)
parameter_scalar (Declare from an b ps n r) env =
    holds_after IsScalar (annotation_types an env) _ (holds_on IsScalar (declarator_type ps env (base_type env b)) _ (λ t. holds_kept IsScalar from 3 (is_scalar (adjusted t)) (Fine (adjusted t)) (λ e. e)))

parameters_scalar : (ds : Decls) (env : Environment) (place : ℕ) → Holds AreScalars (parameter_types ds env place)
parameters_scalar NoDecls env place = tt
parameters_scalar (MoreDecls d ds) env place =
    holds_then IsScalar AreScalars (parameter_type d env) _ (parameter_scalar d env)
    (λ t h. holds_on AreScalars (parameter_scope d env place t) _ (λ within. holds_then AreScalars AreScalars (parameter_types ds within (place + 1)) _ (parameters_scalar ds within (place + 1)) (λ ts k. (h, k))))

declarator_takes : (ps : Parts) (env : Environment) (t : CType) → TakesScalars t → Holds TakesScalars (declarator_type ps env t)
declarator_takes NoParts env t h = h
declarator_takes (Pointer from ps) env t h = holds_after TakesScalars (small (is_small (extents env) t)) _ (declarator_takes ps env (PointerTo t) tt)
declarator_takes (Array from x ps) env t h =
    holds_after TakesScalars (complete (extents env) from t) _ (holds_after TakesScalars (small (is_small (extents env) t)) _ (holds_on TakesScalars (expression x env) _
    (λ a. holds_after TakesScalars (unevaluated a) _ (holds_on TakesScalars (length_of from (integer_constant (value_of a))) _ (λ n. declarator_takes ps env (ArrayOf n t) tt)))))
declarator_takes (Params from ds ps) env t h =
    holds_after TakesScalars (keep from 3 (is_result t)) _ (holds_then AreScalars TakesScalars (parameter_types ds (inner env) 0) _ (parameters_scalar ds (inner env) 0) (λ ts k. declarator_takes ps env (FunctionOf t ts) k))

pub declared_takes : (d : Decl) (env : Environment) → Holds TakesScalars (declared_type d env)
declared_takes (Declare from an b ps n r) env =
    holds_then TakesScalars TakesScalars (declarator_type ps env (base_type env b)) _ (declarator_takes ps env (base_type env b) (base_takes env b)) (λ t h. holds_after TakesScalars (small (is_small (extents env) t)) (Fine t) h)
