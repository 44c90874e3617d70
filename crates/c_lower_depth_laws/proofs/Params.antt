-- What a declarator declares: a function where parameters are nearest to the name, with a type for each.
use Rattle.std.proofs.Common.{◌≡◌, ℕ, ◌+◌, false, Option, Some, None, refl, sym, subst}
use Rattle.c_syntax.specs.declared.declaration.Base.{Base}
use Rattle.c_syntax.specs.declared.declaration.Base.TheVariants as bases
use Rattle.c_syntax.specs.Syntax.{Decl, Decls, Parts, Declare, NoDecls, MoreDecls, NoParts, Pointer, Array, Params}
use Rattle.c_types_model.specs.Types.{CType, CTypes, PointerTo, ArrayOf, FunctionOf, NoTypes, MoreTypes}
use Rattle.c_types_rules.specs.Checked.{Fine, keep, small, unevaluated, ◌>>=◌}
use Rattle.c_types_rules.specs.Constants.{integer_constant}
use Rattle.c_types_rules.specs.TypeTests.{is_function, is_result}
use Rattle.c_types_rules.specs.TypedTree.{value_of}
use Rattle.c_types_rules.specs.Environment.{Environment, base_type, extents, inner, place_in, struct_type}
use Rattle.c_types_rules.specs.Expressions.{complete, declarator_type, declared_type, expression, is_small, length_of, parameter_scope, parameter_type, parameter_types}
use Rattle.c_types_rules.specs.Sources.{nearest, params_of}
use Rattle.c_lower_depth_laws.specs.Functions as functions
use Rattle.c_lower_laws.proofs.Held.{Holds, holds_then, holds_on, holds_after}

-- one type for each parameter
abbrev pub OneEach : Decls → CTypes → Type 0
OneEach NoDecls NoTypes = Unit {0}
OneEach NoDecls (MoreTypes t ts) = ⊥
OneEach (MoreDecls d ds) NoTypes = ⊥
OneEach (MoreDecls d ds) (MoreTypes t ts) = OneEach ds ts

-- the type that a declarator gives
abbrev pub Shaped : Parts → CType → Type 0
Shaped ps t = OneEach (nearest ps) (params_of t) × (is_function t ≡ functions.is_function ps)

-- what a declarator begins with, other than a function
abbrev IsPlain : CType → Type 0
IsPlain t = (params_of t ≡ NoTypes) × (is_function t ≡ false)

-- where nothing is left, it is the type
abbrev Begins : Parts → CType → Type 0
Begins NoParts t = IsPlain t
Begins (Pointer from ps) t = Unit {0}
Begins (Array from x ps) t = Unit {0}
Begins (Params from ds ps) t = Unit {0}

begins : (ps : Parts) (t : CType) → IsPlain t → Begins ps t
begins NoParts t h = h
begins (Pointer from ps) t h = tt
begins (Array from x ps) t h = tt
begins (Params from ds ps) t h = tt

one_each : (ds : Decls) (env : Environment) (place : ℕ) → Holds (OneEach ds) (parameter_types ds env place)
one_each NoDecls env place = tt
one_each (MoreDecls d ds) env place =
    holds_on (OneEach (MoreDecls d ds)) (parameter_type d env) _ (λ t. holds_on (OneEach (MoreDecls d ds)) (parameter_scope d env place t) _
    (λ within. holds_then (OneEach ds) (OneEach (MoreDecls d ds)) (parameter_types ds within (place + 1)) _ (one_each ds within (place + 1)) (λ ts k. k)))

shaped : (ps : Parts) (env : Environment) (t : CType) → Begins ps t → Holds (Shaped ps) (declarator_type ps env t)
shaped NoParts env t h = (subst (OneEach NoDecls) (sym h.0) tt, h.1)
shaped (Pointer from ps) env t h = holds_after (Shaped (Pointer from ps)) (small (is_small (extents env) t)) (declarator_type ps env (PointerTo t)) (shaped ps env (PointerTo t) (begins ps (PointerTo t) (refl, refl)))
shaped (Array from x ps) env t h =
    holds_after (Shaped (Array from x ps)) (complete (extents env) from t) _ (holds_after (Shaped (Array from x ps)) (small (is_small (extents env) t)) _ (holds_on (Shaped (Array from x ps)) (expression x env) _
    (λ a. holds_after (Shaped (Array from x ps)) (unevaluated a) _ (holds_on (Shaped (Array from x ps)) (length_of from (integer_constant (value_of a))) _ (λ n. shaped ps env (ArrayOf n t) (begins ps (ArrayOf n t) (refl, refl)))))))
shaped (Params from ds NoParts) env t h =
    holds_after (Shaped (Params from ds NoParts)) (keep from 3 (is_result t)) (parameter_types ds (inner env) 0 >>= (λ ts. declarator_type NoParts env (FunctionOf t ts)))
    (holds_then (OneEach ds) (Shaped (Params from ds NoParts)) (parameter_types ds (inner env) 0) _ (one_each ds (inner env) 0) (λ ts k. (k, refl)))
shaped (Params from ds (Pointer at ps)) env t h = holds_after (Shaped (Pointer at ps)) (keep from 3 (is_result t)) (parameter_types ds (inner env) 0 >>= (λ ts. declarator_type (Pointer at ps) env (FunctionOf t ts)))
    (holds_on (Shaped (Pointer at ps)) (parameter_types ds (inner env) 0) _ (λ ts. shaped (Pointer at ps) env (FunctionOf t ts) tt))
shaped (Params from ds (Array at x ps)) env t h = holds_after (Shaped (Array at x ps)) (keep from 3 (is_result t)) (parameter_types ds (inner env) 0 >>= (λ ts. declarator_type (Array at x ps) env (FunctionOf t ts)))
    (holds_on (Shaped (Array at x ps)) (parameter_types ds (inner env) 0) _ (λ ts. shaped (Array at x ps) env (FunctionOf t ts) tt))
shaped (Params from ds (Params at es ps)) env t h = holds_after (Shaped (Params at es ps)) (keep from 3 (is_result t)) (parameter_types ds (inner env) 0 >>= (λ ts. declarator_type (Params at es ps) env (FunctionOf t ts)))
    (holds_on (Shaped (Params at es ps)) (parameter_types ds (inner env) 0) _ (λ ts. shaped (Params at es ps) env (FunctionOf t ts) tt))

plain_base : (env : Environment) (b : Base) → IsPlain (base_type env b)
plain_base env bases.Void = (refl, refl)
plain_base env (bases.Int bytes signed) = (refl, refl)
plain_base env (bases.Struct tag) = by (place_in tag env.tags)
  where
    by : (o : Option ℕ) → IsPlain (struct_type tag o)
    by (Some number) = (refl, refl)
    by None = (refl, refl)

-- the parts of what is declared
abbrev pub parts_of : Decl → Parts
parts_of (Declare from an b ps n r) = ps

pub declared_shaped : (d : Decl) (env : Environment) → Holds (Shaped (parts_of d)) (declared_type d env)
declared_shaped (Declare from an b ps n r) env =
    holds_then (Shaped ps) (Shaped ps) (declarator_type ps env (base_type env b)) _ (shaped ps env (base_type env b) (begins ps (base_type env b) (plain_base env b))) (λ t h. holds_after (Shaped ps) (small (is_small (extents env) t)) (Fine t) h)
