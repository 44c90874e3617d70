-- Names that stand for objects, in an environment and in the source's own count.
use Rattle.std.proofs.Common.{◌≡◌, ℕ, Bool, true, false, cond, List, [], ◌∷◌, Some, None, refl}
use Rattle.std.specs.Prelude.{not}
use Rattle.std.specs.Option.{option_or}
use Rattle.c_syntax.specs.Syntax.{Decl, Declare}
use Rattle.c_types_model.specs.Types.{CType}
use Rattle.c_scopes.specs.Scopes.{Scope, meaning_in, meaning_of, same_name}
use Rattle.c_scopes.specs.Scopes as scopes
use Rattle.c_types_rules.specs.Checked.{Checked, Fine, keep, ◌>>◌}
use Rattle.c_types_rules.specs.TypeTests.{is_function}
use Rattle.c_types_rules.specs.Environment.{Environment, Meaning, FunctionNamed, LocalNamed, declarable, inner, is_reserved, with_name}
use Rattle.c_types_rules.specs.Expressions.{parameter_scope}
use Rattle.c_lower_depth_laws.specs.Expressions.{among, with_param}
use Rattle.c_lower_depth_laws.specs.Names.{Agrees, AgreesIn, means_object}
use Rattle.c_lower_depth_laws.proofs.Found.{Finds}

-- one more scope
pub agrees_inner : (objects : List (List ℕ)) (env : Environment) → AgreesIn objects env → AgreesIn objects (inner env)
agrees_inner objects env h = record { scoped = tt; names = h.names; functions = h.functions }

-- one more object
more : (objects : List (List ℕ)) (ss : List (Scope Meaning)) (name : List ℕ) (place : ℕ) (t : CType) → Agrees objects ss → Agrees (name ∷ objects) (scopes.declared name (LocalNamed place t) ss)
more objects [] name place t h = absurd h.scoped
more objects (scope ∷ outer) name place t h = record { scoped = tt; names = λ n. named n (same_name n name); functions = λ n number u e. typed n number u (same_name n name) e }
  where
    named : (n : List ℕ) (b : Bool) → cond b true (among n objects) ≡ means_object (option_or (cond b (Some (LocalNamed place t)) (meaning_in n scope)) (meaning_of n outer))
    named n true = refl
    named n false = h.names n

    typed : (n : List ℕ) (number : ℕ) (u : CType) (b : Bool) → option_or (cond b (Some (LocalNamed place t)) (meaning_in n scope)) (meaning_of n outer) ≡ Some (FunctionNamed number u) → is_function u ≡ true
    typed n number u true e = absurd cc
    typed n number u false e = h.functions n number u e

pub agrees_more : (objects : List (List ℕ)) (env : Environment) (name : List ℕ) (place : ℕ) (t : CType) → AgreesIn objects env → AgreesIn (name ∷ objects) (with_name env name (LocalNamed place t))
agrees_more objects env name place t h = more objects env.scopes name place t h

-- a name that may be declared
pub finds_declarable : {B : Type 0} (Q : B → Type 0) (k : ℕ) (env : Environment) (from : ℕ) (name : List ℕ) (y : Checked B) → Finds Q k y → Finds Q k (declarable env from name >> y)
finds_declarable Q k env from name y h = by (not (is_reserved name)) _
  where
    again : (c : Bool) → Finds Q k (keep from 1 c >> y)
    again true = h
    again false = tt

    by : (b c : Bool) → Finds Q k ((keep from 19 b >> keep from 1 c) >> y)
    by true c = again c
    by false c = tt

pub param_agrees : (d : Decl) (objects : List (List ℕ)) (env : Environment) (place : ℕ) (t : CType) → AgreesIn objects env → Finds (AgreesIn (with_param d objects)) 0 (parameter_scope d env place t)
param_agrees (Declare from an b ps None r) objects env place t h = (h, refl)
param_agrees (Declare from an b ps (Some name) r) objects env place t h = finds_declarable (AgreesIn (name ∷ objects)) 0 env from name (Fine (with_name env name (LocalNamed place t))) (agrees_more objects env name place t h, refl)
