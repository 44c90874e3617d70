-- Names that stand for objects, in an environment and in the source's own count.
use Rattle.std.specs.Prelude.{◌≡◌, ℕ, Bool, true, false, List, [], ◌∷◌, Option, Some, None}
use Rattle.c_types_model.specs.Types.{CType}
use Rattle.c_scopes.specs.Scopes.{Scope, meaning_of}
use Rattle.c_types_rules.specs.TypeTests.{is_function}
use Rattle.c_types_rules.specs.Environment.{Environment, Meaning, FunctionNamed, GlobalNamed, LocalNamed}
use Rattle.c_lower_depth_laws.specs.Expressions.{among}

-- whether a name stands for an object
abbrev pub means_object : Option Meaning → Bool
means_object (Some (FunctionNamed number t)) = false
means_object (Some (GlobalNamed place t)) = true
means_object (Some (LocalNamed place t)) = true
means_object None = false

-- there is a scope
abbrev pub HasScope : List (Scope Meaning) → Type 0
HasScope [] = ⊥
HasScope (scope ∷ outer) = Unit {0}

-- these are the names that stand for objects in the scopes, and a function's name has a function's type
pub record Agrees (objects : List (List ℕ)) (ss : List (Scope Meaning)) : Type 0 where
  pub scoped : HasScope ss
  pub names : (name : List ℕ) → among name objects ≡ means_object (meaning_of name ss)
  pub functions : (name : List ℕ) (number : ℕ) (t : CType) →
      meaning_of name ss ≡ Some (FunctionNamed number t) → is_function t ≡ true

-- in the scopes of an environment
abbrev pub AgreesIn : List (List ℕ) → Environment → Type 0
AgreesIn objects env = Agrees objects env.scopes
