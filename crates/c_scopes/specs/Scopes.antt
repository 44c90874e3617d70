-- Names in nested scopes (C11 6.2.1).
use Rattle.std.specs.Prelude.{ℕ, Bool, List, [], ◌∷◌, Option, Some, None, if◌then◌else◌, nat_eq}
use Rattle.std.specs.Option.{option_or}
use Rattle.std.specs.Cmp.Lexicographic.{pointwise}

-- the names of one scope, the newest first, each with what it means
abbrev pub Scope : Type 0 → Type 0
Scope V = List (List ℕ × V)

-- whether two names are the same
abbrev pub same_name : List ℕ → List ℕ → Bool
same_name = pointwise nat_eq

-- what a name means in a scope; None where it isn't declared there
abbrev pub meaning_in : {V : Type 0} → List ℕ → Scope V → Option V
meaning_in name [] = None
meaning_in name (p ∷ scope) = if same_name name p.0 then Some p.1 else meaning_in name scope

-- what a name means in scopes, the innermost first: an inner scope hides outer ones
abbrev pub meaning_of : {V : Type 0} → List ℕ → List (Scope V) → Option V
meaning_of name [] = None
meaning_of name (scope ∷ outer) = option_or (meaning_in name scope) (meaning_of name outer)

-- the innermost scope
abbrev pub innermost : {V : Type 0} → List (Scope V) → Scope V
innermost [] = []
innermost (scope ∷ outer) = scope

-- the scopes with one more name in the innermost one
abbrev pub declared : {V : Type 0} → List ℕ → V → List (Scope V) → List (Scope V)
declared name v [] = []
declared name v (scope ∷ outer) = ((name, v) ∷ scope) ∷ outer
