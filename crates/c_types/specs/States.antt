-- What a source declares so far, and what that stands for.
use Rattle.c_types_environment.specs.States.{notes_of}
use Rattle.std.specs.Prelude.{◌≡◌, ℕ, ◌-◌, ◌<◌, true, false, List, [], ◌∷◌, map, Result, Ok, Err, OnOk}
use Rattle.std.specs.List.{All}
use Rattle.c_builtins.specs.Table.{first_source_function}
use Rattle.c_scopes.specs.Scopes.{innermost}
use Rattle.c_types_rules.specs.Checked.{Checked}
use Rattle.c_types_rules.specs.Environment.{Struct}
use Rattle.c_types_rules.specs.Limits.{all_keep, few_members}
use Rattle.c_types_rules.specs.Sources.{Program}
use Rattle.c_types_nodes.specs.Tables.{Keeps}
use Rattle.c_types_operators.specs.declared.error.TypeError.{TypeError}
use Rattle.c_types_program.specs.Declarations.{IsFunction, IsGlobal, function_in, global_in}
use Rattle.c_types_expressions.specs.Found.{Finds, Found}
use Rattle.c_types.specs.declared.declarations.Declarations.{Declarations}
use Rattle.c_types.specs.Quiet.{large_noted, quiet}
use Rattle.c_types_source.specs.Sources.{IsSmall}

-- the program that is declared
abbrev pub program_of : Declarations → Program
program_of d = record {
  structs = d.env.env.structs;
  functions = map (function_in d.env.table) d.functions.items;
  globals = map (global_in d.env.table) d.globals.items;
  names = innermost d.env.env.scopes;
}

abbrev pub IsAligned : Struct → Type 0
IsAligned s = 0 < s.extent.align

-- all numbers are those of the table, one scope is open, and it is noted where a struct has too many
-- members or an object is too large
pub record IsSound (d : Declarations) : Type 0 where
  pub functions : All (IsFunction d.env.table) d.functions.items
  pub globals : All (IsGlobal d.env.table) d.globals.items
  pub members : d.members_are_few ≡ all_keep few_members d.env.env.structs
  pub small : d.env.found_large ≡ false → All IsSmall d.env.env.structs
  pub aligned : All IsAligned d.env.env.structs
  pub outermost : d.env.env.scopes ≡ innermost d.env.env.scopes ∷ []

-- nothing is declared where these are the tags of all structs
pub record DeclaresNothing (tags : List (List ℕ)) (d : Declarations) : Type 0 where
  pub env : d.env.env ≡ record { tags = tags; structs = []; scopes = [] ∷ [] }
  pub small : d.env.found_large ≡ false
  pub functions : d.functions.items ≡ []
  pub globals : d.globals.items ≡ []
  pub members : d.members_are_few ≡ true

-- what was declared goes on standing for what it did
pub record GoesOn (old new : Declarations) : Type 0 where
  pub tags : new.env.env.tags ≡ old.env.env.tags
  pub numbers : Keeps old.env.table new.env.table
  pub sound : IsSound new

-- what the rules find is there, or the rule that is broken is named; after an error what is declared isn't
-- used any more
pub record Steps {A B : Type 0} (old new : Declarations) (is : A → B →
    Type 0) (c : Checked A) (r : Result B TypeError) : Type 0 where
  pub agrees : Finds old.env new.env is c r
  pub kept : OnOk r (GoesOn old new)

-- the program that the rules find is declared
abbrev pub Follows : (old new : Declarations) → Checked Program → Result (Unit {0}) TypeError → Type 0
Follows old new c r = Steps old new (λ p _. program_of new ≡ p) c r

-- a function is declared at this place
abbrev pub IsFunctionPlace : (new : Declarations) → ℕ × Program → ℕ → Type 0
IsFunctionPlace new a place = (program_of new ≡ a.1) × (place ≡ a.0 - first_source_function)

-- the program that the rules find is declared, where nothing is told of what stands unevaluated outside
-- bodies and values
pub record Declares (old new : Declarations) (c : Checked Program)
    (r : Result (Unit {0}) TypeError) : Type 0 where
  pub agrees : Found {B = Unit {0}} (large_noted old.env) (large_noted new.env) (λ p _.
      program_of new ≡ p) (quiet c) r
  pub kept : OnOk r (GoesOn old new)

-- the program that the rules find is declared in the end, or the rule that is broken is named
abbrev pub Ends : (old : Declarations) → Checked Program → Result Declarations TypeError → Type 0
Ends old c (Ok new) = Declares old new c (Ok tt)
Ends old c (Err e) = Found {A = Program} {B = Unit {0}} (notes_of old.env) (notes_of old.env) (λ _ _.
    Unit {0}) c (Err e)
