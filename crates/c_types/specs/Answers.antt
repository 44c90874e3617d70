-- What the answers of a check say.
use Rattle.std.specs.Prelude.{◌≡◌, false, List, Option, Some, None, Result, Ok, Err}
use Rattle.c_syntax.specs.Nodes.{Nodes}
use Rattle.c_syntax.specs.Syntax.{Decls}
use Rattle.c_syntax.specs.Stands.{Holds}
use Rattle.c_syntax_laws.specs.Numbers.{FitsDecls}
use Rattle.c_types_rules.specs.Limits as limits
use Rattle.c_types_rules.specs.Limits.{Outcome, outcome}
use Rattle.c_types_rules.specs.Sources.{tags_of}
use Rattle.c_types_program.specs.declared.text.TextLiteral.{TextLiteral}
use Rattle.c_types_source.specs.declared.parts.Parts.{Parts as TypedSource}
use Rattle.c_types_source.specs.Sources.{IsTypedSource}
use Rattle.c_types.specs.declared.declarations.Declarations.{Declarations}
use Rattle.c_types.specs.declared.error.CheckError.{CheckError}
use Rattle.c_types.specs.declared.error.CheckError.TheVariants as errors
use Rattle.c_types.specs.declared.error.Which.{Which}
use Rattle.c_types.specs.declared.error.Which.TheVariants as numbers
use Rattle.c_types.specs.Pieces.{finished}
use Rattle.c_types.specs.States.{program_of}

-- a source whose numbers are such as tokens are
abbrev pub IsSource : Nodes → Type 0
IsSource N = (ds : Decls) × Holds N ds × FitsDecls ds

abbrev pub which_in : Which → limits.Which
which_in numbers.Functions = limits.Functions
which_in numbers.Params = limits.Params
which_in numbers.Members = limits.Members
which_in numbers.Object = limits.Object
which_in numbers.Globals = limits.Globals
which_in numbers.Frame = limits.Frame

-- the typed source with this tree and these strings, the broken rule with the offset of its node, or the limit
-- that is exceeded; of memory nothing is said
abbrev pub IsChecked : List TextLiteral → Nodes → Decls → Outcome → Result TypedSource CheckError → Type 0
IsChecked texts N ds o (Err errors.Memory) = Unit {0}
IsChecked texts N ds (limits.Typed p) (Ok s) = IsTypedSource ds p s × (s.tree ≡ N) × (s.texts ≡ texts)
IsChecked texts N ds (limits.Typed p) (Err (errors.Rule f r)) = ⊥
IsChecked texts N ds (limits.Typed p) (Err (errors.Limit v)) = ⊥
IsChecked texts N ds (limits.Rule from rule) (Ok s) = ⊥
IsChecked texts N ds (limits.Rule from rule) (Err (errors.Rule f r)) = (f ≡ from) × (r ≡ rule)
IsChecked texts N ds (limits.Rule from rule) (Err (errors.Limit v)) = ⊥
IsChecked texts N ds (limits.Limit w) (Ok s) = ⊥
IsChecked texts N ds (limits.Limit w) (Err (errors.Rule f r)) = ⊥
IsChecked texts N ds (limits.Limit w) (Err (errors.Limit v)) = which_in v ≡ w

-- all declarations of a source are declared
pub record IsDeclared (N : Nodes) (ds : Decls) (d : Declarations) : Type 0 where
  pub holds : Holds N ds
  pub tags : d.env.env.tags ≡ tags_of ds
  pub outcome_is : outcome ds ≡ finished d.env.found_large (program_of d)

-- the first error of declarations that are a source in the end; None where they have none, and then no object is
-- too large
abbrev pub IsFirstError : Declarations → Option CheckError → Type 0
IsFirstError d None = (finished d.env.found_large (program_of d) ≡ limits.Typed (program_of d)) ×
    (d.env.found_large ≡ false)
IsFirstError d (Some (errors.Rule f r)) = finished d.env.found_large (program_of d) ≡ limits.Rule f r
IsFirstError d (Some (errors.Limit v)) = finished d.env.found_large (program_of d) ≡ limits.Limit (which_in v)
IsFirstError d (Some errors.Memory) = ⊥
