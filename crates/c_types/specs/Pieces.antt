-- What parts of declarations make of a program.
use Rattle.std.specs.Prelude.{ℕ, Bool, not, nat_le, Option, Some, None, List, ◌∷◌, [], ◌++◌, is_some}
use Rattle.source_limits.specs.Limits.{greatest_object}
use Rattle.c_syntax.specs.declared.declaration.Base.{Base}
use Rattle.c_syntax.specs.declared.declaration.Base.TheVariants as bases
use Rattle.c_syntax.specs.declared.declaration.Rest.{Rest as After}
use Rattle.c_syntax.specs.declared.declaration.Rest.TheVariants as rests
use Rattle.c_syntax.specs.Syntax.{Decl, Decls, Declare, Stmt}
use Rattle.c_types_model.specs.Types.{CType}
use Rattle.c_scopes.specs.Scopes.{meaning_in}
use Rattle.c_types_rules.specs.Checked.{Checked, Fine, keep, small, ◌>>=◌, ◌>>◌, noting, Notes}
use Rattle.c_types_rules.specs.Environment.{extents, is_reserved}
use Rattle.c_types_rules.specs.Expressions.{annotation_types, declared_name, declared_type}
use Rattle.c_types_rules.specs.Sources.{Program, at_file, function, function_defined, function_or_global, global, has_main, members_from}
use Rattle.c_types_rules.specs.Limits.{Outcome, decided}
use Rattle.c_types_environment.specs.Reading.{struct_with}

-- a function or a global
abbrev pub named : (tags : List (List ℕ)) → Program → Decl → Checked Program
named tags p (Declare from an b ps n r) = do
  annotation_types an (at_file tags p)
  t ← declared_type (Declare from an b ps n r) (at_file tags p)
  function_or_global tags p from (declared_name n) t ps r

-- the same, where its type is known
abbrev pub typed : (tags : List (List ℕ)) → Program → CType → Decl → Checked Program
typed tags p t (Declare from an b ps n r) = function_or_global tags p from (declared_name n) t ps r

abbrev pub function_of : (tags : List (List ℕ)) → Program → CType → Decl → Checked Program
function_of tags p t (Declare from an b ps n r) = function tags p from (declared_name n) t ps r

abbrev pub defined_of : (tags : List (List ℕ)) → Program → (place : ℕ) → CType → Decl → Stmt →
    Checked Program
defined_of tags p place t (Declare from an b ps n r) s =
    function_defined tags p from place (declared_name n) t ps s

abbrev pub global_of : (tags : List (List ℕ)) → Program → CType → Decl → Checked Program
global_of tags p t (Declare from an b ps n r) = global tags p from (declared_name n) t r

-- the name of a declaration
abbrev pub name_in : Decl → List ℕ
name_in (Declare from an b ps n r) = declared_name n

-- a member, whose name is that of none before it
abbrev pub named_member : (from : ℕ) → List (List ℕ × CType) → (name : List ℕ) → CType →
    Checked (List ℕ × CType)
named_member from before name t = do
  keep from 19 (not (is_reserved name))
  keep from 1 (not (is_some (meaning_in name before)))
  Fine (name, t)

-- the next struct, with these members
abbrev pub defined_struct : (tags : List (List ℕ)) → Program → Decls → Checked Program
defined_struct tags p ds = do
  ms ← members_from (at_file tags p) [] ds
  let s = struct_with (extents (at_file tags p)) ms
  small (nat_le s.extent.size greatest_object)
  Fine (record p { structs = p.structs ++ s ∷ [] })

-- what a source is whose declarations declare this program
abbrev pub finished : (found_large : Bool) → Program → Outcome
finished found_large p =
    let n : Notes = record { large = found_large; unevaluated = [] } in
    decided (noting n (keep 0 18 (has_main p.functions) >> Fine p))

-- the tag of a declaration that defines a struct, by its type words and what follows them
abbrev pub defined_tag : Base → After → Option (List ℕ)
defined_tag (bases.Struct tag) (rests.Members ids) = Some tag
defined_tag _ _ = None
