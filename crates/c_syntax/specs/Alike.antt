-- Declarations that share their annotations and the type that stands before their declarators.
use Rattle.std.specs.Prelude.{◌≡◌, List, Option, Some, slice_get}
use Rattle.c_syntax.specs.declared.declaration.Decl.{Decl}
use Rattle.c_syntax.specs.declared.id.DeclId.{DeclId}

-- both are there, with the same annotations and the same base
abbrev pub AreAlike : Option Decl → Option Decl → Type 0
AreAlike (Some d) (Some e) = (d.annots ≡ e.annots) × (d.base ≡ e.base)
AreAlike _ _ = ⊥

-- the declarations of these numbers are
abbrev pub ShareSpecifiers : List Decl → DeclId → DeclId → Type 0
ShareSpecifiers ds a b = AreAlike (slice_get ds a.0) (slice_get ds b.0)
