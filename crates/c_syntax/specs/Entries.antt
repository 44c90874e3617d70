-- Declarations with the first of those that share their specifiers.
use Rattle.std.specs.Prelude.{List, map, slice_get, Some}
use Rattle.std.specs.List.{AllByRecursion}
use Rattle.c_syntax.specs.declared.declaration.Decl.{Decl}
use Rattle.c_syntax.specs.declared.decl_table.Entry.{Entry}
use Rattle.c_syntax.specs.Alike.{AreAlike}

abbrev pub decls_of : List Entry → List Decl
decls_of es = map (λ e. e.decl) es

-- each has the specifiers of its first one, which is among these
abbrev pub AreLikeFirsts : List Decl → List Entry → Type 0
AreLikeFirsts ds es = AllByRecursion (λ e. AreAlike (Some e.decl) (slice_get ds e.first.0)) es
