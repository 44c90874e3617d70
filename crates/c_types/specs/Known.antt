-- What is known of the specifiers of a declaration, for those that share them.
use Rattle.std.specs.Prelude.{◌≡◌, Option, Some, None, Result, Ok}
use Rattle.c_syntax.specs.declared.declaration.Decl.{Decl}
use Rattle.c_syntax.specs.declared.id.DeclId.{DeclId}
use Rattle.c_syntax.specs.Nodes.{Nodes, decl_at}
use Rattle.c_syntax.specs.Stands.{StandAnnots}
use Rattle.c_syntax.specs.Syntax.{Annots}
use Rattle.c_types_rules.specs.Expressions.{annotation_types}
use Rattle.c_types_operators.specs.declared.error.TypeError.{TypeError}
use Rattle.c_types_operators.specs.Answers.{IsNothing}
use Rattle.c_types_environment.specs.States.{State}
use Rattle.c_types_expressions.specs.declared.known.Specified.{Specified}
use Rattle.c_types_expressions.specs.Found.{Found}
use Rattle.c_types_expressions.specs.Specified.{IsSpecified}
use Rattle.c_types.specs.Quiet.{large_noted, quiet}

-- the annotations of a declaration are read, or the rule that is broken in them is named
abbrev pub ReadsAnnots : Nodes → DeclId → (old new : State) → Result (Unit {0}) TypeError → Type 0
ReadsAnnots N i old new r = (d : Decl) (an : Annots) → decl_at N i ≡ Some d → StandAnnots N d.annots an →
    Found (large_noted old) (large_noted new) IsNothing (quiet (annotation_types an old.env)) r

-- they break no rule, and nothing more is to be noted of them
abbrev pub AreRead : Nodes → State → DeclId → Type 0
AreRead N s i = ReadsAnnots N i s s (Ok tt)

-- the type that the specifiers make is known, and their annotations are read
abbrev pub IsKnown : Nodes → State → Option Specified → Type 0
IsKnown N s None = Unit {0}
IsKnown N s (Some x) = IsSpecified s N (Some x) × AreRead N s x.decl
