-- What an answer to the bytes of a source and the name of a cut says.
use Rattle.std.specs.Prelude.{◌≡◌, ℕ, List, Some, Result, Ok, Err}
use Rattle.c_lexer.specs.declared.token.Token.{Token}
use Rattle.c_syntax.specs.Syntax.{Decls}
use Rattle.c_parser_nodes.specs.Counts.{capped, source_nodes}
use Rattle.c_types_rules.specs.Limits.{Outcome, Typed, Rule, Limit, outcome}
use Rattle.c_types_rules.specs.Sources.{Program}
use Rattle.c_code.specs.Machine.{Flat}
use Rattle.c_code.specs.Typed.{KeepsTypes}
use Rattle.c_semantics.specs.Context.{Source}
use Rattle.c_lower_placement.specs.Laws.{MakesTheMarks, laid}
use Rattle.c_types_program.specs.Declarations.{Declared}
use Rattle.c_types_program.specs.Programs.{IsProgram}
use Rattle.c_types_program.specs.declared.text.TextLiteral.{TextLiteral}
use Rattle.c_lower.specs.Lowered.{IsSourceOf, lowered}
use Rattle.c_lower.specs.Named.{NamesNoMore}
use Rattle.annot_reader_rules.specs.Cuts.{annotations}
use Rattle.c_types_source.specs.declared.parts.Parts.{Parts as TypedSource}
use Rattle.c_types_source.specs.Sources.{IsTypedSource}
use Rattle.c_types.specs.Texts.{texts_among}
use Rattle.annot_reader.specs.Interface.{Interface}
use Rattle.annot_reader.specs.Interfaces.{IsInterface}
use Rattle.front_end.specs.declared.error.SourceError.{SourceError}
use Rattle.front_end.specs.declared.error.SourceError.TheVariants as errors
use Rattle.front_end.specs.declared.source.CheckedSource.{CheckedSource}
use Rattle.front_end.specs.declared.source.CountedSource.{CountedSource}
use Rattle.front_end.specs.Sources.{IsIllTyped, IsRight, IsSource, IsWrong, too_large}

-- the declarations keep all rules and limits of types, and this is what they are, with the strings among the
-- tokens
pub record IsTyped (ts : List Token) (ds : Decls) (s : TypedSource) : Type 0 where
  pub program : Program
  pub is : IsTypedSource ds program s
  pub texts : s.texts ≡ texts_among ts

-- the bytes are a source with which nothing is wrong before annotations, and this is what it is by its types,
-- with the number of its nodes
pub record IsWellTyped (bytes : List ℕ) (s : CountedSource) : Type 0 where
  pub ds : Decls
  pub source : IsSource bytes ds
  pub typed : IsTyped source.tokens ds s.source
  pub nodes : s.nodes ≡ capped (source_nodes ds)

-- the flat code of a program: it makes exactly the marks of the source, wherever its objects lie, hands over
-- values of their types alone, and names no more than the source does
pub record IsCode (p : Declared) (c : Flat) : Type 0 where
  pub lowered_is : c ≡ lowered p
  pub marks : (s : Source) → IsSourceOf p s → MakesTheMarks s c
  pub keeps : (s : Source) → IsSourceOf p s → KeepsTypes (laid s c)
  pub names : NamesNoMore p c

-- the typed program, its strings, the interface of the cut and the code are what these declarations and
-- tokens say
abbrev pub SaysOf : (cut : List ℕ) → List Token → Decls → Outcome → CheckedSource → Type 0
SaysOf cut ts ds (Typed p) c = IsProgram c.program p × (c.program.texts ≡ texts_among ts) ×
    IsInterface cut (annotations ds p) (Ok c.interface) × IsCode c.program c.code
SaysOf cut ts ds (Rule from rule) c = ⊥
SaysOf cut ts ds (Limit which) c = ⊥

-- nothing is wrong with the source that the bytes are, and this is what it says
pub record IsAccepted (bytes cut : List ℕ) (c : CheckedSource) : Type 0 where
  pub right : IsRight bytes cut
  pub says : SaysOf cut right.source.tokens right.ds (outcome right.ds) c

-- this is wrong with the bytes; of memory nothing is said
abbrev pub IsSourceError : (bytes cut : List ℕ) → SourceError → Type 0
IsSourceError bytes cut (errors.Fault fault) = IsWrong bytes cut (errors.Fault fault)
IsSourceError bytes cut errors.NoSuchCut = IsWrong bytes cut errors.NoSuchCut
IsSourceError bytes cut (errors.Limit limit) = IsWrong bytes cut (errors.Limit limit)
IsSourceError bytes cut errors.Memory = Unit {0}

-- this is wrong with the bytes, whatever the cut; of memory nothing is said
abbrev pub IsTypeError : (bytes : List ℕ) → SourceError → Type 0
IsTypeError bytes (errors.Fault fault) = IsIllTyped bytes (errors.Fault fault)
IsTypeError bytes errors.NoSuchCut = IsIllTyped bytes errors.NoSuchCut
IsTypeError bytes (errors.Limit limit) = IsIllTyped bytes (errors.Limit limit)
IsTypeError bytes errors.Memory = Unit {0}

-- this is too much of a source that is typed as this program; of memory nothing is said
abbrev pub IsTooLarge : Decls → Program → SourceError → Type 0
IsTooLarge ds p (errors.Fault fault) = too_large ds p ≡ Some (errors.Fault fault)
IsTooLarge ds p errors.NoSuchCut = too_large ds p ≡ Some errors.NoSuchCut
IsTooLarge ds p (errors.Limit limit) = too_large ds p ≡ Some (errors.Limit limit)
IsTooLarge ds p errors.Memory = Unit {0}

-- the program with these strings, and the interface of the cut, are what the source says, or its
-- annotations are wrong in this way
abbrev pub IsRead : (bytes cut : List ℕ) → Decls → Program → List TextLiteral →
    Result (Declared × Interface) SourceError → Type 0
IsRead bytes cut ds p texts (Ok found) = IsProgram found.0 p × (found.0.texts ≡ texts) ×
    IsInterface cut (annotations ds p) (Ok found.1)
IsRead bytes cut ds p texts (Err error) = IsSourceError bytes cut error

-- the source is well typed, or ill typed in this way
abbrev pub IsTypeChecked : (bytes : List ℕ) → Result CountedSource SourceError → Type 0
IsTypeChecked bytes (Ok s) = IsWellTyped bytes s
IsTypeChecked bytes (Err error) = IsTypeError bytes error

-- the source is accepted, or wrong in this way
abbrev pub IsChecked : (bytes cut : List ℕ) → Result CheckedSource SourceError → Type 0
IsChecked bytes cut (Ok c) = IsAccepted bytes cut c
IsChecked bytes cut (Err error) = IsSourceError bytes cut error
