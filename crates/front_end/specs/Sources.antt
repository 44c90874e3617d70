-- What the bytes of a source and the name of a cut say: that the source is accepted, or what is wrong with
-- it.
use Rattle.std.specs.Prelude.{◌≡◌, ℕ, Bool, true, false, nat_lt, if◌then◌else◌, List, Option, Some, None}
use Rattle.std.specs.Option.{option_map}
use Rattle.source_limits.specs.Limits.{most_nodes}
use Rattle.c_lexer.specs.declared.token.Token.{Token}
use Rattle.c_lexer.specs.declared.error.LexError.{LexError}
use Rattle.c_lexer.specs.Lexing as lexing
use Rattle.c_syntax.specs.Sources.{Spells}
use Rattle.c_syntax.specs.Syntax.{Decls}
use Rattle.c_parser_depth.specs.Deep.{IsDeepAt, IsShallow}
use Rattle.c_parser_nodes.specs.Counts.{source_nodes}
use Rattle.c_lower.specs.Depths.{first_wide}
use Rattle.c_types_rules.specs.Checked.{Checked, Fine, Noted, Broken}
use Rattle.c_types_rules.specs.Limits as typing
use Rattle.c_types_rules.specs.Limits.{outcome}
use Rattle.c_types_rules.specs.Sources.{Program}
use Rattle.annot_reader_rules.specs.Cuts.{annotations, is_named}
use Rattle.annot_reader_rules.specs.Notes.{Annotated}
use Rattle.c_types.specs.declared.error.Which.{Which}
use Rattle.c_types.specs.declared.error.Which.TheVariants as numbers
use Rattle.front_end.specs.declared.error.SourceError.{SourceError}
use Rattle.front_end.specs.declared.error.SourceError.TheVariants.{NoSuchCut, Limit}
use Rattle.front_end.specs.declared.error.SourceLimit.TheVariants.{Types, Nodes, Values}
use Rattle.front_end.specs.declared.error.SourceRule.TheVariants as rules
use Rattle.front_end.specs.Errors.{by_tokens, found}

-- the bytes are the tokens of a source with these declarations, in which no node lies too deep
pub record IsSource (bytes : List ℕ) (ds : Decls) : Type 0 where
  pub tokens : List Token
  pub lexed : lexing.IsTokens bytes tokens
  pub spells : Spells tokens ds
  pub shallow : IsShallow ds

abbrev pub which_of : typing.Which → Which
which_of typing.Functions = numbers.Functions
which_of typing.Params = numbers.Params
which_of typing.Members = numbers.Members
which_of typing.Object = numbers.Object
which_of typing.Globals = numbers.Globals
which_of typing.Frame = numbers.Frame

-- what there is too much of where a source has so many nodes, and the function of this number is the first
-- in which the evaluation stack is too deep
abbrev pub unless_large : (nodes : ℕ) → (wide : Option ℕ) → Option SourceError
unless_large nodes wide = if nat_lt most_nodes nodes then Some (Limit Nodes)
    else option_map (λ f. Limit Values) wide

-- what there is too much of to make flat code of a source that is typed as this program
abbrev pub too_large : Decls → Program → Option SourceError
too_large ds p = unless_large (source_nodes ds) (first_wide 0 p.functions)

abbrev pub unless_named : Decls → Program → Bool → Option SourceError
unless_named ds p true = too_large ds p
unless_named ds p false = Some NoSuchCut

abbrev pub fault_of_annotations : (cut : List ℕ) → Decls → Program → Checked Annotated →
    Option SourceError
fault_of_annotations cut ds p (Fine a) = unless_named ds p (is_named cut a)
fault_of_annotations cut ds p (Noted n a) = unless_named ds p (is_named cut a)
fault_of_annotations cut ds p (Broken from rule) = Some (found (rules.Annotation rule) from)

-- what is wrong with a source that has a tree, by its types and their limits
abbrev pub type_fault : typing.Outcome → Option SourceError
type_fault (typing.Rule from rule) = Some (found (rules.Type rule) from)
type_fault (typing.Limit which) = Some (Limit (Types (which_of which)))
type_fault (typing.Typed p) = None

abbrev pub fault_of_types : (cut : List ℕ) → Decls → typing.Outcome → Option SourceError
fault_of_types cut ds (typing.Rule from rule) = type_fault (typing.Rule from rule)
fault_of_types cut ds (typing.Limit which) = type_fault (typing.Limit which)
fault_of_types cut ds (typing.Typed p) = fault_of_annotations cut ds p (annotations ds p)

-- what is wrong with a source that has a tree: its types, their limits, its annotations, that none names
-- the cut, or that it is too large
abbrev pub fault_of : (cut : List ℕ) → Decls → Option SourceError
fault_of cut ds = fault_of_types cut ds (outcome ds)

-- what is wrong with the bytes before any annotation is read: they aren't tokens, and this is the first rule
-- that they break; no source has the tokens, whatever the offset; a node there is held by more than 200
-- others; or it is what is wrong with the types of the source that they are
pub data IsIllTyped (bytes : List ℕ) : SourceError → Type 0 where
  no_tokens : (error : LexError) → lexing.IsLexError bytes error → IsIllTyped bytes (by_tokens error)
  no_tree : (at : ℕ) (ts : List Token) → lexing.IsTokens bytes ts → ((ds : Decls) → Spells ts ds → ⊥) →
      IsIllTyped bytes (found rules.Token at)
  too_deep : (at : ℕ) (ts : List Token) (ds : Decls) → lexing.IsTokens bytes ts → Spells ts ds →
      IsDeepAt ds at → IsIllTyped bytes (found rules.Deep at)
  mistyped : (error : SourceError) (ds : Decls) → IsSource bytes ds → type_fault (outcome ds) ≡ Some error →
      IsIllTyped bytes error

-- what is wrong with the bytes: that, whatever the cut; or what is wrong with the source that they are, which
-- is typed as this program, by its annotations, the cut or its size
pub data IsWrong (bytes cut : List ℕ) : SourceError → Type 0 where
  ill_typed : {error : SourceError} → IsIllTyped bytes error → IsWrong bytes cut error
  refused : (error : SourceError) (ds : Decls) (p : Program) → IsSource bytes ds →
      outcome ds ≡ typing.Typed p → fault_of_annotations cut ds p (annotations ds p) ≡ Some error →
      IsWrong bytes cut error

-- nothing is wrong with the source that the bytes are
pub record IsRight (bytes cut : List ℕ) : Type 0 where
  pub ds : Decls
  pub source : IsSource bytes ds
  pub right : fault_of cut ds ≡ None
