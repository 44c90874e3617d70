-- What the errors of the parts say of a source.
use Rattle.std.proofs.Common.{◌≡◌, ◌≢◌, ◌↔◌, ℕ, List, Some, Result, Ok, Err, sym, ◌∙◌, ap, refl}
use Rattle.std.specs.Result.{IsErrOf}
use Rattle.c_lexer.specs.declared.error.LexError.{LexError}
use Rattle.c_lexer.specs.declared.error.LexError.TheVariants as lexing
use Rattle.c_lexer.specs.declared.token.Token.{Token}
use Rattle.c_lexer.specs.Lexing as tokens
use Rattle.c_syntax.specs.Nodes.{Nodes}
use Rattle.c_syntax.specs.Syntax.{Decls}
use Rattle.c_parser.specs.declared.parsing.ParseError.{ParseError}
use Rattle.c_parser.specs.declared.parsing.ParseError.TheVariants as parsing
use Rattle.c_parser.specs.Parsed as grammar
use Rattle.c_types_rules.specs.Checked.{Checked, Fine, Noted, Broken}
use Rattle.c_types_rules.specs.Limits as limits
use Rattle.c_types_rules.specs.Limits.{Outcome, outcome}
use Rattle.c_types_rules.specs.Sources.{Program}
use Rattle.c_types_program.specs.declared.text.TextLiteral.{TextLiteral}
use Rattle.annot_reader_rules.specs.Cuts.{annotations}
use Rattle.annot_reader_rules.specs.Notes.{Annotated}
use Rattle.c_types.specs.declared.error.CheckError.{CheckError}
use Rattle.c_types.specs.declared.error.CheckError.TheVariants as typing
use Rattle.c_types.specs.declared.error.Which.{Which}
use Rattle.c_types.specs.declared.error.Which.TheVariants as numbers
use Rattle.c_types_source.specs.declared.parts.Parts.{Parts as TypedSource}
use Rattle.c_types_source.specs.Sources.{IsTypedSource}
use Rattle.c_types.specs.Answers.{IsChecked, which_in}
use Rattle.annot_reader.specs.declared.error.InterfaceError.{InterfaceError}
use Rattle.annot_reader.specs.declared.error.InterfaceError.TheVariants as reading
use Rattle.annot_reader.specs.Interface.{Interface}
use Rattle.annot_reader.specs.Interfaces.{IsInterface}
use Rattle.front_end.specs.declared.error.SourceError.{SourceError}
use Rattle.front_end.specs.declared.error.SourceError.TheVariants as errors
use Rattle.front_end.specs.declared.error.SourceLimit.TheVariants.{Types}
use Rattle.front_end.specs.declared.error.SourceRule.TheVariants as rules
use Rattle.front_end.specs.Answers.{IsSourceError, IsTooLarge, IsTypeError}
use Rattle.front_end.specs.Errors.{by_annotations, by_grammar, by_tokens, by_types, found}
use Rattle.front_end.specs.Sources.{IsSource, fault_of, fault_of_annotations, fault_of_types, ill_typed, mistyped, no_tokens, no_tree, too_deep, too_large, type_fault, refused, unless_named, which_of}

-- ---- tokens and grammar

-- an error of which it is said exactly when it comes
abbrev Exactly : Type 0 → List ℕ → LexError → LexError → Type 0
Exactly T text error e = ◌≢◌ {A = Result T LexError} (Err error) (Err lexing.Memory) → (IsErrOf {T = T} (Err error) e ↔ tokens.IsLexError text e)

pub by_lexing : {T : Type 0} (bytes : List ℕ) (error : LexError)
    → ((n : ℕ) → Exactly T bytes error (lexing.BadByte n)) → ((n : ℕ) → Exactly T bytes error (lexing.OpenText n))
    → ((n : ℕ) → Exactly T bytes error (lexing.BigNumber n)) → ((n : ℕ) → Exactly T bytes error (lexing.Directive n))
    → IsTypeError bytes (by_tokens error)
by_lexing bytes (lexing.BadByte n) byte open_text number directive = no_tokens (lexing.BadByte n) ((byte n (λ k. cc)).0 refl)
by_lexing bytes (lexing.OpenText n) byte open_text number directive = no_tokens (lexing.OpenText n) ((open_text n (λ k. cc)).0 refl)
by_lexing bytes (lexing.BigNumber n) byte open_text number directive = no_tokens (lexing.BigNumber n) ((number n (λ k. cc)).0 refl)
by_lexing bytes (lexing.Directive n) byte open_text number directive = no_tokens (lexing.Directive n) ((directive n (λ k. cc)).0 refl)
by_lexing bytes lexing.Memory byte open_text number directive = tt

pub by_parsing : (bytes : List ℕ) (ts : List Token) (error : ParseError) → tokens.IsTokens bytes ts → grammar.IsParseError ts error → IsTypeError bytes (by_grammar error)
by_parsing bytes ts (parsing.Token at) lexed none = no_tree at ts lexed none
by_parsing bytes ts (parsing.Deep at) lexed deep = too_deep at ts deep.0 lexed deep.1 deep.2
by_parsing bytes ts parsing.Memory lexed none = tt

-- ---- types

same_number : (w : Which) → which_of (which_in w) ≡ w
same_number numbers.Functions = refl
same_number numbers.Params = refl
same_number numbers.Members = refl
same_number numbers.Object = refl
same_number numbers.Globals = refl
same_number numbers.Frame = refl

broken_types : (bytes : List ℕ) (ds : Decls) (texts : List TextLiteral) (N : Nodes) (o : Outcome) (error : CheckError)
    → outcome ds ≡ o → IsSource bytes ds → IsChecked texts N ds o (Err error) → IsTypeError bytes (by_types error)
broken_types bytes ds texts N o typing.Memory same source is = tt
broken_types bytes ds texts N (limits.Rule from rule) (typing.Rule f r) same source is =
    mistyped (found (rules.Type r) f) ds source
    (ap type_fault same ∙ ap (λ (n : ℕ). Some (found (rules.Type rule) n)) (sym is.0) ∙ ap (λ (n : ℕ). Some (found (rules.Type n) f)) (sym is.1))
broken_types bytes ds texts N (limits.Rule from rule) (typing.Limit v) same source is = absurd is
broken_types bytes ds texts N (limits.Limit w) (typing.Limit v) same source is =
    mistyped (errors.Limit (Types v)) ds source
    (ap type_fault same ∙ ap (λ (n : limits.Which). Some (errors.Limit (Types (which_of n)))) (sym is) ∙ ap (λ (n : Which). Some (errors.Limit (Types n))) (same_number v))
broken_types bytes ds texts N (limits.Limit w) (typing.Rule f r) same source is = absurd is
broken_types bytes ds texts N (limits.Typed p) (typing.Rule f r) same source is = absurd is
broken_types bytes ds texts N (limits.Typed p) (typing.Limit v) same source is = absurd is

pub by_typing : (bytes : List ℕ) (ds : Decls) (texts : List TextLiteral) (N : Nodes) (error : CheckError)
    → IsSource bytes ds → IsChecked texts N ds (outcome ds) (Err error) → IsTypeError bytes (by_types error)
by_typing bytes ds texts N error source is = broken_types bytes ds texts N (outcome ds) error refl source is

typed_program : (ds : Decls) (texts : List TextLiteral) (N : Nodes) (o : Outcome) (s : TypedSource) → outcome ds ≡ o → IsChecked texts N ds o (Ok s)
    → (p : Program) × IsTypedSource ds p s × (s.texts ≡ texts)
typed_program ds texts N (limits.Typed p) s same is = (p, is.0, is.2)
typed_program ds texts N (limits.Rule from rule) s same is = absurd is
typed_program ds texts N (limits.Limit w) s same is = absurd is

-- a source that is typed is so as a program
pub program_of : (ds : Decls) (texts : List TextLiteral) (N : Nodes) (s : TypedSource) → IsChecked texts N ds (outcome ds) (Ok s)
    → (p : Program) × IsTypedSource ds p s × (s.texts ≡ texts)
program_of ds texts N s is = typed_program ds texts N (outcome ds) s refl is

-- what is wrong with the bytes by their types is so, whatever the cut
pub for_each_cut : (bytes cut : List ℕ) (error : SourceError) → IsTypeError bytes error → IsSourceError bytes cut error
for_each_cut bytes cut (errors.Fault f) is = ill_typed is
for_each_cut bytes cut errors.NoSuchCut is = ill_typed is
for_each_cut bytes cut (errors.Limit l) is = ill_typed is
for_each_cut bytes cut errors.Memory is = tt

-- ---- annotations

broken_annotations : (cut : List ℕ) (ds : Decls) (p : Program) (c : Checked Annotated) (f r : ℕ) → IsInterface cut c (Err (reading.Rule f r)) → fault_of_annotations cut ds p c ≡ Some (found (rules.Annotation r) f)
broken_annotations cut ds p (Broken from rule) f r is = ap (λ (n : ℕ). Some (found (rules.Annotation rule) n)) (sym is.0) ∙ ap (λ (n : ℕ). Some (found (rules.Annotation n) f)) (sym is.1)
broken_annotations cut ds p (Fine a) f r is = absurd is
broken_annotations cut ds p (Noted n a) f r is = absurd is

no_cut : (cut : List ℕ) (ds : Decls) (p : Program) (c : Checked Annotated) → IsInterface cut c (Err reading.NoSuchCut) → fault_of_annotations cut ds p c ≡ Some errors.NoSuchCut
no_cut cut ds p (Fine a) is = ap (unless_named ds p) is
no_cut cut ds p (Noted n a) is = ap (unless_named ds p) is
no_cut cut ds p (Broken from rule) is = absurd is

pub by_reading : (bytes cut : List ℕ) (ds : Decls) (p : Program) (error : InterfaceError) → outcome ds ≡ limits.Typed p → IsSource bytes ds
    → IsInterface cut (annotations ds p) (Err error) → IsSourceError bytes cut (by_annotations error)
by_reading bytes cut ds p (reading.Rule f r) same source is =
    refused (found (rules.Annotation r) f) ds p source same (broken_annotations cut ds p (annotations ds p) f r is)
by_reading bytes cut ds p reading.NoSuchCut same source is = refused errors.NoSuchCut ds p source same (no_cut cut ds p (annotations ds p) is)
by_reading bytes cut ds p reading.Memory same source is = tt

-- where the interface of the cut was read, nothing else can be wrong than that the source is too large
pub named : (cut : List ℕ) (ds : Decls) (p : Program) (c : Checked Annotated) (i : Interface) → IsInterface cut c (Ok i) → fault_of_annotations cut ds p c ≡ too_large ds p
named cut ds p (Fine a) i is = ap (unless_named ds p) is.1
named cut ds p (Noted n a) i is = ap (unless_named ds p) is.1
named cut ds p (Broken from rule) i is = absurd is

-- the same of the declarations
pub read : (cut : List ℕ) (ds : Decls) (p : Program) (i : Interface) → outcome ds ≡ limits.Typed p → IsInterface cut (annotations ds p) (Ok i) → fault_of cut ds ≡ too_large ds p
read cut ds p i same is = ap (fault_of_types cut ds) same ∙ named cut ds p (annotations ds p) i is

-- ---- code

pub by_size : (bytes cut : List ℕ) (ds : Decls) (p : Program) (error : SourceError) → IsSource bytes ds → outcome ds ≡ limits.Typed p
    → fault_of_annotations cut ds p (annotations ds p) ≡ too_large ds p → IsTooLarge ds p error → IsSourceError bytes cut error
by_size bytes cut ds p (errors.Fault f) source typed same is = refused (errors.Fault f) ds p source typed (same ∙ is)
by_size bytes cut ds p errors.NoSuchCut source typed same is = refused errors.NoSuchCut ds p source typed (same ∙ is)
by_size bytes cut ds p (errors.Limit l) source typed same is = refused (errors.Limit l) ds p source typed (same ∙ is)
by_size bytes cut ds p errors.Memory source typed same is = tt
