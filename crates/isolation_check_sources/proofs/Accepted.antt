-- What an accepted source says of its strings and globals.
use Rattle.std.proofs.Common.{◌≡◌, ℕ, ◌<◌, ◌≤◌, ◌^◌, List, [], ◌∷◌, length, Some, refl, sym, ap, ◌∙◌, subst, arith}
use Rattle.std.specs.List.{All}
use Rattle.std.specs.Prelude.{slice_get}
use Rattle.source_limits.specs.Limits.{greatest_object, most_bytes}
use Rattle.c_lexer.specs.declared.token.Kind.{Kind}
use Rattle.c_lexer.specs.declared.token.Kind.TheVariants as kinds
use Rattle.c_lexer.specs.declared.token.Token.{Token}
use Rattle.c_lexer.specs.Lexing.{IsTokens}
use Rattle.c_lexer_laws.specs.Strings.{if_string, spelled, strings_among}
use Rattle.c_syntax.specs.Syntax.{Decls}
use Rattle.c_types_rules.specs.Limits as limits
use Rattle.c_types_rules.specs.Limits.{Outcome, Typed, globals_end, outcome}
use Rattle.c_types_rules.specs.Sources.{Program}
use Rattle.c_types_program.specs.declared.text.TextLiteral.{TextLiteral}
use Rattle.c_types_program.specs.Declarations.{Declared}
use Rattle.c_types_program.specs.Programs.{IsProgram, program_in}
use Rattle.c_types.specs.Texts.{if_text, texts_among}
use Rattle.c_lower_laws.specs.Fits.{IsFit}
use Rattle.c_lower.proofs.Short.{numbers}
use Rattle.front_end.specs.declared.source.CheckedSource.{CheckedSource}
use Rattle.front_end.specs.Answers.{IsAccepted, SaysOf}
use Rattle.isolation_check_rules.specs.Places.{global_extents}
use Rattle.isolation_check_laws.specs.Fits.{Divides, FitsAreas}
use Rattle.isolation_check_images.specs.Given.{HasPlaces}
use Rattle.isolation_check.specs.Literals.{strings_in}
use Rattle.isolation_check.specs.Objects.{CanBePlaced}
use Rattle.isolation_check_sources.proofs.Members.{typed_has_few}

-- ---- the strings of a program are those among its tokens

one_string : (from : ℕ) (k : Kind) (rest : List TextLiteral) → strings_in (if_text from k rest) ≡ if_string k (strings_in rest)
one_string from (kinds.Name name) rest = refl
one_string from (kinds.Word word) rest = refl
one_string from (kinds.Number suffix decimal value) rest = refl
one_string from (kinds.Char value) rest = refl
one_string from (kinds.Text bytes) rest = refl
one_string from (kinds.Sign sign) rest = refl

same_strings : (ts : List Token) → strings_in (texts_among ts) ≡ strings_among ts
same_strings [] = refl
same_strings (t ∷ ts) = one_string t.from t.kind (texts_among ts) ∙ ap (if_string t.kind) (same_strings ts)

few_strings : (texts : List TextLiteral) → length texts ≤ spelled (strings_in texts)
few_strings [] = omega arith
few_strings (t ∷ ts) = let rest = few_strings ts in omega arith

-- ---- accepted sources

-- the program that an accepted source is typed as
record IsTypedAs (ds : Decls) (ts : List Token) (c : CheckedSource) : Type 0 where
  program : Program
  typed : outcome ds ≡ Typed program
  is : IsProgram c.program program
  texts : c.program.texts ≡ texts_among ts

typed_as : (cut : List ℕ) (ds : Decls) (ts : List Token) (c : CheckedSource) (o : Outcome) → outcome ds ≡ o → SaysOf cut ts ds o c → IsTypedAs ds ts c
typed_as cut ds ts c (limits.Typed p) e says = record { program = p; typed = e; is = says.0; texts = says.1 }
typed_as cut ds ts c (limits.Rule from rule) e says = absurd says
typed_as cut ds ts c (limits.Limit w) e says = absurd says

-- 32 bits are enough for the places of members
enough : (ds : Decls) (p : Program) (d : Declared) → outcome ds ≡ Typed p → IsProgram d p → HasPlaces d
enough ds p d typed is k s e =
    let here : slice_get p.structs k ≡ Some s = ap (λ (r : Program). slice_get r.structs k) (sym is) ∙ e in
    let few = typed_has_few ds p typed k s here in
    omega (arith, few)

module _ (spells : (source : List ℕ) (ts : List Token) → IsTokens source ts → spelled (strings_among ts) ≤ length source)
    (fit : (ds : Decls) (p : Program) (d : Declared) → outcome ds ≡ Typed p → IsProgram d p → IsFit d)
    (small : (ds : Decls) (p : Program) → outcome ds ≡ Typed p → globals_end p ≤ greatest_object)
    (aligned : (ds : Decls) (p : Program) → outcome ds ≡ Typed p → All Divides (global_extents p)) where
  pub placeable : (bytes cut : List ℕ) (c : CheckedSource) → length bytes ≤ most_bytes → IsAccepted bytes cut c → CanBePlaced c.program
  placeable bytes cut c few a =
      let ds = a.right.ds in
      let ts = a.right.source.tokens in
      let t = typed_as cut ds ts c (outcome ds) refl a.says in
      let strings : strings_in c.program.texts ≡ strings_among ts = ap strings_in t.texts ∙ same_strings ts in
      let short : spelled (strings_in c.program.texts) ≤ greatest_object = omega (arith, ap spelled strings, spells bytes ts a.right.source.lexed, few) in
      let texts : length c.program.texts < 2 ^ 32 = omega (arith, few_strings c.program.texts, short) in
      let here : FitsAreas (program_in c.program t.program.names) (strings_in c.program.texts) =
      subst (λ (p : Program). FitsAreas p (strings_in c.program.texts)) (sym t.is) (record { short = short; small = small ds t.program t.typed; aligned = aligned ds t.program t.typed }) in
      record {
        numbers = numbers c.program (fit ds t.program c.program t.typed t.is) texts;
        places = enough ds t.program c.program t.typed t.is;
        fits = record { short = short; small = here.small; aligned = here.aligned };
      }
