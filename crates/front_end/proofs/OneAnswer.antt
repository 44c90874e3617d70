-- The bytes of a source decide what is wrong with it, but for the place at which tokens are refused.
use Rattle.std.proofs.Common.{◌≡◌, ℕ, List, Some, None, sym, ◌∙◌, ap, subst, arith}
use Rattle.c_lexer.specs.declared.token.Token.{Token}
use Rattle.c_lexer.specs.declared.error.LexError.{LexError}
use Rattle.c_lexer.specs.Lexing.{Whole, Stopped, IsTokens, IsLexError}
use Rattle.c_lexer.proofs.Readings as reading
use Rattle.c_syntax.specs.Syntax.{Decls}
use Rattle.c_syntax.specs.Sources.{Spells}
use Rattle.c_syntax.specs.Depth.{LieDecls}
use Rattle.c_parser_actions.proofs.Exact as grammar
use Rattle.c_types_rules.specs.Limits as limits
use Rattle.c_types_rules.specs.Limits.{Outcome, outcome}
use Rattle.front_end.specs.declared.error.SourceError.{SourceError}
use Rattle.front_end.specs.declared.source.CountedSource.{CountedSource}
use Rattle.front_end.specs.Answers.{IsWellTyped}
use Rattle.front_end.specs.Errors.{by_tokens}
use Rattle.front_end.specs.Same as alike
use Rattle.front_end.specs.Same.{SameError}
use Rattle.front_end.specs.Sources.{IsIllTyped, IsSource, IsWrong, IsRight, fault_of, fault_of_types, ill_typed, mistyped, no_tokens, no_tree, too_deep, refused, type_fault}

-- ---- tokens and declarations

same_tokens : (bytes : List ℕ) (ts us : List Token) → IsTokens bytes ts → IsTokens bytes us → ts ≡ us
same_tokens bytes ts us x y = (reading.one x y).0

not_both : (bytes : List ℕ) (ts : List Token) (e : LexError) → IsTokens bytes ts → IsLexError bytes e → ⊥
not_both bytes ts e x y = absurd (let same : Whole ≡ Stopped e = (reading.one x y.1).1 in cc)

same_error : (bytes : List ℕ) (e f : LexError) → IsLexError bytes e → IsLexError bytes f → e ≡ f
same_error bytes e f x y = let same : Stopped e ≡ Stopped f = (reading.one x.1 y.1).1 in cc

spells_same : (bytes : List ℕ) (ts us : List Token) (ds : Decls) → IsTokens bytes ts → IsTokens bytes us → Spells ts ds → Spells us ds
spells_same bytes ts us ds x y spells = subst (λ (w : List Token). Spells w ds) (same_tokens bytes ts us x y) spells

-- the bytes are one source at most
pub one_source : (bytes : List ℕ) (ds es : Decls) → IsSource bytes ds → IsSource bytes es → ds ≡ es
one_source bytes ds es x y = grammar.one x.tokens ds es x.spells (spells_same bytes y.tokens x.tokens es y.lexed x.lexed y.spells)

-- ---- what is wrong, against that there is a source

no_types : (bytes : List ℕ) {e : SourceError} (ds : Decls) → IsSource bytes ds → IsIllTyped bytes e → type_fault (outcome ds) ≡ Some e
no_types bytes ds x (no_tokens error is) = absurd (not_both bytes x.tokens error x.lexed is)
no_types bytes ds x (no_tree at ts is none) = absurd (none ds (spells_same bytes x.tokens ts ds x.lexed is x.spells))
no_types bytes ds x (too_deep at ts es is has below) =
    let same : es ≡ ds = grammar.one ts es ds has (spells_same bytes x.tokens ts ds x.lexed is x.spells) in
    let lies : LieDecls ds below.0 at = subst (λ (fs : Decls). LieDecls fs below.0 at) same below.2 in
    absurd (omega (arith, below.1, x.shallow below.0 at lies))
no_types bytes ds x (mistyped error es y is) = ap (λ (fs : Decls). type_fault (outcome fs)) (one_source bytes ds es x y) ∙ is

by_types : (cut : List ℕ) (ds : Decls) (o : Outcome) (e : SourceError) → type_fault o ≡ Some e → fault_of_types cut ds o ≡ Some e
by_types cut ds (limits.Rule from rule) e is = is
by_types cut ds (limits.Limit which) e is = is
by_types cut ds (limits.Typed p) e is = absurd (let never : None ≡ Some e = is in cc)

no_source : (bytes cut : List ℕ) {e : SourceError} (ds : Decls) → IsSource bytes ds → IsWrong bytes cut e → fault_of cut ds ≡ Some e
no_source bytes cut ds x (ill_typed {error} is) = by_types cut ds (outcome ds) error (no_types bytes ds x is)
no_source bytes cut ds x (refused error es p y typed is) = ap (fault_of cut) (one_source bytes ds es x y) ∙ ap (fault_of_types cut es) typed ∙ is

-- a source that is well typed isn't ill typed
pub not_ill_typed : (bytes : List ℕ) (s : CountedSource) (e : SourceError) → IsWellTyped bytes s → IsIllTyped bytes e → ⊥
not_ill_typed bytes s e w is = absurd (let never : None ≡ Some e = sym (ap type_fault w.typed.is.typed) ∙ no_types bytes w.ds w.source is in cc)

-- a source with which nothing is wrong isn't wrong
pub not_wrong : (bytes cut : List ℕ) (e : SourceError) → IsRight bytes cut → IsWrong bytes cut e → ⊥
not_wrong bytes cut e r w = absurd (let never : None ≡ Some e = sym r.right ∙ no_source bytes cut r.ds r.source w in cc)

equal : (e f : SourceError) → Some e ≡ Some f → SameError e f
equal e f both = let same : e ≡ f = cc in subst (λ (g : SourceError). SameError e g) same alike.same

turned : (e f : SourceError) → SameError e f → SameError f e
turned e f alike.same = alike.same
turned e f (alike.no_tree n m) = alike.no_tree m n
turned e f (alike.too_deep n m) = alike.too_deep m n

-- the bytes are ill typed in one way at most
pub one_type_error : {bytes : List ℕ} {e f : SourceError} → IsIllTyped bytes e → IsIllTyped bytes f → SameError e f
one_type_error {bytes} (mistyped e ds x is) w = equal e _ (sym is ∙ no_types bytes ds x w)
one_type_error {bytes} w (mistyped f ds x is) = turned f _ (equal f _ (sym is ∙ no_types bytes ds x w))
one_type_error {bytes} (no_tokens a is) (no_tokens b it) = subst (λ (g : SourceError). SameError (by_tokens a) g) (ap by_tokens (same_error bytes a b is it)) alike.same
one_type_error {bytes} (no_tokens a is) (no_tree n ts it none) = absurd (not_both bytes ts a it is)
one_type_error {bytes} (no_tokens a is) (too_deep n ts ds it has below) = absurd (not_both bytes ts a it is)
one_type_error {bytes} (no_tree n ts is none) (no_tokens b it) = absurd (not_both bytes ts b is it)
one_type_error {bytes} (no_tree n ts is none) (no_tree m us it nothing) = alike.no_tree n m
one_type_error {bytes} (no_tree n ts is none) (too_deep m us ds it has below) = absurd (none ds (spells_same bytes us ts ds it is has))
one_type_error {bytes} (too_deep n ts ds is has below) (no_tokens b it) = absurd (not_both bytes ts b is it)
one_type_error {bytes} (too_deep n ts ds is has below) (no_tree m us it none) = absurd (none ds (spells_same bytes ts us ds is it has))
one_type_error {bytes} (too_deep n ts ds is has below) (too_deep m us es it had under) = alike.too_deep n m

-- the bytes are wrong in one way at most
pub one_error : {bytes cut : List ℕ} {e f : SourceError} → IsWrong bytes cut e → IsWrong bytes cut f → SameError e f
one_error (ill_typed x) (ill_typed y) = one_type_error x y
one_error {bytes} {cut} (refused e ds p x typed is) w = equal e _ (sym (ap (fault_of_types cut ds) typed ∙ is) ∙ no_source bytes cut ds x w)
one_error {bytes} {cut} w (refused f ds p x typed is) = turned f _ (equal f _ (sym (ap (fault_of_types cut ds) typed ∙ is) ∙ no_source bytes cut ds x w))
