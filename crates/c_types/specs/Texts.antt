-- The strings of a source (C11 6.4.5).
use Rattle.std.specs.Prelude.{ℕ, List, [], ◌∷◌}
use Rattle.c_lexer.specs.declared.token.Kind.{Kind}
use Rattle.c_lexer.specs.declared.token.Kind.TheVariants as kinds
use Rattle.c_lexer.specs.declared.token.Token.{Token}
use Rattle.c_types_program.specs.declared.text.TextLiteral.{TextLiteral}

abbrev pub if_text : (from : ℕ) → Kind → List TextLiteral → List TextLiteral
if_text from (kinds.Text bytes) rest = record { from = from; bytes = bytes } ∷ rest
if_text from _ rest = rest

-- the strings among tokens, in their order
abbrev pub texts_among : List Token → List TextLiteral
texts_among [] = []
texts_among (t ∷ ts) = if_text t.from t.kind (texts_among ts)
