-- A source has no more tokens than bytes, and no more strings than tokens.
use Rattle.std.proofs.Common.{ℕ, suc, ◌+◌, ◌≤◌, List, [], ◌∷◌, length, arith}
use Rattle.c_lexer.specs.declared.token.Kind.{Kind}
use Rattle.c_lexer.specs.declared.token.Kind.TheVariants as kinds
use Rattle.c_lexer.specs.declared.token.Token.{Token}
use Rattle.c_lexer.specs.Lexing.{InOrder}
use Rattle.c_types_program.specs.declared.text.TextLiteral.{TextLiteral}
use Rattle.c_types.specs.Texts.{if_text, texts_among}

-- each token has a byte at least
pub few_tokens : (ts : List Token) (at end : ℕ) → InOrder at ts end → at + length ts ≤ end
few_tokens [] at end h = omega (arith, h)
few_tokens (t ∷ ts) at end h = let rest = few_tokens ts t.to end h.2 in omega (arith, h.0, h.1, rest)

one_text : (from : ℕ) (k : Kind) (rest : List TextLiteral) → length (if_text from k rest) ≤ suc (length rest)
one_text from (kinds.Name name) rest = omega arith
one_text from (kinds.Word word) rest = omega arith
one_text from (kinds.Number suffix decimal value) rest = omega arith
one_text from (kinds.Char value) rest = omega arith
one_text from (kinds.Text bytes) rest = omega arith
one_text from (kinds.Sign sign) rest = omega arith

pub few_texts : (ts : List Token) → length (texts_among ts) ≤ length ts
few_texts [] = omega arith
few_texts (t ∷ ts) = let rest = few_texts ts in omega (arith, rest, one_text t.from t.kind (texts_among ts))
