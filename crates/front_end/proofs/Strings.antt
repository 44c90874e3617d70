-- That of tokens only the strings are wanted, once there is a tree.
use Rattle.std.proofs.Common.{◌≡◌, ◌∙◌, ℕ, Bool, true, false, if◌then◌else◌, List, [], ◌∷◌, ap, refl}
use Rattle.std.specs.List.{filter}
use Rattle.c_lexer.specs.declared.token.Kind.{Kind}
use Rattle.c_lexer.specs.declared.token.Kind.TheVariants as kinds
use Rattle.c_lexer.specs.declared.token.Token.{Token}
use Rattle.c_syntax.specs.Syntax.{Decls}
use Rattle.c_types_source.specs.declared.parts.Parts.{Parts as TypedSource}
use Rattle.c_types.specs.Texts.{if_text, texts_among}
use Rattle.front_end.specs.Answers.{IsTyped}

-- a source is typed as with other tokens that have the same strings
pub typed_by : {us ts : List Token} {ds : Decls} {s : TypedSource} → texts_among us ≡ texts_among ts → IsTyped us ds s → IsTyped ts ds s
typed_by same t = record { program = t.program; is = t.is; texts = t.texts ∙ same }

abbrev text_test : Kind → Bool
text_test (kinds.Text bytes) = true
text_test _ = false

-- the token is a string
abbrev pub is_text : Token → Bool
is_text t = text_test t.kind

one : (k : Kind) (from to : ℕ) (kept rest : List Token) → texts_among kept ≡ texts_among rest → texts_among (if text_test k then (let t : Token = record { kind = k; from = from; to = to } in t) ∷ kept else kept) ≡ if_text from k (texts_among rest)
one (kinds.Name name) from to kept rest h = h
one (kinds.Word word) from to kept rest h = h
one (kinds.Number suffix decimal value) from to kept rest h = h
one (kinds.Char value) from to kept rest h = h
one (kinds.Text bytes) from to kept rest h = ap (if_text from (kinds.Text bytes)) h
one (kinds.Sign sign) from to kept rest h = h

-- tokens have the same strings without those that are none
pub same_texts : (ts : List Token) → texts_among (filter is_text ts) ≡ texts_among ts
same_texts [] = refl
same_texts (t ∷ ts) = one t.kind t.from t.to (filter is_text ts) ts (same_texts ts)
