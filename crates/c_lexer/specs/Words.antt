-- The keywords (C11 6.4.1).
use Rattle.std.specs.Prelude.{ℕ, List, [], ◌∷◌, Option, nat_eq, codes}
use Rattle.std.specs.List.{find}
use Rattle.std.specs.Cmp.Lexicographic.{pointwise}
use Rattle.c_lexer.specs.declared.token.Word.{Word}
use Rattle.c_lexer.specs.declared.token.Word.TheVariants as words

-- how a keyword is spelled
abbrev pub word_text : Word → List ℕ
word_text words.Void = codes "void"
word_text words.Char = codes "char"
word_text words.Short = codes "short"
word_text words.Int = codes "int"
word_text words.Long = codes "long"
word_text words.Signed = codes "signed"
word_text words.Unsigned = codes "unsigned"
word_text words.Struct = codes "struct"
word_text words.Const = codes "const"
word_text words.Extern = codes "extern"
word_text words.Static = codes "static"
word_text words.If = codes "if"
word_text words.Else = codes "else"
word_text words.While = codes "while"
word_text words.For = codes "for"
word_text words.Do = codes "do"
word_text words.Break = codes "break"
word_text words.Continue = codes "continue"
word_text words.Return = codes "return"
word_text words.Sizeof = codes "sizeof"
word_text words.Typedef = codes "typedef"
word_text words.Enum = codes "enum"
word_text words.Union = codes "union"
word_text words.Switch = codes "switch"
word_text words.Case = codes "case"
word_text words.Default = codes "default"
word_text words.Goto = codes "goto"
word_text words.Float = codes "float"
word_text words.Double = codes "double"
word_text words.Volatile = codes "volatile"
word_text words.Register = codes "register"
word_text words.Inline = codes "inline"
word_text words.Restrict = codes "restrict"
word_text words.Auto = codes "auto"

-- every keyword
abbrev pub all_words : List Word
all_words = words.Void ∷ words.Char ∷ words.Short ∷ words.Int ∷ words.Long ∷ words.Signed ∷
    words.Unsigned ∷ words.Struct ∷ words.Const ∷ words.Extern ∷ words.Static ∷ words.If ∷ words.Else ∷
    words.While ∷ words.For ∷ words.Do ∷ words.Break ∷ words.Continue ∷ words.Return ∷ words.Sizeof ∷
    words.Typedef ∷ words.Enum ∷ words.Union ∷ words.Switch ∷ words.Case ∷ words.Default ∷ words.Goto ∷
    words.Float ∷ words.Double ∷ words.Volatile ∷ words.Register ∷ words.Inline ∷ words.Restrict ∷
    words.Auto ∷ []

-- the keyword that is spelled so, if any
unfoldable pub keyword : List ℕ → Option Word
keyword name = find (λ k. pointwise nat_eq name (word_text k)) all_words
