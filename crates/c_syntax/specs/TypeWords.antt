-- The words of one type, in any order (C11 6.7.2).
use Rattle.std.specs.Prelude.{ℕ, Bool, true, false, List, Option, Some, None}
use Rattle.c_lexer.specs.declared.token.Word.{Word}
use Rattle.c_lexer.specs.declared.token.Word.TheVariants as words
use Rattle.c_syntax.specs.declared.declaration.Base.{Base}
use Rattle.c_syntax.specs.declared.declaration.Base.TheVariants as bases
use Rattle.c_syntax.specs.declared.specifier.Core.{Core}
use Rattle.c_syntax.specs.declared.specifier.Core.TheVariants as cores
use Rattle.c_syntax.specs.declared.specifier.Signedness.{Signedness}
use Rattle.c_syntax.specs.declared.specifier.Signedness.TheVariants as signedness
use Rattle.c_syntax.specs.declared.specifier.Specifiers.{Specifiers}

-- no word yet
abbrev pub no_words : Specifiers
no_words = record { core = cores.Absent; sign = signedness.Absent; storage = false }

-- the words so far with one more that is neither signed nor unsigned, where a type can have them all
abbrev pub with_core : Core → Word → Option Core
with_core cores.Absent words.Void = Some cores.Void
with_core cores.Absent words.Char = Some cores.Char
with_core cores.Absent words.Short = Some cores.Short
with_core cores.Absent words.Int = Some cores.Int
with_core cores.Absent words.Long = Some cores.Long
with_core cores.Short words.Int = Some cores.ShortInt
with_core cores.Int words.Short = Some cores.ShortInt
with_core cores.Long words.Int = Some cores.LongInt
with_core cores.Int words.Long = Some cores.LongInt
with_core _ _ = None

abbrev pub put_core : Specifiers → Option Core → Option Specifiers
put_core s None = None
put_core s (Some c) = Some (record s { core = c })

abbrev pub put_sign : Specifiers → Signedness → Signedness → Option Specifiers
put_sign s signedness.Absent g = Some (record s { sign = g })
put_sign s _ g = None

abbrev pub put_storage : Specifiers → Bool → Option Specifiers
put_storage s true = None
put_storage s false = Some (record s { storage = true })

-- the words so far with one more: const any number of times, one of extern and static at most
abbrev pub with_word : Specifiers → Word → Option Specifiers
with_word s words.Const = Some s
with_word s words.Signed = put_sign s s.sign signedness.Signed
with_word s words.Unsigned = put_sign s s.sign signedness.Unsigned
with_word s words.Extern = put_storage s s.storage
with_word s words.Static = put_storage s s.storage
with_word s w = put_core s (with_core s.core w)

abbrev pub tag_core : Core → List ℕ → Option Core
tag_core cores.Absent n = Some (cores.Struct n)
tag_core _ n = None

-- the words so far with struct and its name
abbrev pub with_tag : Specifiers → List ℕ → Option Specifiers
with_tag s n = put_core s (tag_core s.core n)

abbrev is_signed : Signedness → Bool
is_signed signedness.Unsigned = false
is_signed _ = true

abbrev alone : Base → Signedness → Option Base
alone b signedness.Absent = Some b
alone b _ = None

abbrev sign_alone : Signedness → Option Base
sign_alone signedness.Absent = None
sign_alone s = Some (bases.Int 4 (is_signed s))

abbrev core_base : Core → Signedness → Option Base
core_base cores.Absent s = sign_alone s
core_base cores.Void s = alone bases.Void s
core_base cores.Char s = Some (bases.Int 1 (is_signed s))
core_base cores.Short s = Some (bases.Int 2 (is_signed s))
core_base cores.ShortInt s = Some (bases.Int 2 (is_signed s))
core_base cores.Int s = Some (bases.Int 4 (is_signed s))
core_base cores.Long s = Some (bases.Int 8 (is_signed s))
core_base cores.LongInt s = Some (bases.Int 8 (is_signed s))
core_base (cores.Struct n) s = alone (bases.Struct n) s

-- the type that the words make, where they make one
abbrev pub base_of : Specifiers → Option Base
base_of s = core_base s.core s.sign
