-- What is asked of one byte.
use Rattle.std.specs.Prelude.{Bool, true, false}
use Rattle.marks.specs.Bytes.{Cell, Dead, Live, Held}

-- it is in no live object
abbrev pub is_dead : Cell → Bool
is_dead Dead = true
is_dead (Live v) = false
is_dead (Held v) = false

-- it is pending
abbrev pub is_held : Cell → Bool
is_held Dead = false
is_held (Live v) = false
is_held (Held v) = true
