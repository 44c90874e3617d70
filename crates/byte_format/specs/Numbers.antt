-- How a format reads and spells its numbers: a format takes both as an argument, so that its versions
-- differ here alone.
use Rattle.std.specs.Prelude.{ℕ, ◌+◌, ◌*◌, ◌/◌, true, false, List}
use Rattle.std.specs.Int.{Width, byte_len, to_be_bytes}
use Rattle.byte_format.specs.Spelling.{varint_text}
use Rattle.byte_format.specs.Reading.{Reading, number_at, some_at}
use Rattle.byte_format.specs.Varint.{varint_at}

pub record Numbers : Type 0 where
  -- the spelling of a number of the width
  pub text : Width → ℕ → List ℕ
  -- its reader
  pub at : Width → List ℕ → Reading ℕ
  -- the reader of a number of 16 bits that is not 0
  pub some_at : List ℕ → Reading ℕ

-- numbers of fixed width, the high byte first
abbrev pub fixed : Numbers
fixed = record { text = to_be_bytes; at = number_at; some_at = some_at }

-- how many groups of seven bits a number of the width has at most
abbrev pub groups : Width → ℕ
groups w = (8 * byte_len w + 6) / 7

-- numbers in groups of seven bits, the low group first, no longer than they must be
abbrev pub grouped : Numbers
grouped = record {
  text = λ w n. varint_text (groups w) n;
  at =
      λ w. varint_at (groups w) (8 * byte_len w) true;
  some_at = varint_at 3 16 false;
}
