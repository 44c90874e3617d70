use Rattle.std.proofs.Common.{sym, ◌∙◌, arith}
use Rattle.c_lexer.specs.Texts.{string_at}
use Rattle.c_lexer.proofs.Parts.{byte_in}
use Rattle.c_lexer.proofs.Strings.{string_on, string_close, string_open, string_bad}
use Rattle.c_lexer.proofs.quoted.read_string.Goals as goal

pub split_at-requires : goal.split_at-requires
split_at-requires c = (byte_in 34 c.loop-byte.rest.now _ _ (sym c.part_at.ensures ∙ c.in-Byte.is)).1

pub loop-byte-smaller : goal.loop-byte-smaller
loop-byte-smaller c = let i = byte_in 34 c.loop-byte.rest.now _ _ (sym c.part_at.ensures ∙ c.in-Byte.is) in omega arith

pub loop-byte-preserved : goal.loop-byte-preserved
loop-byte-preserved c = record {
  goes_on = rw (c.split_at.ensures.back, c.in_ok-put-in-Byte.ensures) (string_on c.loop-byte.rest.now c.loop-byte.values.items c.loop-byte.len _ _ _ (sym c.part_at.ensures ∙ c.in-Byte.is) c.loop-byte.invariant.goes_on);
  place = omega arith;
}

pub returns-in-Close : goal.returns-in-Close
unfolding string_at
returns-in-Close c = rw c.in_ok-from_vec-in-Close.ensures.bytes (string_close c.loop-byte.rest.now c.loop-byte.values.items c.loop-byte.len _ (sym c.part_at.ensures ∙ c.in-Close.is) c.loop-byte.invariant.goes_on)

pub returns-in-Open : goal.returns-in-Open
unfolding string_at
returns-in-Open c = string_open c.loop-byte.rest.now c.loop-byte.values.items c.loop-byte.len _ (sym c.part_at.ensures ∙ c.in-Open.is) c.loop-byte.invariant.goes_on

pub returns-in-Bad : goal.returns-in-Bad
unfolding string_at
returns-in-Bad c = string_bad c.loop-byte.rest.now c.loop-byte.values.items c.loop-byte.len _ (sym c.part_at.ensures ∙ c.in-Bad.is) c.loop-byte.invariant.goes_on
