use Rattle.std.proofs.Common.{sym, ◌∙◌}
use Rattle.c_lexer.proofs.Parts.{byte_in}
use Rattle.c_lexer.proofs.quoted.read_character.Goals as goal

pub split_at-requires : goal.split_at-requires
split_at-requires c = (byte_in 39 c.args.bytes.now _ _ (sym c.part_at.ensures ∙ c.in-Byte.is)).1
