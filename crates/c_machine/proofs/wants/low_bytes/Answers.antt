use Rattle.std.proofs.Common.{◌%◌, bit_and, ap, ◌∙◌}
use Rattle.std.proofs.lemmas.Nat.{and_mask}
use Rattle.r2_num.specs.Kinds.{width_of}
use Rattle.c_machine.proofs.Widths.{bytes_wide}
use Rattle.c_machine.proofs.wants.low_bytes.Goals as goal

pub returns : goal.returns
returns c = ap (λ m. bit_and c.args.value m) c.bits_of.ensures.all ∙ and_mask c.args.value (width_of c.args.kind) ∙ ap (λ m. c.args.value % m) (bytes_wide c.args.kind)
