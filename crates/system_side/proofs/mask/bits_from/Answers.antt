use Rattle.std.proofs.Common.{◌-◌, ◌^◌, bit_and, ap, ◌∙◌, arith}
use Rattle.std.specs.Int.{bit_at}
use Rattle.std.proofs.lemmas.Nat.Bits.{ones_shl, bit_at_and, bit_at_mask_below, bit_at_mask_inside, bit_at-lt}
use Rattle.system_side.proofs.Bits.{min_clear, min_set}
use Rattle.system_side.proofs.mask.bits_from.Goals as goal

pub returns-then-at-lt32-clause-below : goal.returns-then-at-lt32-clause-below
returns-then-at-lt32-clause-below c = λ i lt small.
    ap (λ m. bit_at (bit_and c.args.mask m) i) (ones_shl 32 c.args.at (omega arith)) ∙ bit_at_and c.args.mask (2 ^ 32 - 2 ^ c.args.at) i ∙ min_clear _ _ (bit_at_mask_below c.args.at 32 i lt)

pub returns-then-at-lt32-clause-same : goal.returns-then-at-lt32-clause-same
returns-then-at-lt32-clause-same c = λ i le small.
    ap (λ m. bit_at (bit_and c.args.mask m) i) (ones_shl 32 c.args.at (omega arith)) ∙ bit_at_and c.args.mask (2 ^ 32 - 2 ^ c.args.at) i ∙ min_set _ _ (bit_at-lt c.args.mask i) (bit_at_mask_inside c.args.at 32 i le small)
