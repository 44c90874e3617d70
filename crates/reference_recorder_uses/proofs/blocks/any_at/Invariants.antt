use Rattle.std.proofs.Common.{◌≡◌, drop}
use Rattle.reference_recorder_uses.specs.Checks.{any_at}
use Rattle.reference_recorder_uses.proofs.blocks.any_at.Given as goal

abbrev pub invariant-loop-block : goal.invariant-loop-block
invariant-loop-block l = any_at l.addr l.blocks ≡ any_at l.addr (drop l.block-index l.blocks)
