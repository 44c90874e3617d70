use Rattle.std.proofs.Common.{arith}
use Rattle.marks.specs.Wants.{Frees}
use Rattle.replay_runs.specs.Checks.{checks}
use Rattle.whole_runs.specs.World.{begin, interface}
use Rattle.whole_runs.specs.Sides.{seen}
use Rattle.reference_recorder_findings.proofs.Lists.{ok_for}
use Rattle.reference_recorder_ranges.specs.Checks.{block_checks}
use Rattle.reference_recorder_ranges.proofs.BlocksAbove.{not_null, null}
use Rattle.reference_recorder_ranges.proofs.blocks.freed.Goals as goal

pub returns-then-addr-eq0 : goal.returns-then-addr-eq0
returns-then-addr-eq0 c = λ w p h. null (interface w) (begin w) (seen p) c.args.thread c.args.addr (omega arith)

pub returns : goal.returns
returns c = λ w p h.
    ok_for c.freed_block.result (block_checks (begin w) (seen p) c.args.thread c.args.addr c.block_size-size.result) (checks (interface w) (begin w) (seen p) c.args.thread (Frees c.args.addr))
    (λ o found. not_null (interface w) (begin w) (seen p) c.args.thread c.args.addr c.block_size-size.result o (λ z. omega (arith, z)) (c.block_size-size.ensures w p h) found)
    (c.freed_block.ensures w p h)
