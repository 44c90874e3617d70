use Rattle.std.proofs.Common.{true, [], Some, None, subst, arith}
use Rattle.marks.specs.declared.range.Range.{Range}
use Rattle.replay_runs.specs.Checks.{Done, live_check, other_space_check, pending_check, race_check}
use Rattle.whole_runs.specs.World.{begin}
use Rattle.whole_runs.specs.Sides.{seen}
use Rattle.reference_recorder_findings.specs.Findings.{IsFound}
use Rattle.reference_recorder_findings.proofs.Lists.{found_is}
use Rattle.reference_recorder_ranges.proofs.BlocksAbove.{below, died, no_block, raced, rest}
use Rattle.reference_recorder_ranges.proofs.blocks.freed_block.Goals as goal

pub returns-in-Some : goal.returns-in-Some
returns-in-Some c = λ w p h.
    below (begin w) (seen p) c.args.thread c.args.addr c.args.size c.in-Some.found (subst (λ (b : Range). IsFound (other_space_check b Done) (Some c.in-Some.found)) c.freed_range-block.ensures c.in-Some.ensures)

pub returns-in-Some-2 : goal.returns-in-Some-2
returns-in-Some-2 c = λ w p h.
    raced (begin w) (seen p) c.args.thread c.args.addr c.args.size
    (subst (λ (b : Range). IsFound (other_space_check b Done) None) c.freed_range-block.ensures c.in_default.ensures)
    c.in-Some-2.found
    (subst (λ (b : Range). IsFound (race_check (seen p) c.args.thread true b Done) (Some c.in-Some-2.found)) c.freed_range-block.ensures
    (found_is (race_check (seen p) c.args.thread true c.freed_range-block.result Done) c.in_ok-found.field-0 (Some c.in-Some-2.found) c.in-Some-2.is (c.in_ok-found.ensures w p h.is)))

pub returns-then-size-eq0 : goal.returns-then-size-eq0
returns-then-size-eq0 c = λ w p h.
    no_block (begin w) (seen p) c.args.thread c.args.addr c.args.size
    (subst (λ (b : Range). IsFound (other_space_check b Done) None) c.freed_range-block.ensures c.in_default.ensures)
    (subst (λ (b : Range). IsFound (race_check (seen p) c.args.thread true b Done) None) c.freed_range-block.ensures (found_is (race_check (seen p) c.args.thread true c.freed_range-block.result Done) c.in_ok-found.field-0 None c.in_default-2.is (c.in_ok-found.ensures w p h.is)))
    (omega arith)

pub returns-in-Some-dead : goal.returns-in-Some-dead
returns-in-Some-dead c = λ w p h.
    died (begin w) (seen p) c.args.thread c.args.addr c.args.size
    (subst (λ (b : Range). IsFound (other_space_check b Done) None) c.freed_range-block.ensures c.in_default.ensures)
    (subst (λ (b : Range). IsFound (race_check (seen p) c.args.thread true b Done) None) c.freed_range-block.ensures (found_is (race_check (seen p) c.args.thread true c.freed_range-block.result Done) c.in_ok-found.field-0 None c.in_default-2.is (c.in_ok-found.ensures w p h.is)))
    (λ z. omega (arith, z)) c.in-Some-dead.found
    (subst (λ (b : Range). IsFound (live_check (begin w) (seen p) b Done) (Some c.in-Some-dead.found)) c.freed_range-block.ensures (c.in-Some-dead.ensures w p h))

pub returns : goal.returns
returns c = λ w p h.
    rest (begin w) (seen p) c.args.thread c.args.addr c.args.size
    (subst (λ (b : Range). IsFound (other_space_check b Done) None) c.freed_range-block.ensures c.in_default.ensures)
    (subst (λ (b : Range). IsFound (race_check (seen p) c.args.thread true b Done) None) c.freed_range-block.ensures (found_is (race_check (seen p) c.args.thread true c.freed_range-block.result Done) c.in_ok-found.field-0 None c.in_default-2.is (c.in_ok-found.ensures w p h.is)))
    (λ z. omega (arith, z))
    (subst (λ (b : Range). IsFound (live_check (begin w) (seen p) b Done) None) c.freed_range-block.ensures (c.in_default-dead.ensures w p h))
    c.pending.result
    (subst (λ (b : Range). IsFound (pending_check (begin w) (seen p) [] b Done) c.pending.result) c.freed_range-block.ensures (c.pending.ensures w p h (c.in_default-dead.ensures w p h)))
