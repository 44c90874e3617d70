use Rattle.reference_recorder_spaces.proofs.Answered.{on_ok}
use Rattle.reference_recorder_spaces.proofs.Calling.{calls, holds_regions, is_open, next_holds, next_prepares, next_reads, prepares_regions, reads_regions}
use Rattle.reference_recorder_spaces.proofs.calls.call.Goals as goal

pub read_all-requires-clause-open : goal.read_all-requires-clause-open
read_all-requires-clause-open c =
    let n = c.requires.next in
    is_open c.args.spaces.now c.args.thread n.0 n.1 c.args.ins.now c.args.outs.now c.args.prepared.now n.2.0 n.2.1 n.2.2 c.requires.in_range c.open.new.self c.in_ok-open.ensures.opened c.open.ensures.rest

pub read_all-requires-clause-regions : goal.read_all-requires-clause-regions
read_all-requires-clause-regions c =
    let n = c.requires.next in
    reads_regions c.args.spaces.now c.args.thread n.0 n.1 c.args.ins.now c.args.outs.now c.args.prepared.now n.2.0 n.2.1 n.2.2

pub hold_all-requires-clause-regions : goal.hold_all-requires-clause-regions
hold_all-requires-clause-regions c =
    let n = c.requires.next in
    holds_regions c.args.spaces.now c.args.thread n.0 n.1 c.args.ins.now c.args.outs.now c.args.prepared.now n.2.0 n.2.1 n.2.2

pub prepare_all-requires-clause-regions : goal.prepare_all-requires-clause-regions
prepare_all-requires-clause-regions c =
    let n = c.requires.next in
    prepares_regions c.args.spaces.now c.args.thread n.0 n.1 c.args.ins.now c.args.outs.now c.args.prepared.now n.2.0 n.2.1 n.2.2

pub returns : goal.returns
returns c = on_ok c.prepare_all.result
    (λ adds func args e kind n. calls c.args.spaces.now c.args.thread func args c.args.ins.now c.args.outs.now c.args.prepared.now e kind n c.requires.in_range c.open.new.self c.in_ok-open.ensures.opened c.open.ensures.rest
    c.read_all.new.spaces c.hold_all.new.spaces c.prepare_all.new.spaces c.in_ok-read_all.ensures.adds c.in_ok-hold_all.ensures.adds adds)
    c.prepare_all.ensures.adds

pub read_all-requires-clause-next : goal.read_all-requires-clause-next
read_all-requires-clause-next c =
    let n = c.requires.next in
    next_reads c.args.spaces.now c.args.thread n.0 n.1 c.args.ins.now c.args.outs.now c.args.prepared.now n.2.0 n.2.1 n.2.2 c.requires.in_range c.open.new.self c.in_ok-open.ensures.opened c.open.ensures.rest

pub hold_all-requires-clause-next : goal.hold_all-requires-clause-next
hold_all-requires-clause-next c =
    let n = c.requires.next in
    next_holds c.args.spaces.now c.args.thread n.0 n.1 c.args.ins.now c.args.outs.now c.args.prepared.now n.2.0 n.2.1 n.2.2 c.requires.in_range c.open.new.self c.in_ok-open.ensures.opened c.open.ensures.rest
    c.read_all.new.spaces c.in_ok-read_all.ensures.adds

pub prepare_all-requires-clause-next : goal.prepare_all-requires-clause-next
prepare_all-requires-clause-next c =
    let n = c.requires.next in
    next_prepares c.args.spaces.now c.args.thread n.0 n.1 c.args.ins.now c.args.outs.now c.args.prepared.now n.2.0 n.2.1 n.2.2 c.requires.in_range c.open.new.self c.in_ok-open.ensures.opened c.open.ensures.rest
    c.read_all.new.spaces c.hold_all.new.spaces c.in_ok-read_all.ensures.adds c.in_ok-hold_all.ensures.adds
