use Rattle.std.proofs.Common.{refl}
use Rattle.c_machine.specs.Callers.{IsAtCall, side_at}
use Rattle.c_machine.specs.Positions.{laid}
use Rattle.bench_steps.proofs.Sides.{either, may_run}
use Rattle.bench_steps.proofs.thread.call.Goals as goal

pub run-requires-clause-may : goal.run-requires-clause-may
run-requires-clause-may c =
    let l = laid c.args.code.now c.args.placed.now in
    let at : IsAtCall l c.args.thread.now.config c.in-Call.func = c.in-Call.ensures.call c.in-Call.func refl in
    may_run l c.args.thread.now.config c.in-Call.func at (c.if-is_call_of.ensures.yes c.args.placed.now refl).0

pub run-requires-clause-depth : goal.run-requires-clause-depth
run-requires-clause-depth c =
    let l = laid c.args.code.now c.args.placed.now in
    let d = c.args.thread.now.config in
    let room = c.if-has_room.ensures refl in
    either (side_at l d) d c.args.thread.now.depth room.0 room.1
