use Rattle.std.proofs.Common.{refl, sym}
use Rattle.c_code.specs.Machine.{entry}
use Rattle.c_code.specs.MarkLists.{has_entry}
use Rattle.c_machine.specs.Callers.{IsAtCall, crosses_at}
use Rattle.c_machine.specs.Positions.{laid}
use Rattle.test_marks.proofs.Sides.{one_or_not}
use Rattle.test_marks.proofs.steps.give.Goals as goal

pub feed-requires-clause-may : goal.feed-requires-clause-may
feed-requires-clause-may c =
    let l = laid c.args.image.now.code c.args.image.now.placed in
    let d = c.args.thread.now.config in
    let f = c.in-Call.func in
    let at : IsAtCall l d f = c.in-Call.ensures.call f refl in
    at.gives c.args.value (one_or_not (crosses_at l d) (has_entry (entry l f)) (sym c.if-is_given.ensures)) (sym c.if-gives.ensures)
