use Rattle.std.proofs.Common.{arith}
use Rattle.space_memory_bytes.proofs.Deads.{unmarked_within, unmarked_past, unmarked_nowhere}
use Rattle.space_memory_bytes.proofs.marked_bytes.first_unmarked.Goals as goal

pub returns-in-Some : goal.returns-in-Some
returns-in-Some c = unmarked_within c.args.marks.now c.args.from c.args.to c.min-start.result c.min-end.result c.requires (omega (arith, c.min-start.ensures)) (omega (arith, c.min-end.ensures)) c.in-Some.at c.in-Some.ensures

pub returns-then-past-to : goal.returns-then-past-to
returns-then-past-to c = unmarked_past c.args.marks.now c.args.from c.args.to c.min-start.result c.min-end.result c.requires (omega (arith, c.min-start.ensures)) (omega (arith, c.min-end.ensures)) c.max-past.result (omega (arith, c.max-past.ensures)) (omega (arith, c.if-past-to.true)) c.in_default.ensures

pub returns-else-past-to : goal.returns-else-past-to
returns-else-past-to c = unmarked_nowhere c.args.marks.now c.args.from c.args.to c.min-start.result c.min-end.result c.requires (omega (arith, c.min-start.ensures)) (omega (arith, c.min-end.ensures)) c.max-past.result (omega (arith, c.max-past.ensures)) (omega (arith, c.if-past-to.false)) c.in_default.ensures
