use Rattle.std.proofs.Common.{◌≡◌, map, take}
use Rattle.std.specs.List.{AllByRecursion}
use Rattle.run_events.specs.Tickets.{HasWord, with_ticket}
use Rattle.run_events.proofs.tickets.blank_marks.Given as goal

abbrev pub invariant-loop-key : goal.invariant-loop-key
invariant-loop-key l = record {
  made : l.marks.items ≡ map (with_ticket 0) (take l.key-index l.keys);
  words : AllByRecursion HasWord l.marks.items;
}
