use Rattle.std.proofs.Common.{◌≡◌, max, take, drop, map}
use Rattle.logical_clock.specs.Names.{greatest_of}
use Rattle.logical_clock.specs.Kept.{HaveNumbers, KeepsSame, clock_of, events_of, number_in}
use Rattle.logical_clock.proofs.keys.Keys.find.Given as goal

abbrev pub invariant-loop-key : goal.invariant-loop-key
invariant-loop-key l = record {
  found : HaveNumbers (number_in l.self) (take l.key-index l.of) l.numbers.items;
  tickets : l.tickets.items ≡ map (events_of l.fn.self) (take l.key-index l.of);
  clock : max l.latest (greatest_of (clock_of l.fn.self) (drop l.key-index l.of)) ≡ max l.fn.own (greatest_of (clock_of l.fn.self) l.of);
  same : KeepsSame l.fn.self l.self;
}
