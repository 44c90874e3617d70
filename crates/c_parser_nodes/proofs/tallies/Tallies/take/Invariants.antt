use Rattle.std.proofs.Common.{◌≡◌}
use Rattle.c_parser_nodes.specs.Tallies.{rests, seen, sum_of}
use Rattle.c_parser_nodes.proofs.tallies.Tallies.take.Given as goal

abbrev pub invariant-loop : goal.invariant-loop
invariant-loop l = (l.nodes ≡ sum_of l.counter (seen l.initial.self)) × (seen l.self ≡ rests l.counter (seen l.initial.self))
