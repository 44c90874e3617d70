use Rattle.std.proofs.Common.{◌≡◌}
use Rattle.c_parser_depth.specs.Chains.{longest_of, rests}
use Rattle.c_parser_depth.specs.Seen.{seen}
use Rattle.c_parser_depth.proofs.chains.Chains.take.Given as goal

abbrev pub invariant-loop : goal.invariant-loop
invariant-loop l = (l.longest ≡ longest_of l.counter (seen l.initial.self)) × (seen l.self ≡ rests l.counter (seen l.initial.self))
