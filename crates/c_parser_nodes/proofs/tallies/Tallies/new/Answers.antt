use Rattle.std.proofs.Common.{List, reverse, ap}
use Rattle.c_parser_nodes.specs.declared.tally.Tally.{Tally}
use Rattle.c_parser_nodes.specs.Tallies.{seen}
use Rattle.c_parser_nodes.proofs.tallies.Tallies.new.Goals as goal

pub returns : goal.returns
unfolding seen
returns c = ap (λ (v : List Tally). reverse v) c.new.ensures.items
