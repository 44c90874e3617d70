use Rattle.std.proofs.Common.{List, reverse, ap}
use Rattle.c_parser_depth.specs.declared.chain.Chain.{Chain}
use Rattle.c_parser_depth.specs.Seen.{seen}
use Rattle.c_parser_depth.proofs.chains.Chains.new.Goals as goal

pub returns : goal.returns
unfolding seen
returns c = ap (λ (v : List Chain). reverse v) c.new.ensures.items
