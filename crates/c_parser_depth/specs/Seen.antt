-- What a stack of chains is seen as.
use Rattle.std.specs.Prelude.{List, reverse}
use Rattle.c_parser_depth.specs.declared.chain.Chain.{Chain}
use Rattle.c_parser_depth.specs.declared.chains.Chains.{Chains}

-- the chains, the top first
unfoldable pub seen : Chains → List Chain
seen s = reverse s.stack.items
