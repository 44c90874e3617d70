use Rattle.std.proofs.Common.{[], ◌∷◌}
use Rattle.std.proofs.lemmas.List.{reverse-append}
use Rattle.c_parser_nodes.specs.Tallies.{seen}
use Rattle.c_parser_nodes.proofs.tallies.Tallies.push.Goals as goal

pub returns : goal.returns
unfolding seen
returns c = rw c.in_ok-push.ensures.items (reverse-append c.args.self.now.stack.items (c.args.tally ∷ []))
