use Rattle.std.proofs.Common.{refl}
use Rattle.c_parser_tree.proofs.Newest.{popped_none, popped_some}
use Rattle.c_parser_tree.proofs.builder.take_newest.Goals as goal

pub returns-in-Some : goal.returns-in-Some
returns-in-Some g c = popped_some _ _ _ c.in-Some.ensures.items

pub returns-in-None : goal.returns-in-None
returns-in-None g c = (refl, popped_none _ _ _ c.in-None.ensures.items c.in-None.ensures.variant c.in-None.ensures.rest)
