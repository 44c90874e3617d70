use Rattle.std.proofs.Common.{refl}
use Rattle.c_parser_tree.specs.Seen.{nodes_seen, stack_seen}
use Rattle.c_parser_tree.proofs.Newest.{taken_newest}
use Rattle.c_parser_tree.proofs.builder.Builder.pop_decls.Goals as goal

pub returns-clause-taken : goal.returns-clause-taken
unfolding stack_seen
returns-clause-taken c = taken_newest c.take_newest.result c.args.self.now.pieces.decl_lists.items c.take_newest.new.items.items (λ xs. record (stack_seen c.args.self.now) { decl_lists = xs }) c.take_newest.ensures

pub returns-clause-nodes : goal.returns-clause-nodes
unfolding nodes_seen
returns-clause-nodes c = refl
