use Rattle.std.proofs.Common.{refl}
use Rattle.c_parser_tree.specs.Seen.{nodes_seen, stack_seen}
use Rattle.c_parser_tree.proofs.Newest.{made_newest, on_top}
use Rattle.c_parser_tree.proofs.builder.Builder.put_annots.Goals as goal

pub returns : goal.returns
unfolding nodes_seen stack_seen
returns c = made_newest c.append.result _ (nodes_seen c.args.self.now) c.args.annots c.args.self.now.pieces.annot_lists.items c.append.new.items.items (λ xs. record (stack_seen c.args.self.now) { annot_lists = xs }) (on_top c.append.result _ _ _ c.append.ensures.items) c.append.ensures.memory refl refl
