use Rattle.std.proofs.Common.{arith}
use Rattle.std.proofs.lemmas.Option.{slice_get_past}
use Rattle.c_parser_tree.specs.Seen.{nodes_seen, stack_seen}
use Rattle.c_parser_tree.proofs.Alike.{made_like}
use Rattle.c_parser_tree.proofs.builder.Builder.new_decl_like.Goals as goal

pub returns-then-first-len : goal.returns-then-first-len
unfolding nodes_seen
returns-then-first-len c = slice_get_past c.args.self.now.decls c.args.first.0 (omega (arith, c.if-first-len.true, c.len.ensures))

pub returns : goal.returns
unfolding nodes_seen stack_seen
returns c =
    made_like c.args.self.now c.args.first c.args.declarator c.args.rest c.reversed-parts.result c.push_like.new.self c.in_ok-id.id
    (omega (arith, c.if-first-len.false, c.len.ensures)) c.reversed-parts.ensures c.in_ok-id.ensures.number c.in_ok-id.ensures.added
