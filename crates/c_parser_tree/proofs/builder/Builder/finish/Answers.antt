use Rattle.std.proofs.Common.{ap, ◌∙◌}
use Rattle.c_syntax.specs.Nodes.{Nodes}
use Rattle.c_parser_tree.specs.Seen.{nodes_seen, stack_seen}
use Rattle.c_parser_tree.proofs.Finished.{finished, no_decls}
use Rattle.c_parser_tree.proofs.builder.Builder.finish.Goals as goal

pub returns-in-Err : goal.returns-in-Err
returns-in-Err c = rw c.in-Err.ensures.taken.0 (no_decls (nodes_seen c.args.self) (stack_seen c.args.self) c.in-Err.ensures.taken.1)

pub returns-in-Ok : goal.returns-in-Ok
unfolding nodes_seen
returns-in-Ok c =
    let same = c.pop_decls.ensures.nodes in
    finished (nodes_seen c.args.self) (stack_seen c.args.self) _ _ c.new.result c.in-Ok.ensures.taken (c.new.ensures.decls ∙ ap (λ (t : Nodes). t.decls) same) (c.new.ensures.stmts ∙ ap (λ (t : Nodes). t.stmts) same) (c.new.ensures.exprs ∙ ap (λ (t : Nodes). t.exprs) same) (c.new.ensures.tops ∙ c.into_vec.ensures.items)
