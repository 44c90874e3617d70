use Rattle.std.proofs.Common.{sym, ap, subst, arith}
use Rattle.c_syntax_laws.specs.declared.node.Node.TheVariants as nodes
use Rattle.c_syntax_laws.specs.Named.{named_by}
use Rattle.annot_reader_words.specs.Sayings.{AllSay, AreNodes}
use Rattle.annot_reader_words.proofs.Heights.{heights_of, among, lower}
use Rattle.annot_reader_words.proofs.Walking.{found_below, named_nodes, next_is_node, past_next, put}
use Rattle.annot_reader_words.proofs.walk.+walk.Goals as goal

pub bare_node-bare_nodes-requires : goal.bare_node-bare_nodes-requires
bare_node-bare_nodes-requires t c =
    let N = c.args.tree.now in
    let same = put c.as_slice.result.now c.held.new.held.items c.new-below.result.items (named_by N c.args.node) c.as_slice.ensures.value c.in_ok-held.ensures c.new-below.ensures.items in
    let low = lower N c.args.node c.requires.0 c.requires.1 in
    (omega (arith, low, ap (heights_of N) same), subst (AreNodes N) (sym same) (named_nodes N c.args.node c.requires))

pub bare_node-returns : goal.bare_node-returns
bare_node-returns t c =
    let N = c.args.tree.now in
    let same = put c.as_slice.result.now c.held.new.held.items c.new-below.result.items (named_by N c.args.node) c.as_slice.ensures.value c.in_ok-held.ensures c.new-below.ensures.items in
    λ d h. found_below N c.args.node d c.bare_nodes.result h c.in_ok-no_own_word.ensures (λ e s. c.bare_nodes.ensures e (subst (λ vs. AllSay N vs e) (sym same) s))

pub bare_nodes-bare_node-requires : goal.bare_nodes-bare_node-requires
bare_nodes-bare_node-requires t c =
    let N = c.args.tree.now in
    let k = c.loop-node.node-index in
    let first = nodes.Expr (record { 0 = 0 }) in
    (omega (arith, among N c.args.nodes.now k first (omega arith)), next_is_node N c.args.nodes.now k first c.requires.0 (omega arith) (c.loop-node.invariant c.requires.0 c.requires.1))

pub bare_nodes-loop-node-preserved : goal.bare_nodes-loop-node-preserved
bare_nodes-loop-node-preserved t c =
    let N = c.args.tree.now in
    λ d h. past_next N c.args.nodes.now c.loop-node.node-index (nodes.Expr (record { 0 = 0 })) d (omega arith) (c.loop-node.invariant d h) c.in_ok-bare_node.ensures
