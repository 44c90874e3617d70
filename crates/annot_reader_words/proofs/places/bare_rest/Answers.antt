use Rattle.c_syntax_laws.specs.Named.{by_rest}
use Rattle.annot_reader_words.proofs.Sayings.{rest_says}
use Rattle.annot_reader_words.proofs.Walking.{are_nodes, put, say_too}
use Rattle.annot_reader_words.proofs.places.bare_rest.Goals as goal

pub bare_nodes-requires : goal.bare_nodes-requires
bare_nodes-requires c =
    let vs = c.as_slice.result.now in
    let named = by_rest c.args.rest.now in
    are_nodes c.args.tree.now vs named _ (put vs c.in_rest.new.held.items c.new-nodes.result.items named c.as_slice.ensures.value c.in_ok-in_rest.ensures c.new-nodes.ensures.items) (rest_says c.args.tree.now c.args.rest.now c.requires.0 c.requires.1)

pub returns : goal.returns
returns c =
    let vs = c.as_slice.result.now in
    let named = by_rest c.args.rest.now in
    let same = put vs c.in_rest.new.held.items c.new-nodes.result.items named c.as_slice.ensures.value c.in_ok-in_rest.ensures c.new-nodes.ensures.items in
    λ x h. c.bare_nodes.ensures _ (say_too c.args.tree.now vs named _ same (rest_says c.args.tree.now c.args.rest.now x h))
