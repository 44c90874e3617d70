use Rattle.c_syntax_laws.specs.Named.{by_parts}
use Rattle.annot_reader_words.proofs.Sayings.{parts_say}
use Rattle.annot_reader_words.proofs.Walking.{are_nodes, put, say_too}
use Rattle.annot_reader_words.proofs.places.bare_parts.Goals as goal

pub bare_nodes-requires : goal.bare_nodes-requires
bare_nodes-requires c =
    let vs = c.as_slice.result.now in
    let named = by_parts c.args.parts.now in
    are_nodes c.args.tree.now vs named _ (put vs c.in_parts.new.held.items c.new-nodes.result.items named c.as_slice.ensures.value c.in_ok-in_parts.ensures c.new-nodes.ensures.items) (parts_say c.args.tree.now c.args.parts.now c.requires.0 c.requires.1)

pub returns : goal.returns
returns c =
    let vs = c.as_slice.result.now in
    let named = by_parts c.args.parts.now in
    let same = put vs c.in_parts.new.held.items c.new-nodes.result.items named c.as_slice.ensures.value c.in_ok-in_parts.ensures c.new-nodes.ensures.items in
    λ x h. c.bare_nodes.ensures _ (say_too c.args.tree.now vs named _ same (parts_say c.args.tree.now c.args.parts.now x h))
