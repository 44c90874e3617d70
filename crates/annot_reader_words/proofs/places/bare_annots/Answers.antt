use Rattle.c_syntax_laws.specs.Named.{by_annots}
use Rattle.annot_reader_words.proofs.Sayings.{annots_say}
use Rattle.annot_reader_words.proofs.Walking.{are_nodes, put, say_too}
use Rattle.annot_reader_words.proofs.places.bare_annots.Goals as goal

pub bare_nodes-requires : goal.bare_nodes-requires
bare_nodes-requires c =
    let vs = c.as_slice.result.now in
    let named = by_annots c.args.annots.now in
    are_nodes c.args.tree.now vs named _ (put vs c.in_annots.new.held.items c.new-nodes.result.items named c.as_slice.ensures.value c.in_ok-in_annots.ensures c.new-nodes.ensures.items) (annots_say c.args.tree.now c.args.annots.now c.requires.0 c.requires.1)

pub returns : goal.returns
returns c =
    let vs = c.as_slice.result.now in
    let named = by_annots c.args.annots.now in
    let same = put vs c.in_annots.new.held.items c.new-nodes.result.items named c.as_slice.ensures.value c.in_ok-in_annots.ensures c.new-nodes.ensures.items in
    λ x h. c.bare_nodes.ensures _ (say_too c.args.tree.now vs named _ same (annots_say c.args.tree.now c.args.annots.now x h))
