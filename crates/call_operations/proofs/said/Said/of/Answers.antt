use Rattle.std.proofs.Common.{ap, take, ◌∙◌}
use Rattle.call_operations.proofs.Parameters.{said_by}
use Rattle.call_operations.proofs.said.Said.of.Goals as goal

pub returns-clause-said : goal.returns-clause-said
returns-clause-said c =
    said_by c.args.annots.now.commit c.args.annots.now.cache
    (c.with_places.ensures.first ∙ ap (take 256) c.as_slice.ensures.items) c.as_slice-2.ensures.items
