use Rattle.std.proofs.Common.{sym, ap, ◌∙◌}
use Rattle.std.specs.Prelude.{is_some}
use Rattle.cut_graph.proofs.Flagged.{copied_some}
use Rattle.cut_graph.proofs.faces.is_face.Goals as goal

pub returns : goal.returns
returns c = c.is_some.ensures ∙ (sym (copied_some c.annots.result) ∙ ap is_some c.annots.ensures)
