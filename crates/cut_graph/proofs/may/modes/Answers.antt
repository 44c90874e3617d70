use Rattle.std.proofs.Common.{Bool, List, length, ap, ◌∙◌, arith}
use Rattle.std.specs.Prelude.{is_some}
use Rattle.annot_reader.specs.Interfaces.{annots_at}
use Rattle.cut_graph_paths.specs.Graphs.{flag}
use Rattle.cut_graph.proofs.Agreed.{for_mentions}
use Rattle.cut_graph.proofs.may.modes.Goals as goal

pub returns : goal.returns
returns c =
    for_mentions c.args.mentions.now c.functions-functions.result.now c.globals.result.now (flag c.deref.result.now) (λ h. is_some (annots_at c.args.iface.now h)) c.args.main c.in_ok-modes.modes c.functions-functions.ensures c.globals.ensures
    (λ h inside. ap (λ (bs : List Bool). flag bs h) c.deref.ensures.value ∙ c.in_ok-faces.ensures.faces h (omega (arith, ap length c.functions-functions.ensures)))
    c.in_ok-modes.ensures
