use Rattle.std.proofs.lemmas.Result.{IfOk-weaker}
use Rattle.cut_graph_modes.proofs.Parts.{flags_between}
use Rattle.cut_graph_modes.proofs.modes.flags_from.Goals as goal

pub returns : goal.returns
returns c =
    IfOk-weaker c.from_slice.result _ _ (λ v e. flags_between c.args.flags.now c.args.first c.args.functions v.items e) c.from_slice.ensures.items
