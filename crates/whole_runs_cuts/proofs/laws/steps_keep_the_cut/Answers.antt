use Rattle.whole_runs_cuts.proofs.Whole.{keeps_cut}
use Rattle.whole_runs_cuts.proofs.laws.steps_keep_the_cut.Goals as goal

pub returns : goal.returns
returns c s d w under past f =
    let law = c.code_keeps_the_cut.ensures in
    let source = under.source in
    let code = w.laid.code in
    keeps_cut s d w under (law.sound s code source.makes d under.of under.accepted) (law.within s code source.makes d under.of under.accepted source.results source.arguments) past f
