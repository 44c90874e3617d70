use Rattle.std.proofs.Common.{[], ◌∷◌}
use Rattle.marks.specs.declared.side.Side.TheVariants.{Replay, System}
use Rattle.cut_graph_rules.specs.Findings.{May}
use Rattle.cut_graph_laws_examples.specs.Scene.{cut}
use Rattle.cut_graph_laws_examples.specs.Runs.{thread, whole}
use Rattle.cut_graph_laws_examples.specs.Listed.{on}
use Rattle.cut_graph_laws_examples.proofs.Acceptance.{back_may, go_may, low_may, main_may}
use Rattle.cut_graph_laws_examples.proofs.Computed.{all_reaches, by_pointers, goes_on}
use Rattle.cut_graph_laws_examples.proofs.Listing.{all_kept}
use Rattle.cut_graph_laws_examples.proofs.scenes.each_kind_of_reach_keeps_the_modes.Goals as goal

pub returns-clause-goes_on : goal.returns-clause-goes_on
returns-clause-goes_on c = goes_on

pub returns-clause-reaches : goal.returns-clause-reaches
returns-clause-reaches c = all_reaches

pub returns-clause-kept : goal.returns-clause-kept
returns-clause-kept c =
    all_kept thread (May cut) whole (on Replay 20 ∷ on Replay 17 ∷ on System 18 ∷ on Replay 17 ∷ on System 19 ∷ []) by_pointers (main_may, (back_may, (low_may, (back_may, (go_may, tt)))))
