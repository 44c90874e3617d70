use Rattle.std.proofs.Common.{[], ◌∷◌}
use Rattle.marks.specs.declared.side.Side.TheVariants.{Replay, System}
use Rattle.c_code.specs.MarkLists.{replay_part}
use Rattle.c_semantics.specs.Calls.{thread_above}
use Rattle.cut_graph_rules.specs.Findings.{May}
use Rattle.cut_graph_laws_examples.specs.Scene.{cut, scene}
use Rattle.cut_graph_laws_examples.specs.Runs.{whole}
use Rattle.cut_graph_laws_examples.specs.Listed.{on}
use Rattle.cut_graph_laws_examples.proofs.Acceptance.{back_may, go_may, main_may}
use Rattle.cut_graph_laws_examples.proofs.Computed.{all_above, by_pointers_above, goes_on_above}
use Rattle.cut_graph_laws_examples.proofs.Listing.{all_kept}
use Rattle.cut_graph_laws_examples.proofs.scenes.code_below_may_be_any.Goals as goal

pub returns-clause-goes_on : goal.returns-clause-goes_on
returns-clause-goes_on c = goes_on_above

pub returns-clause-reaches : goal.returns-clause-reaches
returns-clause-reaches c = all_above

pub returns-clause-kept : goal.returns-clause-kept
returns-clause-kept c =
    all_kept (thread_above scene) (May cut) (replay_part whole) (on Replay 20 ∷ on Replay 17 ∷ on Replay 17 ∷ on System 19 ∷ []) by_pointers_above (main_may, (back_may, (back_may, (go_may, tt))))
