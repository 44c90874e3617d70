use Rattle.std.proofs.Common.{refl}
use Rattle.std.specs.Prelude.{Some}
use Rattle.marks.specs.declared.side.Side.TheVariants.{Replay}
use Rattle.marks.specs.Wants.{Loads}
use Rattle.cut_graph_laws_examples.proofs.Acceptance.{not_above}
use Rattle.cut_graph_laws_examples.proofs.Computed.{goes_wrong}
use Rattle.cut_graph_laws_examples.proofs.scenes.pointers_that_break_modes_break_the_cut.Goals as goal

pub returns : goal.returns
returns c = record {
  side = Replay;
  want = Loads (Some 1) 0x50000000 4;
  expected = goes_wrong;
  not_granted = λ granted. let touched = granted 1 refl in not_above 1 touched.0 touched.1 refl;
}
