use Rattle.whole_runs_cuts_sources.proofs.Lowered.{runs_source}
use Rattle.whole_runs_cuts_sources.proofs.laws.programs_run_under_their_cuts.Goals as goal

pub returns : goal.returns
returns c p s w run cut of accepted ls places = record {
  source = runs_source p s w run c.emitted_code_makes_the_marks.ensures;
  of = of;
  accepted = accepted;
  keeps = c.places_keep_the_cut.ensures w cut ls places;
}
