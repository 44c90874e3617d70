use Rattle.whole_runs_sources.proofs.Pushed.{places_objects}
use Rattle.whole_runs_sources.proofs.objects.accepted_objects_are_placed.Goals as goal

pub returns : goal.returns
returns c = places_objects
