use Rattle.std.proofs.Common.{◌++◌, List, ◌∙◌, sym, ap}
use Rattle.marks.specs.Marks.{Mark}
use Rattle.whole_runs.specs.Ends.{stop_of}
use Rattle.reference_recorder_laws.proofs.Stops.{stop_without, with_stops}
use Rattle.reference_recorder_laws.proofs.laws.stops_can_be_added.Goals as goal

pub returns-clause-same : goal.returns-clause-same
returns-clause-same c = λ w marks p t. sym (ap (λ (ms : List Mark). stop_of w ms t) p.same) ∙ stop_without w (p.last ++ p.past) t

pub returns-clause-whole : goal.returns-clause-whole
returns-clause-whole c = λ w marks added p are. with_stops w marks added p are
