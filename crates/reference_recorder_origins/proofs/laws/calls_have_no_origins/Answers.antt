use Rattle.reference_recorder_outcomes.proofs.Origins.{same_holder, same_outcomes, same_started, same_used}
use Rattle.reference_recorder_origins.proofs.Memory.{count_without}
use Rattle.reference_recorder_origins.proofs.laws.calls_have_no_origins.Goals as goal

pub returns : goal.returns
returns c = record {
  results = same_outcomes;
  threads = same_started;
  answers = same_used;
  mutexes = same_holder;
  count = count_without;
}
