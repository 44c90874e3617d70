use Rattle.reference_recorder_origins.proofs.Memory.{calls_mine, fault_mine, return_mine, steps_mine, ups_mine}
use Rattle.reference_recorder_origins.proofs.laws.open_calls_have_no_origins.Goals as goal

pub returns : goal.returns
returns c = record {
  calls = calls_mine;
  ups = ups_mine;
  steps = steps_mine;
  fault = fault_mine;
  returned = λ w before f t p. return_mine w t p before f;
}
