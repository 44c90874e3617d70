use Rattle.std.proofs.Common.{◌+◌, add-one, ap, ◌∙◌, suc}
use Rattle.whole_runs.specs.World.{begin}
use Rattle.reference_recorder_marks.specs.Marks.{past}
use Rattle.reference_recorder_calls.proofs.Own.{stop_path}
use Rattle.reference_recorder_calls.proofs.stops.stop_of.Goals as goal

pub returns : goal.returns
returns c = λ w. stop_path w (past c.args.marks.now) c.args.thread c.count-index.result c.steps_since-steps.result (c.last_clock-before.result + 1) c.fault_of-fault.result c.new.result c.count-index.ensures (c.fault_of-fault.ensures (begin w).memory) (c.steps_since-steps.ensures (begin w).memory) c.new.ensures (add-one c.last_clock-before.result ∙ ap suc c.last_clock-before.ensures)
