use Rattle.marks.specs.Ranges.{any_range}
use Rattle.reference_recorder_races.proofs.OneMark.{fault_met, none_met, read_met, write_met}
use Rattle.reference_recorder_races.proofs.acts.met_act.Goals as goal

pub returns-in-Turn : goal.returns-in-Turn
returns-in-Turn c = rw c.in-Turn.is (none_met c.args.tested)

pub returns-in-Load : goal.returns-in-Load
returns-in-Load c = rw c.in-Load.is (read_met c.args.tested _ c.read_bytes.result c.read_bytes.ensures)

pub returns-in-Store : goal.returns-in-Store
returns-in-Store c = rw c.in-Store.is (write_met c.args.tested _ c.written_bytes.result c.written_bytes.ensures)

pub returns-in-Enter : goal.returns-in-Enter
returns-in-Enter c = rw c.in-Enter.is (write_met c.args.tested _ c.written_bytes-in-Enter.result c.written_bytes-in-Enter.ensures)

pub returns-in-Leave : goal.returns-in-Leave
returns-in-Leave c = rw c.in-Leave.is (write_met c.args.tested _ c.written_part.result c.written_part.ensures)

pub returns-in-Step : goal.returns-in-Step
returns-in-Step c = rw c.in-Step.is (none_met c.args.tested)

pub returns-in-Fault : goal.returns-in-Fault
returns-in-Fault c = rw c.in-Fault.is (fault_met c.args.tested (any_range _) (any_range _) _ _ c.stopped_list-found.result c.held_list-held.result c.met_access-stopped.result c.least-both.result c.least.result c.stopped_list-found.ensures c.held_list-held.ensures c.met_access-stopped.ensures c.least-both.ensures c.least.ensures)

pub returns-in-Made : goal.returns-in-Made
returns-in-Made c = rw c.in-Made.is c.met_event.ensures
