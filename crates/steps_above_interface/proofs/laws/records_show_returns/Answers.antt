use Rattle.steps_above_interface.proofs.Showing.{records_show}
use Rattle.steps_above_interface.proofs.laws.records_show_returns.Goals as goal

pub returns : goal.returns
returns c form shows program memory past t h = records_show form shows memory t program past h
