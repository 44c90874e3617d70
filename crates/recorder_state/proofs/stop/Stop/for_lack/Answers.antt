use Rattle.whole_runs.specs.declared.ending.Ending.TheVariants as ending
use Rattle.whole_runs.specs.declared.ending.Halt.TheVariants as halt
use Rattle.whole_runs.specs.Ends as last
use Rattle.recorder_state.proofs.Broken.{ends_so, passes_there}
use Rattle.recorder_state.proofs.stop.Stop.for_lack.Goals as goal

pub returns : goal.returns
returns c = λ w s t side h. ends_so w s t side h.at (ending.Halted (halt.Script c.args.func)) (last.script h.at.step (passes_there w s t side h.at h.passes) h.lacks)
