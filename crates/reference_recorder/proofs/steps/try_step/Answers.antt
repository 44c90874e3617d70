use Rattle.recorder_state.specs.Inputs.{world_of}
use Rattle.recorder_threads.specs.Threads.{args_at}
use Rattle.reference_recorder.proofs.Going.{at_args}
use Rattle.reference_recorder.proofs.steps.try_step.Goals as goal

pub tested-requires-clause-found : goal.tested-requires-clause-found
tested-requires-clause-found c = λ at. c.in_ok-first.ensures at (c.given_for-given.ensures at.past)

pub returns : goal.returns
returns c = at_args (world_of c.args.inputs) c.args.marks.now c.args.thread c.args.side c.args-args.result.now (args_at c.args.threads.now c.args.thread) c.args.want c.tested.result c.args-args.ensures c.tested.ensures
