use Rattle.recorder_state.specs.Inputs.{world_of}
use Rattle.reference_recorder_threads.proofs.Marked.{gives_plainly, starts_one}
use Rattle.reference_recorder_threads.proofs.tell.give.Goals as goal

pub start-requires : goal.start-requires
start-requires c = starts_one (world_of c.args.inputs) c.args.threads.now c.args.mark.now c.args.value c.requires c.in-Some.start.address c.in-Some.start.argument c.in-Some.ensures

pub returns-in-Some : goal.returns-in-Some
returns-in-Some c = λ n.
    c.start.ensures.started (starts_one (world_of c.args.inputs) c.args.threads.now c.args.mark.now c.args.value n c.in-Some.start.address c.in-Some.start.argument c.in-Some.ensures)

pub give-requires : goal.give-requires
give-requires c = gives_plainly (world_of c.args.inputs) c.args.threads.now c.args.mark.now c.args.value c.requires c.in-None.ensures

pub returns-in-None : goal.returns-in-None
returns-in-None c = λ n. c.give.ensures (gives_plainly (world_of c.args.inputs) c.args.threads.now c.args.mark.now c.args.value n c.in-None.ensures)
