use Rattle.std.proofs.Common.{ap, ◌∙◌, subst}
use Rattle.marks.specs.declared.side.Side.TheVariants.{System}
use Rattle.recorder_threads.specs.declared.wants.Want.TheVariants as told
use Rattle.recorder_state.specs.Inputs.{world_of}
use Rattle.c_code.specs.Machine.{first}
use Rattle.recorder_memory.specs.Below.{FreesBlock, RefusesFree}
use Rattle.recorder_plain.proofs.Steps.{is_started}
use Rattle.recorder_below.proofs.Stepped.{free_gives, free_stops}
use Rattle.recorder_below.proofs.builtins.free.Goals as goal

pub args-requires : goal.args-requires
args-requires c = is_started (world_of c.args.inputs) c.args.state.now c.args.thread System (told.Step c.requires.indirect c.args.func) c.requires.at

pub give-requires : goal.give-requires
give-requires c = free_gives (world_of c.args.inputs) c.args.state.now c.args.thread c.args.func c.requires c.free_below.new.self
    (subst (λ n. FreesBlock c.args.state.now.memory n c.free_below.new.self) (c.first-addr.ensures ∙ ap first c.args-2.ensures) c.in_default.ensures.freed)

pub returns-in-Err-clause-stopped : goal.returns-in-Err-clause-stopped
returns-in-Err-clause-stopped c = free_stops (world_of c.args.inputs) c.args.state.now c.args.thread c.args.func c.requires c.in-Err.refusal c.of.result c.free_below.new.self c.of.ensures
    (subst (λ n. RefusesFree c.args.state.now.memory n c.in-Err.refusal) (c.first-addr.ensures ∙ ap first c.args-2.ensures) c.in-Err.ensures.refused) c.in-Err.ensures.unchanged
