use Rattle.std.proofs.Common.{sym, ap, ◌∙◌}
use Rattle.marks.specs.declared.side.Side.TheVariants.{System}
use Rattle.recorder_threads.specs.declared.wants.Want.TheVariants as told
use Rattle.recorder_state.specs.Inputs.{world_of}
use Rattle.c_code.specs.Machine.{first}
use Rattle.recorder_system.specs.Shown.{given_in}
use Rattle.recorder_plain.proofs.Steps.{is_started}
use Rattle.recorder_below.proofs.Stepped.{threads_give}
use Rattle.recorder_below.proofs.builtins.threads.Goals as goal

pub args-requires : goal.args-requires
args-requires c = is_started (world_of c.args.inputs) c.args.state.now c.args.thread System (told.Step c.requires.at.indirect c.args.func) c.requires.at.at

pub give-requires : goal.give-requires
give-requires c = threads_give (world_of c.args.inputs) c.args.state.now c.args.thread c.args.func c.args.builtin c.requires.at c.requires.threads c.in-Value.value
    (sym (c.given_by.ensures ∙ ap (λ n. given_in c.args.state.now.system c.args.thread n c.args.builtin) (c.first-arg.ensures ∙ ap first c.args-2.ensures)) ∙ c.in-Value.is)
