use Rattle.std.proofs.Common.{ap, ◌∙◌, subst}
use Rattle.marks.specs.declared.side.Side.TheVariants.{System}
use Rattle.recorder_threads.specs.declared.wants.Want.TheVariants as told
use Rattle.recorder_state.specs.Inputs.{world_of}
use Rattle.c_code.specs.Machine.{first}
use Rattle.recorder_memory.specs.Below.{GivesBlock}
use Rattle.recorder_plain.proofs.Steps.{is_started}
use Rattle.recorder_below.proofs.Stepped.{malloc_gives}
use Rattle.recorder_below.proofs.builtins.malloc.Goals as goal

pub args-requires : goal.args-requires
args-requires c = is_started (world_of c.args.inputs) c.args.state.now c.args.thread System (told.Step c.requires.indirect c.args.func) c.requires.at

pub give-requires : goal.give-requires
give-requires c = malloc_gives (world_of c.args.inputs) c.args.state.now c.args.thread c.args.func c.requires c.alloc_below-addr.result c.alloc_below-addr.new.self
    (subst (λ n. GivesBlock c.args.state.now.memory n c.alloc_below-addr.result c.alloc_below-addr.new.self) (c.first-size.ensures ∙ ap first c.args-2.ensures) c.alloc_below-addr.ensures)
