use Rattle.std.proofs.Common.{◌≡◌, ◌++◌, refl, ap, ◌∙◌}
use Rattle.marks.specs.declared.side.Side.TheVariants.{System}
use Rattle.recorder_threads.specs.declared.wants.Want.TheVariants as told
use Rattle.recorder_state.specs.Inputs.{world_of}
use Rattle.c_code.specs.Machine.{func_of}
use Rattle.stub_meaning.specs.Calls.{Done, done}
use Rattle.stub_meaning.specs.Meaning.{called}
use Rattle.whole_runs.specs.World.{interface_on}
use Rattle.recorder_threads.specs.Threads.{args_at}
use Rattle.recorder_plain.proofs.Steps.{few, is_started}
use Rattle.recorder_below.proofs.Stepped.{print_gives, print_stops}
use Rattle.recorder_below.proofs.builtins.print.Goals.{After-ins}
use Rattle.recorder_below.proofs.builtins.print.Goals as goal

pub args-requires : goal.args-requires
args-requires c = is_started (world_of c.args.inputs) c.args.state.now c.args.thread System (told.Step c.requires.indirect c.args.func) c.requires.at

pub print_below-requires : goal.print_below-requires
print_below-requires c = few (world_of c.args.inputs) c.args.state.now c.args.thread System (told.Step c.requires.indirect c.args.func) c.requires.at

-- what is read is what the stubs say
said : (c : After-ins) → c.ins.result.now ≡ (interface_on (world_of c.args.inputs) System c.args.func).ins c.args.func (args_at c.args.state.now.threads c.args.thread)
said c = c.ins.ensures ∙ ap (λ (d : Done). d.ins) c.in_ok-fill.ensures ∙ (λ j. (done (c.code.ensures j) (called (func_of (c.code.ensures j) c.args.func) (c.args-2.ensures j) 0) (c.ops_below.ensures j)).ins)

pub give-requires : goal.give-requires
give-requires c = print_gives (world_of c.args.inputs) c.args.state.now c.args.thread c.args.func c.requires (record c.args.state.now { system_output = c.extend_from_slice.new.self }) c.in-Ok.bytes.items c.ins.result.now refl
    (c.in_ok-extend_from_slice-in-Ok.ensures.items ∙ ap (λ xs. c.args.state.now.system_output.items ++ xs) c.as_slice.ensures.value) (said (goal.at.give-requires c).After-ins) c.in-Ok.ensures.printed

pub returns-in-Err-clause-stopped : goal.returns-in-Err-clause-stopped
returns-in-Err-clause-stopped c = print_stops (world_of c.args.inputs) c.args.state.now c.args.thread c.args.func c.requires c.in-Err.refusal c.of.result c.ins.result.now c.of.ensures (said (goal.at.returns-in-Err-clause-stopped c).After-ins) c.in-Err.ensures.refused
