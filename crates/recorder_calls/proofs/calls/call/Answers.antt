use Rattle.std.proofs.Common.{None, Some, sym, ◌∙◌, subst}
use Rattle.marks.specs.declared.side.Side.TheVariants.{Replay, System}
use Rattle.whole_runs.specs.World.{may_run}
use Rattle.recorder_threads.specs.declared.wants.Want.TheVariants as wants
use Rattle.recorder_state.specs.Inputs.{world_of}
use Rattle.recorder_plain.proofs.Breaches.{broken, kept}
use Rattle.recorder_plain.proofs.Steps.{is_started}
use Rattle.recorder_calls.specs.Calls.{IsFilled, IsFirstForbidden}
use Rattle.recorder_calls.proofs.CallModes.{EndsBy, at_call, indirect_breaks, registered_breaks}
use Rattle.recorder_calls.proofs.calls.call.Goals as goal

pub returns-then-not-keeps_mode-clause-stopped : goal.returns-then-not-keeps_mode-clause-stopped
returns-then-not-keeps_mode-clause-stopped c =
    let off = broken c.args.indirect (may_run c.args.inputs.placed.now System c.args.func) (sym c.keeps_mode.ensures ∙ c.if-not-keeps_mode.true) in
    indirect_breaks (world_of c.args.inputs) c.args.state.now c.args.thread c.args.func c.args.indirect c.requires c.of.result
    (subst (λ r. EndsBy c.args.thread r c.of.result) c.mode_breach.ensures c.of.ensures) off.0 off.1

pub args-requires : goal.args-requires
args-requires c = is_started (world_of c.args.inputs) c.args.state.now c.args.thread Replay (wants.Call c.args.indirect c.args.func) c.requires

pub fill-requires : goal.fill-requires
fill-requires c = c.requires.reached.fit.code.valid

pub returns-in-Some-clause-stopped : goal.returns-in-Some-clause-stopped
returns-in-Some-clause-stopped c =
    registered_breaks (world_of c.args.inputs) c.args.state.now c.args.thread c.args.func c.args.indirect c.requires
    (kept c.args.indirect (may_run c.args.inputs.placed.now System c.args.func) (sym c.keeps_mode.ensures ∙ c.if-not-keeps_mode.false))
    c.fill.new.self
    (subst (λ xs. IsFilled (world_of c.args.inputs) c.args.func xs c.fill.new.self) c.args-2.ensures c.in_default.ensures)
    c.in-Some.other c.of-in-Some.result
    (subst (λ fs. IsFirstForbidden c.args.inputs.placed.now.replay fs (Some c.in-Some.other)) c.registers.ensures c.in-Some.ensures)
    (subst (λ r. EndsBy c.args.thread r c.of-in-Some.result) c.mode_breach-in-Some.ensures c.of-in-Some.ensures)

pub call_filled-requires : goal.call_filled-requires
call_filled-requires c =
    at_call (world_of c.args.inputs) c.args.state.now c.args.thread c.args.func c.args.indirect c.requires
    (kept c.args.indirect (may_run c.args.inputs.placed.now System c.args.func) (sym c.keeps_mode.ensures ∙ c.if-not-keeps_mode.false))
    c.fill.new.self
    (subst (λ xs. IsFilled (world_of c.args.inputs) c.args.func xs c.fill.new.self) c.args-2.ensures c.in_default.ensures)
    (subst (λ fs. IsFirstForbidden c.args.inputs.placed.now.replay fs None) c.registers.ensures c.in_default-first_forbidden.ensures)
