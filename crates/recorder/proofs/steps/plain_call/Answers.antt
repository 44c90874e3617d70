use Rattle.std.proofs.Common.{◌≡◌, Some, None, sym, ◌∙◌, subst}
use Rattle.whole_runs.specs.Outcomes.{builtin_of}
use Rattle.recorder_threads.specs.declared.wants.Want.TheVariants as wants
use Rattle.recorder_state.specs.Inputs.{world_of}
use Rattle.recorder_state.specs.Turns.{IsAtStep}
use Rattle.recorder.proofs.Known.{numbered, unnumbered}
use Rattle.recorder.proofs.steps.plain_call.Goals as goal

pub returns-in-Replay-clause-stopped : goal.returns-in-Replay-clause-stopped
returns-in-Replay-clause-stopped c =
    let w = world_of c.args.inputs in
    let s = c.args.state.now in
    c.step.ensures w s c.args.indirect (subst (λ d. IsAtStep w s c.args.thread d (wants.Step c.args.indirect c.args.func)) c.in-Replay.is c.requires)

pub builtin-requires-clause-builtin : goal.builtin-requires-clause-builtin
builtin-requires-clause-builtin c = subst (λ f. builtin_of f ≡ Some c.in-Some.builtin) ((c.of_number.ensures c.in-Some.builtin).0 c.in-Some.is) (numbered c.in-Some.builtin)

pub external-requires-clause-external : goal.external-requires-clause-external
external-requires-clause-external c = unnumbered c.args.func (λ b same. absurd (let no : None ≡ Some b = sym c.in-None.is ∙ (c.of_number.ensures b).1 same in cc))
