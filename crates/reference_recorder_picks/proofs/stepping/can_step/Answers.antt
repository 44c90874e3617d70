use Rattle.std.proofs.Common.{◌∙◌, length, sym}
use Rattle.std.proofs.lemmas.Bool.{ltb-false, ltb-true}
use Rattle.recorder_state.specs.Inputs.{world_of}
use Rattle.reference_recorder_picks.proofs.Picking.{cannot_past}
use Rattle.reference_recorder_picks.proofs.stepping.can_step.Goals as goal

pub started_can_step-requires-clause-started : goal.started_can_step-requires-clause-started
started_can_step-requires-clause-started c = ltb-true c.args.thread (length c.args.threads.now) (sym c.is_started.ensures ∙ c.if-is_started.true)

pub returns-else-is_started : goal.returns-else-is_started
returns-else-is_started c = λ p.
    sym (cannot_past (world_of c.args.inputs) c.args.marks.now p c.args.threads.now (c.requires.threads p) c.args.thread (ltb-false c.args.thread (length c.args.threads.now) (sym c.is_started.ensures ∙ c.if-is_started.false)))
