use Rattle.std.proofs.Common.{sym, ◌∙◌}
use Rattle.recorder_state.specs.Inputs.{world_of}
use Rattle.reference_recorder.proofs.Turning.{ends_blocked, ends_budget, ends_done, goes_on}
use Rattle.reference_recorder.proofs.turns.turn.Goals as goal

pub returns-then-all_ended : goal.returns-then-all_ended
returns-then-all_ended c = λ p. ends_done (world_of c.args.inputs) c.args.marks.now p (sym (c.all_ended.ensures p) ∙ c.if-all_ended.true)

pub returns-then-marks-inputs : goal.returns-then-marks-inputs
returns-then-marks-inputs c = λ p. ends_budget (world_of c.args.inputs) c.args.marks.now p (sym (c.all_ended.ensures p) ∙ c.if-all_ended.false) c.if-marks-inputs.true

pub turn_of-requires-clause-next : goal.turn_of-requires-clause-next
turn_of-requires-clause-next c = λ p. record {
  goes_on = goes_on (world_of c.args.inputs) c.args.marks.now p (sym (c.all_ended.ensures p) ∙ c.if-all_ended.false) c.if-marks-inputs.false;
  picked = sym (c.next_thread.ensures p) ∙ c.in-Some.is;
}

pub returns-in-None : goal.returns-in-None
returns-in-None c = λ p. ends_blocked (world_of c.args.inputs) c.args.marks.now p
    (goes_on (world_of c.args.inputs) c.args.marks.now p (sym (c.all_ended.ensures p) ∙ c.if-all_ended.false) c.if-marks-inputs.false)
    (sym (c.next_thread.ensures p) ∙ c.in-None.is)
