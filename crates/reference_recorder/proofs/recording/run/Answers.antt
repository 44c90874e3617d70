use Rattle.std.proofs.Common.{sym, subst}
use Rattle.recorder_state.specs.Inputs.{world_of}
use Rattle.reference_recorder_threads.specs.Telling.{IsPast}
use Rattle.reference_recorder.specs.Steps.{ComesNext}
use Rattle.reference_recorder.proofs.Roomy.{come_on, fewer, is_ended, one_more}
use Rattle.reference_recorder.proofs.recording.run.Goals as goal

pub steps-preserved : goal.steps-preserved
steps-preserved c =
    let w = world_of c.args.inputs in
    let p = c.steps.invariant in
    let n = subst (ComesNext w c.steps.marks.items p) c.in-Mark.is (come_on w c.steps.marks.items c.deref.result.now c.deref.ensures.value c.in_ok-mark.field-0 c.in_ok-mark.ensures p) in
    subst (IsPast w) (sym c.in_ok-push-in-Mark.ensures.items) (one_more w c.steps.marks.items p c.in-Mark.mark n)

pub steps-smaller : goal.steps-smaller
steps-smaller c =
    let w = world_of c.args.inputs in
    let p = c.steps.invariant in
    let n = subst (ComesNext w c.steps.marks.items p) c.in-Mark.is (come_on w c.steps.marks.items c.deref.result.now c.deref.ensures.value c.in_ok-mark.field-0 c.in_ok-mark.ensures p) in
    fewer w c.steps.marks.items p c.in-Mark.mark n c.push.new.self.items c.in_ok-push-in-Mark.ensures.items

pub returns-in-End : goal.returns-in-End
returns-in-End c =
    let w = world_of c.args.inputs in
    let p = c.steps.invariant in
    let n = subst (ComesNext w c.steps.marks.items p) c.in-End.is (come_on w c.steps.marks.items c.deref.result.now c.deref.ensures.value c.in_ok-mark.field-0 c.in_ok-mark.ensures p) in
    is_ended w c.steps.marks.items p c.in-End.last c.in-End.ending n
