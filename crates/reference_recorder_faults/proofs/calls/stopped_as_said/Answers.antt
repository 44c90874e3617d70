use Rattle.std.proofs.Common.{◌≡◌, ℕ, Bool, ◌++◌, List, refl, ap, ◌∙◌}
use Rattle.std.proofs.lemmas.Result.{IfOk-weaker}
use Rattle.marks.specs.declared.side.Side.TheVariants.{Replay}
use Rattle.marks.specs.declared.range.Range.{Range}
use Rattle.marks.specs.Ranges.{Prepared, prepared_ranges}
use Rattle.recorder_threads.specs.declared.wants.Want.TheVariants as told
use Rattle.recorder_state.specs.Inputs.{world_of}
use Rattle.reference_recorder_marks.specs.Marks.{act_of}
use Rattle.reference_recorder_faults.specs.Faults.{IsAtFault, IsFaultAct}
use Rattle.reference_recorder_faults.specs.Ranges.{IsStoppedIn}
use Rattle.reference_recorder_faults.proofs.Found.{does_so, stopped_in, there}
use Rattle.reference_recorder_faults.proofs.calls.stopped_as_said.Goals.{After-deref}
use Rattle.reference_recorder_faults.proofs.calls.stopped_as_said.Goals as goal

stops : (c : After-deref) (t : ℕ) (i : Bool) (f : IsAtFault (world_of c.args.inputs) c.args.marks.now t Replay c.args.args.now (told.Call i c.args.func) c.args.kind) →
    IsStoppedIn (world_of c.args.inputs) c.args.inputs.placed.now c.args.marks.now c.ins.result.now c.deref.result.now c.args.kind
    (there (world_of c.args.inputs) c.args.marks.now t Replay c.args.args.now (told.Call i c.args.func) c.args.kind f).mark.act
stops c t i f =
    let w = world_of c.args.inputs in
    stopped_in w c.args.marks.now t Replay c.args.args.now (told.Call i c.args.func) c.args.kind f refl i c.args.func refl c.args.inputs.placed.now refl
    c.say.new.done (c.in_ok-say.ensures w (record { code = refl; stubs = refl })) c.ins.result.now c.deref.result.now c.ins.ensures
    (c.deref.ensures.value ∙ (c.in_ok-held.ensures
    ∙ (ap (λ (rs : List Range). rs ++ prepared_ranges c.prepares.result.now) c.outs.ensures
    ∙ ap (λ (ps : List Prepared). c.say.new.done.outs ++ prepared_ranges ps) c.prepares.ensures)))

pub stopped_at-requires : goal.stopped_at-requires
stopped_at-requires c =
    let w = world_of c.args.inputs in
    (w, (there w c.args.marks.now c.requires.0 Replay c.args.args.now (told.Call c.requires.1 c.args.func) c.args.kind c.requires.2).mark.act, stops (goal.at.stopped_at-requires c).After-deref c.requires.0 c.requires.1 c.requires.2)

pub returns : goal.returns
returns c = λ t i f.
    let w = world_of c.args.inputs in
    let act = (there w c.args.marks.now t Replay c.args.args.now (told.Call i c.args.func) c.args.kind f).mark.act in
    IfOk-weaker c.stopped_at.result (λ made. act ≡ act_of made) (IsFaultAct w f.at.past.run f.at.step c.args.kind)
    (λ made e. does_so w c.args.marks.now t Replay c.args.args.now (told.Call i c.args.func) c.args.kind f made e)
    (c.stopped_at.ensures w act (stops (goal.at.returns c).After-deref t i f))
