use Rattle.std.proofs.Common.{◌≡◌, false, [], refl, sym, ap, ◌∙◌}
use Rattle.std.proofs.lemmas.Result.{IfOk-weaker}
use Rattle.marks.specs.declared.side.Side.TheVariants.{System}
use Rattle.marks.specs.declared.range.Range.{Range}
use Rattle.marks.specs.Marks.{Fault, Reading, Writing}
use Rattle.whole_runs.specs.Outcomes.{builtin_of}
use Rattle.whole_runs.specs.Steps.{fault_below}
use Rattle.recorder_state.specs.Inputs.{world_of}
use Rattle.reference_recorder_marks.specs.Marks.{act_of}
use Rattle.reference_recorder_faults.specs.Faults.{IsActOfFault}
use Rattle.reference_recorder_faults.proofs.Found.{at_back, at_enter, at_fault, at_load, at_step, at_store, does_so, never_below}
use Rattle.reference_recorder_faults.proofs.below.act_below.Goals as goal

pub returns-in-Load : goal.returns-in-Load
returns-in-Load c = λ marks t f.
    does_so (world_of c.args.inputs) marks t System c.args.args.now c.args.want c.args.kind f c.bare.result
    (at_load (world_of c.args.inputs) marks t System c.args.args.now c.args.want c.args.kind f c.in-Load.addr c.in-Load.width c.in-Load.is ∙ sym (c.bare.ensures ∙ ap (λ (r : Range). Fault c.args.kind false [] [] (Reading r)) c.range_at.ensures))

pub returns-in-Store : goal.returns-in-Store
returns-in-Store c = λ marks t f.
    does_so (world_of c.args.inputs) marks t System c.args.args.now c.args.want c.args.kind f c.bare-in-Store.result
    (at_store (world_of c.args.inputs) marks t System c.args.args.now c.args.want c.args.kind f c.in-Store.addr c.in-Store.width c.in-Store.value c.in-Store.is ∙ sym (c.bare-in-Store.ensures ∙ ap (λ (r : Range). Fault c.args.kind false [] [] (Writing r)) c.range_at-in-Store.ensures))

pub returns-in-Enter : goal.returns-in-Enter
returns-in-Enter c = λ marks t f.
    does_so (world_of c.args.inputs) marks t System c.args.args.now c.args.want c.args.kind f c.bare-in-Enter.result
    (at_enter (world_of c.args.inputs) marks t System c.args.args.now c.args.want c.args.kind f c.in-Enter.indirect c.in-Enter.func c.in-Enter.size c.in-Enter.is ∙ sym c.bare-in-Enter.ensures)

pub returns-in-CallBack : goal.returns-in-CallBack
returns-in-CallBack c = λ marks t f.
    does_so (world_of c.args.inputs) marks t System c.args.args.now c.args.want c.args.kind f c.bare-in-CallBack.result
    (at_back (world_of c.args.inputs) marks t System c.args.args.now c.args.want c.args.kind f c.in-CallBack.func c.in-CallBack.size c.in-CallBack.is ∙ sym c.bare-in-CallBack.ensures)

pub returns-in-Fault : goal.returns-in-Fault
returns-in-Fault c = λ marks t f.
    does_so (world_of c.args.inputs) marks t System c.args.args.now c.args.want c.args.kind f c.bare-in-Fault.result
    (at_fault (world_of c.args.inputs) marks t System c.args.args.now c.args.want c.args.kind f c.in-Fault.field-0 c.in-Fault.is ∙ sym c.bare-in-Fault.ensures)

pub returns-in-Step : goal.returns-in-Step
returns-in-Step c =
    let w = world_of c.args.inputs in
    IfOk-weaker c.step_act.result (λ act. act_of act ≡ fault_below w c.args.kind c.in-Step.func c.args.args.now (builtin_of c.in-Step.func))
    (IsActOfFault w System c.args.args.now c.args.want c.args.kind)
    (λ act e. λ marks t f. does_so w marks t System c.args.args.now c.args.want c.args.kind f act
    (at_step w marks t System c.args.args.now c.args.want c.args.kind f refl c.in-Step.indirect c.in-Step.func c.in-Step.is ∙ sym e))
    c.step_act.ensures

pub unreachable-requires : goal.unreachable-requires
unreachable-requires c =
    never_below (world_of c.args.inputs) c.requires.0 c.requires.1 System c.args.args.now c.args.want c.args.kind c.requires.2 refl c.in-Turn.is
