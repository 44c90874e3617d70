use Rattle.std.proofs.Common.{ℕ, IfOk, false, [], refl, sym, ap, ◌∙◌, subst}
use Rattle.marks.specs.declared.side.Side.TheVariants.{Replay}
use Rattle.marks.specs.declared.range.Range.{Range}
use Rattle.marks.specs.Marks.{Fault, Reading, Writing}
use Rattle.recorder_threads.specs.declared.wants.Want.{Want}
use Rattle.recorder_state.specs.Inputs.{world_of}
use Rattle.reference_recorder_faults.specs.Faults.{IsAtFault, IsFaultAct}
use Rattle.reference_recorder_faults.proofs.Found.{at_enter, at_fault, at_free, at_load, at_store, does_so, never_above}
use Rattle.reference_recorder_faults.proofs.above.act_above.Goals as goal

pub returns-in-Load : goal.returns-in-Load
returns-in-Load c = λ t f.
    does_so (world_of c.args.inputs) c.args.marks.now t Replay c.args.args.now c.args.want c.args.kind f c.bare.result
    (at_load (world_of c.args.inputs) c.args.marks.now t Replay c.args.args.now c.args.want c.args.kind f c.in-Load.addr c.in-Load.width c.in-Load.is ∙ sym (c.bare.ensures ∙ ap (λ (r : Range). Fault c.args.kind false [] [] (Reading r)) c.range_at.ensures))

pub returns-in-Store : goal.returns-in-Store
returns-in-Store c = λ t f.
    does_so (world_of c.args.inputs) c.args.marks.now t Replay c.args.args.now c.args.want c.args.kind f c.bare-in-Store.result
    (at_store (world_of c.args.inputs) c.args.marks.now t Replay c.args.args.now c.args.want c.args.kind f c.in-Store.addr c.in-Store.width c.in-Store.value c.in-Store.is ∙ sym (c.bare-in-Store.ensures ∙ ap (λ (r : Range). Fault c.args.kind false [] [] (Writing r)) c.range_at-in-Store.ensures))

pub returns-in-Enter : goal.returns-in-Enter
returns-in-Enter c = λ t f.
    does_so (world_of c.args.inputs) c.args.marks.now t Replay c.args.args.now c.args.want c.args.kind f c.bare-in-Enter.result
    (at_enter (world_of c.args.inputs) c.args.marks.now t Replay c.args.args.now c.args.want c.args.kind f c.in-Enter.indirect c.in-Enter.func c.in-Enter.size c.in-Enter.is ∙ sym c.bare-in-Enter.ensures)

pub returns-in-Free : goal.returns-in-Free
returns-in-Free c = λ t f.
    does_so (world_of c.args.inputs) c.args.marks.now t Replay c.args.args.now c.args.want c.args.kind f c.bare-in-Free.result
    (at_free (world_of c.args.inputs) c.args.marks.now t Replay c.args.args.now c.args.want c.args.kind f c.in-Free.addr c.in-Free.is ∙ sym c.bare-in-Free.ensures)

pub returns-in-Fault : goal.returns-in-Fault
returns-in-Fault c = λ t f.
    does_so (world_of c.args.inputs) c.args.marks.now t Replay c.args.args.now c.args.want c.args.kind f c.bare-in-Fault.result
    (at_fault (world_of c.args.inputs) c.args.marks.now t Replay c.args.args.now c.args.want c.args.kind f c.in-Fault.field-0 c.in-Fault.is ∙ sym c.bare-in-Fault.ensures)

pub returns-in-Call : goal.returns-in-Call
returns-in-Call c =
    let w = world_of c.args.inputs in
    subst (λ (v : Want). (t : ℕ) (f : IsAtFault w c.args.marks.now t Replay c.args.args.now v c.args.kind) → IfOk c.stopped_call.result (IsFaultAct w f.at.past.run f.at.step c.args.kind))
    (sym c.in-Call.is) (λ t f. c.stopped_call.ensures t c.in-Call.indirect f)

pub unreachable-requires : goal.unreachable-requires
unreachable-requires c =
    never_above (world_of c.args.inputs) c.args.marks.now c.requires.0 Replay c.args.args.now c.args.want c.args.kind c.requires.1 refl c.in-Turn.is
