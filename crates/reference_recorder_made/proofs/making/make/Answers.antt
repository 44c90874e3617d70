use Rattle.std.specs.Prelude.{Some}
use Rattle.marks.specs.declared.side.Side.TheVariants.{Replay, System}
use Rattle.recorder_threads.specs.declared.wants.Want.TheVariants as told
use Rattle.recorder_state.specs.Inputs.{world_of}
use Rattle.reference_recorder_given.specs.Given.{shown}
use Rattle.reference_recorder_acts.specs.Acts.{by_call}
use Rattle.reference_recorder_made.specs.Asking.{IsGivenTo}
use Rattle.reference_recorder_made.proofs.Wanted.{alone_makes, alone_makes_any, as_alone, as_told, given_so, gives_next, no_fault, step_below, told_made, told_makes, told_makes_any}
use Rattle.reference_recorder_made.proofs.making.make.Goals as goal

pub turn-requires : goal.turn-requires
turn-requires c =
    (world_of c.args.inputs, (c.args.args.now, as_told c.requires.at told.Turn c.in-Turn.is))

pub returns-in-Turn : goal.returns-in-Turn
returns-in-Turn c =
    told_made c.requires.at told.Turn c.in-Turn.is c.turn.result (c.turn.ensures (world_of c.args.inputs))

pub load-requires : goal.load-requires
load-requires c =
    (c.args.args.now, as_told c.requires.at (told.Load c.in-Load.addr c.in-Load.width) c.in-Load.is)

pub returns-in-Load : goal.returns-in-Load
returns-in-Load c =
    told_makes_any c.requires.at (told.Load c.in-Load.addr c.in-Load.width) c.in-Load.is c.load.result c.load.ensures

pub store-requires : goal.store-requires
store-requires c =
    (world_of c.args.inputs, (c.args.args.now, as_told c.requires.at (told.Store c.in-Store.addr c.in-Store.width c.in-Store.value) c.in-Store.is))

pub returns-in-Store : goal.returns-in-Store
returns-in-Store c =
    told_makes_any c.requires.at (told.Store c.in-Store.addr c.in-Store.width c.in-Store.value) c.in-Store.is c.store.result
    (c.store.ensures (world_of c.args.inputs))

pub leave-requires : goal.leave-requires
leave-requires c =
    (world_of c.args.inputs, (c.args.args.now, as_told c.requires.at told.Leave c.in-Leave.is))

pub returns-in-Leave : goal.returns-in-Leave
returns-in-Leave c =
    told_makes_any c.requires.at told.Leave c.in-Leave.is c.leave.result (c.leave.ensures (world_of c.args.inputs))

pub enter-requires : goal.enter-requires
enter-requires c =
    record {
      said = told.Enter c.in-Enter.indirect c.in-Enter.func c.in-Enter.size;
      to = as_told c.requires.at (told.Enter c.in-Enter.indirect c.in-Enter.func c.in-Enter.size) c.in-Enter.is;
      frame = by_call c.in-Enter.indirect c.in-Enter.size;
    }

pub returns-in-Enter : goal.returns-in-Enter
returns-in-Enter c =
    told_makes c.requires.at (told.Enter c.in-Enter.indirect c.in-Enter.func c.in-Enter.size) c.in-Enter.is c.enter.result
    (λ to. c.enter.ensures (record {
      said = told.Enter c.in-Enter.indirect c.in-Enter.func c.in-Enter.size;
      to = to;
      frame = by_call c.in-Enter.indirect c.in-Enter.size;
    }))

pub alloc_block-requires : goal.alloc_block-requires
alloc_block-requires c =
    (c.args.args.now, as_alone c.requires.at (told.Alloc c.in-Alloc.size) c.in-Alloc.is Replay (λ there. there))

pub returns-in-Alloc : goal.returns-in-Alloc
returns-in-Alloc c =
    alone_makes_any c.requires.at (told.Alloc c.in-Alloc.size) c.in-Alloc.is Replay (λ there. there) c.alloc_block.result c.alloc_block.ensures

pub free_block-requires : goal.free_block-requires
free_block-requires c =
    (c.args.args.now, as_alone c.requires.at (told.Free c.in-Free.addr) c.in-Free.is Replay (λ there. there))

pub returns-in-Free : goal.returns-in-Free
returns-in-Free c =
    alone_makes_any c.requires.at (told.Free c.in-Free.addr) c.in-Free.is Replay (λ there. there) c.free_block.result c.free_block.ensures

pub up_return-requires : goal.up_return-requires
up_return-requires c =
    (c.args.args.now, as_alone c.requires.at (told.UpReturn c.in-UpReturn.result) c.in-UpReturn.is Replay (λ there. there))

pub returns-in-UpReturn : goal.returns-in-UpReturn
returns-in-UpReturn c =
    alone_makes_any c.requires.at (told.UpReturn c.in-UpReturn.result) c.in-UpReturn.is Replay (λ there. there)
    c.up_return.result c.up_return.ensures

pub call-requires : goal.call-requires
call-requires c =
    record {
      indirect = c.in-Call.indirect;
      next = as_alone c.requires.at (told.Call c.in-Call.indirect c.in-Call.func) c.in-Call.is Replay (λ there. there);
    }

pub returns-in-Call : goal.returns-in-Call
returns-in-Call c =
    alone_makes c.requires.at (told.Call c.in-Call.indirect c.in-Call.func) c.in-Call.is Replay (λ there. there) c.call.result
    (λ to. c.call.ensures (record { indirect = c.in-Call.indirect; next = to }))

pub body_return-requires : goal.body_return-requires
body_return-requires c =
    as_alone c.requires.at (told.Return c.in-Return.func c.in-Return.result) c.in-Return.is Replay (λ there. there)

pub returns-in-Return : goal.returns-in-Return
returns-in-Return c =
    alone_makes c.requires.at (told.Return c.in-Return.func c.in-Return.result) c.in-Return.is Replay (λ there. there)
    c.body_return.result c.body_return.ensures

pub call_back-requires : goal.call_back-requires
call_back-requires c =
    as_alone c.requires.at (told.CallBack c.in-CallBack.func c.in-CallBack.size) c.in-CallBack.is System (λ there. there)

pub returns-in-CallBack : goal.returns-in-CallBack
returns-in-CallBack c =
    alone_makes c.requires.at (told.CallBack c.in-CallBack.func c.in-CallBack.size) c.in-CallBack.is System (λ there. there)
    c.call_back.result c.call_back.ensures

pub give_return-requires : goal.give_return-requires
give_return-requires c =
    gives_next c.args.threads.now c.requires.threads (shown c.args.given)
    (given_so (world_of c.args.inputs) c.args.marks.now c.args.thread c.args.args.now c.args.want (told.Give c.in-Give.func) (shown c.args.given)
    c.in-Give.is c.requires.given)
    (as_alone c.requires.at (told.Give c.in-Give.func) c.in-Give.is Replay (λ there. there))

pub returns-in-Give : goal.returns-in-Give
returns-in-Give c =
    alone_makes c.requires.at (told.Give c.in-Give.func) c.in-Give.is Replay (λ there. there) c.give_return.result
    (λ to. c.give_return.ensures (gives_next c.args.threads.now c.requires.threads (shown c.args.given)
    (given_so (world_of c.args.inputs) c.args.marks.now c.args.thread c.args.args.now c.args.want (told.Give c.in-Give.func) (shown c.args.given)
    c.in-Give.is c.requires.given) to))

pub step-requires-clause-at : goal.step-requires-clause-at
step-requires-clause-at c =
    as_alone c.requires.at (told.Step c.in-Step.indirect c.in-Step.func) c.in-Step.is System
    (λ any. step_below c.in-Step.indirect c.in-Step.func (as_told c.requires.at (told.Step c.in-Step.indirect c.in-Step.func) c.in-Step.is))

pub step-requires-clause-given : goal.step-requires-clause-given
step-requires-clause-given c =
    let gives : IsGivenTo (world_of c.args.inputs) c.args.marks.now c.args.thread c.args.args.now (Some c.in-Step.func) (shown c.args.given) =
    given_so (world_of c.args.inputs) c.args.marks.now c.args.thread c.args.args.now c.args.want
    (told.Step c.in-Step.indirect c.in-Step.func) (shown c.args.given) c.in-Step.is c.requires.given in
    gives.0

pub step-requires-clause-more : goal.step-requires-clause-more
step-requires-clause-more c =
    let gives : IsGivenTo (world_of c.args.inputs) c.args.marks.now c.args.thread c.args.args.now (Some c.in-Step.func) (shown c.args.given) =
    given_so (world_of c.args.inputs) c.args.marks.now c.args.thread c.args.args.now c.args.want
    (told.Step c.in-Step.indirect c.in-Step.func) (shown c.args.given) c.in-Step.is c.requires.given in
    gives.1

pub returns-in-Step : goal.returns-in-Step
returns-in-Step c =
    alone_makes c.requires.at (told.Step c.in-Step.indirect c.in-Step.func) c.in-Step.is System
    (λ any. step_below c.in-Step.indirect c.in-Step.func (as_told c.requires.at (told.Step c.in-Step.indirect c.in-Step.func) c.in-Step.is))
    c.step.result c.step.ensures

pub unreachable-requires : goal.unreachable-requires
unreachable-requires c =
    no_fault c.in-Fault.field-0 (as_told c.requires.at (told.Fault c.in-Fault.field-0) c.in-Fault.is)
