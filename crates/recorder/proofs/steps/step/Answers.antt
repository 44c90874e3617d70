use Rattle.std.proofs.Common.{subst}
use Rattle.recorder_state.specs.Inputs.{world_of}
use Rattle.recorder_state.specs.Turns.{IsAtStep}
use Rattle.recorder.proofs.Sides.{alloc_above, call_above, call_back_below, free_above, give_above, return_above, up_return_above}
use Rattle.recorder.proofs.steps.step.Goals as goal

pub alloc-requires : goal.alloc-requires
alloc-requires c =
    let w = world_of c.args.inputs in
    let s = c.args.state.now in
    alloc_above w s c.args.thread c.args.side c.in-Alloc.size (subst (IsAtStep w s c.args.thread c.args.side) c.in-Alloc.is c.requires.at)

pub free-requires : goal.free-requires
free-requires c =
    let w = world_of c.args.inputs in
    let s = c.args.state.now in
    free_above w s c.args.thread c.args.side c.in-Free.addr (subst (IsAtStep w s c.args.thread c.args.side) c.in-Free.is c.requires.at)

pub call-requires : goal.call-requires
call-requires c =
    let w = world_of c.args.inputs in
    let s = c.args.state.now in
    call_above w s c.args.thread c.args.side c.in-Call.indirect c.in-Call.func (subst (IsAtStep w s c.args.thread c.args.side) c.in-Call.is c.requires.at)

pub give-requires : goal.give-requires
give-requires c =
    let w = world_of c.args.inputs in
    let s = c.args.state.now in
    give_above w s c.args.thread c.args.side c.in-Give.func (subst (IsAtStep w s c.args.thread c.args.side) c.in-Give.is c.requires.at)

pub return_from-requires : goal.return_from-requires
return_from-requires c =
    let w = world_of c.args.inputs in
    let s = c.args.state.now in
    return_above w s c.args.thread c.args.side c.in-Return.func c.in-Return.result (subst (IsAtStep w s c.args.thread c.args.side) c.in-Return.is c.requires.at)

pub up_return-requires : goal.up_return-requires
up_return-requires c =
    let w = world_of c.args.inputs in
    let s = c.args.state.now in
    up_return_above w s c.args.thread c.args.side c.in-UpReturn.result (subst (IsAtStep w s c.args.thread c.args.side) c.in-UpReturn.is c.requires.at)

pub call_back-requires-clause-at : goal.call_back-requires-clause-at
call_back-requires-clause-at c =
    let w = world_of c.args.inputs in
    let s = c.args.state.now in
    call_back_below w s c.args.thread c.args.side c.in-CallBack.func c.in-CallBack.size (subst (IsAtStep w s c.args.thread c.args.side) c.in-CallBack.is c.requires.at)
