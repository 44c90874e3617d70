use Rattle.std.proofs.Common.{◌≡◌, refl, sym, ◌∙◌, subst}
use Rattle.c_code.specs.MarkLists.{Ends}
use Rattle.whole_runs.specs.Threads.{comes}
use Rattle.whole_runs.specs.Picks.{can_step}
use Rattle.recorder_system.specs.Calls.{HasInt, KeepsRuns, TellsWait}
use Rattle.recorder_threads.specs.Threads.{args_at}
use Rattle.recorder_threads.specs.Wants.{IsNextTold, WantsTold}
use Rattle.recorder_state.specs.Inputs.{world_of}
use Rattle.recorder_state.proofs.Tried.{are_ints, at_step, calls, can_plainly, goes_on, is_started, still_trying}
use Rattle.recorder_state.proofs.Flags.{none_is, unnot}
use Rattle.recorder_state.proofs.state.RunState.turn_of.Goals as goal

pub next_of-requires-clause-started : goal.next_of-requires-clause-started
next_of-requires-clause-started c = is_started (world_of c.args.inputs) c.args.self.now c.args.thread c.requires

pub args-requires : goal.args-requires
args-requires c = is_started (world_of c.args.inputs) c.args.self.now c.args.thread c.requires

pub waits-requires-clause-ints : goal.waits-requires-clause-ints
waits-requires-clause-ints c =
    let w = world_of c.args.inputs in
    let s = c.args.self.now in
    let t = c.args.thread in
    let r = c.requires.trying.reached in
    let n : WantsTold w.laid (args_at s.threads t) c.in-Wants.side c.in-Wants.want (comes w r.past t) = subst (λ x. IsNextTold w.laid (args_at s.threads t) x (comes w r.past t)) c.in-Wants.is (c.next_of.ensures w r.past refl r.around.shown.threads) in
    subst (HasInt c.in-Some.func) (sym c.args-in-Some.ensures) (are_ints w s t c.requires c.in-Wants.side c.in-Wants.want n c.in-Some.func (sym c.asked.ensures ∙ c.in-Some.is))

pub returns-then-waits-clause-blocked : goal.returns-then-waits-clause-blocked
returns-then-waits-clause-blocked c = λ e.
    let w = world_of c.args.inputs in
    let s = c.args.self.now in
    let t = c.args.thread in
    let r = c.requires.trying.reached in
    let n : WantsTold w.laid (args_at s.threads t) c.in-Wants.side c.in-Wants.want (comes w r.past t) = subst (λ x. IsNextTold w.laid (args_at s.threads t) x (comes w r.past t)) c.in-Wants.is (c.next_of.ensures w r.past refl r.around.shown.threads) in
    let keeps : KeepsRuns t c.in-Some.func (args_at s.threads t) s.system c.waits.new.self = subst (λ xs. KeepsRuns t c.in-Some.func xs s.system c.waits.new.self) c.args-in-Some.ensures c.waits.ensures.keeps in
    still_trying w s t c.requires c.waits.new.self (keeps w r.past r.around.system (calls w s t c.requires c.in-Wants.side c.in-Wants.want n c.in-Some.func (sym c.asked.ensures ∙ c.in-Some.is)))

pub unreachable-requires : goal.unreachable-requires
unreachable-requires c =
    let w = world_of c.args.inputs in
    let s = c.args.self.now in
    let t = c.args.thread in
    let r = c.requires.trying.reached in
    let ends : comes w r.past t ≡ Ends c.in-Ended.result = subst (λ x. IsNextTold w.laid (args_at s.threads t) x (comes w r.past t)) c.in-Ended.is (c.next_of.ensures w r.past refl r.around.shown.threads) in
    goes_on w s t c.requires c.in-Ended.result ends

pub returns-else-waits-clause-turn : goal.returns-else-waits-clause-turn
returns-else-waits-clause-turn c =
    let w = world_of c.args.inputs in
    let s = c.args.self.now in
    let t = c.args.thread in
    let r = c.requires.trying.reached in
    let n : WantsTold w.laid (args_at s.threads t) c.in-Wants.side c.in-Wants.want (comes w r.past t) = subst (λ x. IsNextTold w.laid (args_at s.threads t) x (comes w r.past t)) c.in-Wants.is (c.next_of.ensures w r.past refl r.around.shown.threads) in
    let asks = calls w s t c.requires c.in-Wants.side c.in-Wants.want n c.in-Some.func (sym c.asked.ensures ∙ c.in-Some.is) in
    let keeps : KeepsRuns t c.in-Some.func (args_at s.threads t) s.system c.waits.new.self = subst (λ xs. KeepsRuns t c.in-Some.func xs s.system c.waits.new.self) c.args-in-Some.ensures c.waits.ensures.keeps in
    let tells : TellsWait t c.in-Some.func (args_at s.threads t) s.system c.waits.result = subst (λ xs. TellsWait t c.in-Some.func xs s.system c.waits.result) c.args-in-Some.ensures c.waits.ensures.answer in
    at_step w s t c.requires c.in-Wants.side c.in-Wants.want n c.waits.new.self (keeps w r.past r.around.system asks) (unnot (can_step w r.past t) (sym (tells w r.past r.around.system asks) ∙ c.if-waits.false))

pub returns-in_default-clause-turn : goal.returns-in_default-clause-turn
returns-in_default-clause-turn c =
    let w = world_of c.args.inputs in
    let s = c.args.self.now in
    let t = c.args.thread in
    let r = c.requires.trying.reached in
    let n : WantsTold w.laid (args_at s.threads t) c.in-Wants.side c.in-Wants.want (comes w r.past t) = subst (λ x. IsNextTold w.laid (args_at s.threads t) x (comes w r.past t)) c.in-Wants.is (c.next_of.ensures w r.past refl r.around.shown.threads) in
    at_step w s t c.requires c.in-Wants.side c.in-Wants.want n s.system r.around.system (can_plainly w s t c.requires c.in-Wants.side c.in-Wants.want n (sym c.asked.ensures ∙ none_is c.asked.result c.in_default.not-Some))
