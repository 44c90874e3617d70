use Rattle.std.proofs.Common.{refl, sym, ap, ◌∙◌, subst}
use Rattle.marks.specs.Marks.{Enter, Leave, Made, Store}
use Rattle.reference_recorder_marks.specs.Marks.{act_of, event_of}
use Rattle.reference_recorder_spaces.specs.Next.{IsNext}
use Rattle.reference_recorder_spaces.proofs.Answered.{on_ok}
use Rattle.reference_recorder_spaces.proofs.Still.{done_as}
use Rattle.reference_recorder_spaces.proofs.after.apply.Goals as goal

pub store-requires : goal.store-requires
store-requires c =
    let r = c.in-Store in
    (r.origin, subst (IsNext c.args.spaces.now c.args.thread) (ap act_of r.is ∙ ap (Store r.origin r.at) (sym c.as_slice.ensures)) c.requires)

pub enter-requires-clause-next : goal.enter-requires-clause-next
enter-requires-clause-next c =
    let r = c.in-Enter in
    (r.func, r.args, r.at, subst (IsNext c.args.spaces.now c.args.thread) (ap act_of r.is ∙ ap (Enter r.func r.args r.at) (sym c.as_slice-in-Enter.ensures)) c.requires)

pub returns-in-Store : goal.returns-in-Store
returns-in-Store c =
    let r = c.in-Store in
    done_as c.args.spaces.now c.args.thread (act_of c.args.act.now) (Store r.origin r.at c.as_slice.result.now) c.store.new.spaces
    (ap act_of r.is ∙ ap (Store r.origin r.at) (sym c.as_slice.ensures)) (c.store.ensures r.origin)

pub returns-in-Enter : goal.returns-in-Enter
returns-in-Enter c =
    let r = c.in-Enter in
    done_as c.args.spaces.now c.args.thread (act_of c.args.act.now) (Enter r.func r.args r.at c.as_slice-in-Enter.result.now) c.enter.new.spaces
    (ap act_of r.is ∙ ap (Enter r.func r.args r.at) (sym c.as_slice-in-Enter.ensures)) (c.enter.ensures r.func r.args r.at)

pub returns-in-Leave : goal.returns-in-Leave
returns-in-Leave c =
    let r = c.in-Leave in
    done_as c.args.spaces.now c.args.thread (act_of c.args.act.now) (Leave r.at r.size) c.leave.new.spaces (ap act_of r.is) (c.leave.ensures r.at r.size)

pub returns-in-Made : goal.returns-in-Made
returns-in-Made c =
    let r = c.in-Made in
    on_ok c.make.result
    (λ m. done_as c.args.spaces.now c.args.thread (act_of c.args.act.now) (Made (event_of r.event)) c.make.new.spaces (ap act_of r.is) (m (event_of r.event) refl))
    c.make.ensures
