use Rattle.std.proofs.Common.{[], length, sym, ap, ◌∙◌, subst}
use Rattle.std.proofs.lemmas.Result.{IfOk-weaker}
use Rattle.c_code.specs.Machine.{func_of}
use Rattle.stub_operations.specs.Stubs.{added_at, or_none}
use Rattle.stub_meaning.specs.Calls.{Done}
use Rattle.stub_meaning.specs.Meaning.{called, first_of}
use Rattle.recorder_state.specs.Inputs.{world_of}
use Rattle.reference_recorder_marks.specs.Marks.{kind_of, past}
use Rattle.reference_recorder_call_events.specs.Returns.{HasRegion, IsRetDone}
use Rattle.reference_recorder_call_events.proofs.Rets.{are_counted}
use Rattle.reference_recorder_call_events.proofs.returns.return_mark.Goals as goal

pub return_kind-requires-clause-counted : goal.return_kind-requires-clause-counted
return_kind-requires-clause-counted c =
    let w = world_of c.args.memory.inputs in
    let ended = c.args.ended in
    ap (λ (d : Done). length d.used) (c.in_ok-say.ensures w c.annotations-annotations.ensures)
    ∙ (are_counted w ended.func ended.args.now ended.value ∙ ap length (sym (c.deref.ensures.value ∙ c.in_ok-regions.ensures)))

pub return_kind-requires-clause-region : goal.return_kind-requires-clause-region
return_kind-requires-clause-region c =
    subst (HasRegion (past c.args.memory.marks.now)) (sym (ap (λ (d : Done). first_of d.commits) (c.in_ok-say.ensures (world_of c.args.memory.inputs) c.annotations-annotations.ensures)))
    c.requires.region

pub returns : goal.returns
returns c =
    let w = world_of c.args.memory.inputs in
    let ended = c.args.ended in
    let kind = kind_of c.in_ok-kind.kind in
    let code = w.laid.code in
    let ops = or_none (added_at w.stubs ended.func) in
    let begun = called (func_of code ended.func) ended.args.now 0 in
    let over = called (func_of code ended.func) ended.args.now ended.value in
    let is = c.in_ok-say.ensures w c.annotations-annotations.ensures in
    IfOk-weaker c.next_event.result _ _
    (λ mark event. record {
      done = c.say.new.done;
      done_is = is;
      keys = ap (λ (d : Done). d.keys_at_return) is ∙ sym (c.keys_are_of_arguments.ensures code begun ended.value ops).at_return;
      cached = ap (λ (d : Done). d.is_cached) is ∙ c.caching_is_of_the_function.ensures code over (called (func_of code ended.func) [] 0) ops;
      kind = kind;
      ret = subst (λ rs. IsRetDone c.args.memory ended.thread ended.func ended.args.now ended.value rs c.say.new.done kind) (c.deref.ensures.value ∙ c.in_ok-regions.ensures) c.in_ok-kind.ensures;
      event = event;
    })
    c.next_event.ensures
