use Rattle.std.proofs.lemmas.Result.{IfOk-weaker}
use Rattle.recorder_state.specs.Inputs.{world_of}
use Rattle.reference_recorder_marks.specs.Marks.{kind_of}
use Rattle.reference_recorder_call_events.proofs.calls.call_mark.Goals as goal

pub returns : goal.returns
returns c =
    IfOk-weaker c.next_event.result _ _
    (λ mark event. record {
      done = c.say.new.done;
      done_is = c.in_ok-say.ensures (world_of c.args.memory.inputs) c.annotations-annotations.ensures;
      kind = kind_of c.in_ok-kind.kind;
      call = c.in_ok-kind.ensures;
      event = event;
    })
    c.next_event.ensures
