use Rattle.std.proofs.Common.{◌++◌, ap, sym, ◌∙◌, subst}
use Rattle.recorder_state.specs.Inputs.{world_of}
use Rattle.reference_recorder_threads.specs.Telling.{AreThreadsAfter}
use Rattle.reference_recorder_end.specs.Ends.{AreAtEnd}
use Rattle.reference_recorder_end.proofs.Ended.{threads_at_end, whole_as}
use Rattle.reference_recorder_end.proofs.end.finish.Goals as goal

pub stops_of-requires : goal.stops_of-requires
stops_of-requires c =
    let w = world_of c.args.inputs in
    let marks = c.args.marks.items in
    let threads = c.in_ok-threads.threads in
    subst (λ ms. AreAtEnd w ms threads) (sym (c.deref-3.ensures.value ∙ c.in_ok-run.ensures))
    (threads_at_end w marks c.args.last c.args.ending c.requires threads (subst (λ ms. AreThreadsAfter w ms threads) c.deref.ensures.value c.in_ok-threads.ensures))

pub recorded-requires : goal.recorded-requires
recorded-requires c =
    let w = world_of c.args.inputs in (
      w,
      whole_as w c.args.marks.items c.args.last c.args.ending c.requires c.in_ok-threads.threads c.in_ok-spaces.spaces c.in_ok-stops.stops.items
          c.deref.result.now c.deref-2.result.now c.deref-3.result.now c.deref-4.result.now
          c.deref.ensures.value c.deref-2.ensures.value (c.deref-3.ensures.value ∙ c.in_ok-run.ensures)
          (c.deref-4.ensures.value ∙ c.in_ok-whole.ensures ∙ ap (λ ms. ms ++ c.in_ok-stops.stops.items) (sym c.deref-3.ensures.value))
          c.in_ok-threads.ensures c.in_ok-spaces.ensures c.in_ok-stops.ensures,
    )

pub returns : goal.returns
returns c =
    let w = world_of c.args.inputs in
    c.recorded.ensures w (whole_as w c.args.marks.items c.args.last c.args.ending c.requires c.in_ok-threads.threads c.in_ok-spaces.spaces c.in_ok-stops.stops.items
    c.deref.result.now c.deref-2.result.now c.deref-3.result.now c.deref-4.result.now
    c.deref.ensures.value c.deref-2.ensures.value (c.deref-3.ensures.value ∙ c.in_ok-run.ensures)
    (c.deref-4.ensures.value ∙ c.in_ok-whole.ensures ∙ ap (λ ms. ms ++ c.in_ok-stops.stops.items) (sym c.deref-3.ensures.value))
    c.in_ok-threads.ensures c.in_ok-spaces.ensures c.in_ok-stops.ensures)
