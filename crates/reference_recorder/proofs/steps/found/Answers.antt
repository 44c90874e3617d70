use Rattle.std.proofs.Common.{refl, arith}
use Rattle.recorder_state.specs.Inputs.{world_of}
use Rattle.reference_recorder.proofs.Answered.{if_ok}
use Rattle.reference_recorder.proofs.Asking.{is_asked}
use Rattle.reference_recorder.proofs.Going.{low_past, of_step}
use Rattle.reference_recorder.proofs.Turning.{small_thread}
use Rattle.reference_recorder.proofs.steps.found.Goals as goal

pub first_found-requires : goal.first_found-requires
first_found-requires c =
    let at = c.requires.at in
    let lt = small_thread (world_of c.args.inputs) at.past.run at.past.fit at.past.follows at.step in
    let e = at.of_thread in
    omega (arith, lt, e)

pub returns : goal.returns
returns c = λ at h.
    let w = world_of c.args.inputs in
    if_ok c.first_found.result (of_step w c.args.marks.now c.args.thread c.args.side c.args.args.now c.args.want at)
    (c.first_found.ensures w at.past.run at.step.want
    (record { is = record { placed = refl; same = at.past.same }; low = low_past w c.args.marks.now at.past })
    (record { code = refl; stubs = refl })
    (is_asked w c.args.marks.now c.args.thread c.args.side c.args.args.now c.args.want c.args.given at h))
