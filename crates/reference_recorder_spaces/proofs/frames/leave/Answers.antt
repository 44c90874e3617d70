use Rattle.reference_recorder_spaces.proofs.Answered.{not_both}
use Rattle.reference_recorder_spaces.proofs.Framed.{frame_there, leaves, may_leave}
use Rattle.reference_recorder_spaces.proofs.frames.leave.Goals as goal

pub leave-requires-clause-frame : goal.leave-requires-clause-frame
leave-requires-clause-frame c = frame_there c.args.spaces.now c.args.thread c.requires.frame.0 c.requires.frame.1 c.requires.in_range c.requires.frame.2

pub unreachable-requires : goal.unreachable-requires
unreachable-requires c =
    let n = c.requires.frame in
    may_leave c.args.spaces.now c.args.thread n.0 n.1 c.requires.in_range n.2 c.in-Err.field-0 ((c.leave.ensures.refused c.in-Err.field-0).0 c.in-Err.is)

pub returns : goal.returns
returns c = λ at size n. leaves c.args.spaces.now c.args.thread at size c.requires.in_range n c.leave.new.self c.in-Ok.field-0
    (λ r p. not_both c.leave.result c.in-Ok.field-0 r c.in-Ok.is ((c.leave.ensures.refused r).1 p))
    (record { frames = c.in-Ok.ensures.left; sides = c.in-Ok.ensures.others; dead = c.in-Ok.ensures.dead; held = c.leave.ensures.held })
