use Rattle.reference_recorder_spaces.proofs.Answered.{not_both}
use Rattle.reference_recorder_spaces.proofs.Framed.{enters, fits, frame_writable}
use Rattle.reference_recorder_spaces.proofs.frames.enter.Goals as goal

pub unreachable-requires : goal.unreachable-requires
unreachable-requires c =
    let n = c.requires.next in
    fits c.args.spaces.now c.args.thread n.0 n.1 n.2 c.args.bytes.now c.requires.in_range n.3 c.in-Err.field-0 ((c.enter.ensures.refused c.in-Err.field-0).0 c.in-Err.is)

pub put-requires : goal.put-requires
put-requires c =
    let n = c.requires.next in
    frame_writable c.args.spaces.now c.enter.new.self c.args.thread c.in-Ok.addr c.args.bytes.now c.requires.in_range
    (record {
      place = c.in-Ok.ensures.place;
      fits = λ r p. not_both c.enter.result c.in-Ok.addr r c.in-Ok.is ((c.enter.ensures.refused r).1 p);
      sides = c.in-Ok.ensures.entered;
      held = c.enter.ensures.held;
    })
    c.in-Ok.ensures.zero n.0 n.1 n.2 n.3

pub returns : goal.returns
returns c =
    enters c.args.spaces.now c.enter.new.self c.put.new.spaces c.args.thread c.in-Ok.addr c.args.bytes.now c.requires.in_range
    (record {
      place = c.in-Ok.ensures.place;
      fits = λ r p. not_both c.enter.result c.in-Ok.addr r c.in-Ok.is ((c.enter.ensures.refused r).1 p);
      sides = c.in-Ok.ensures.entered;
      held = c.enter.ensures.held;
    })
    c.in-Ok.ensures.zero c.put.ensures
