use Rattle.std.proofs.Common.{Err, ap, ◌∙◌, arith}
use Rattle.reference_recorder_spaces.proofs.Calling.{holds_one}
use Rattle.reference_recorder_spaces.proofs.Parts.{may_hold}
use Rattle.reference_recorder_spaces.proofs.calls.hold.Goals as goal

pub returns-in-Ok-clause-adds : goal.returns-in-Ok-clause-adds
returns-in-Ok-clause-adds c = holds_one c.args.thread c.args.spaces.now c.hold.new.self c.args.range c.args.write (omega arith) c.requires.region c.in-Ok.ensures.held c.hold.ensures.rest c.in-Ok.ensures.allowed

pub unreachable-requires : goal.unreachable-requires
unreachable-requires c =
    let r = c.in-Err-Refused in
    may_hold c.args.thread c.args.write c.args.range c.args.spaces.now c.requires.region c.requires.next r.field-0-0
    ((c.hold.ensures.refused r.field-0-0).0 (r.is ∙ ap Err r.field-0-is))
