use Rattle.std.proofs.Common.{Err, ap, ◌∙◌, arith}
use Rattle.space_memory.specs.declared.error.HoldError.{HoldError}
use Rattle.steps_above_memory.proofs.Calling.{adds_one, range_among, refused_among}
use Rattle.steps_above_memory.proofs.parts.hold.Goals as goal

pub returns-in-Err-clause-refused : goal.returns-in-Err-clause-refused
returns-in-Err-clause-refused c = range_among c.args.thread c.args.watch.now c.args.spaces.now c.args.range (omega arith) c.requires.region c.args.write c.in-Err.refusal c.in-Err.ensures.refused

pub returns-in-Ok-clause-adds : goal.returns-in-Ok-clause-adds
returns-in-Ok-clause-adds c = adds_one c.args.thread c.args.watch.now c.args.spaces.now c.args.range (omega arith) c.requires.region c.args.write c.hold.new.self
    c.in_default.ensures.unraced c.in-Ok.ensures.held c.hold.ensures.rest c.in-Ok.ensures.allowed

pub returns-in-Err-Refused-clause-refused : goal.returns-in-Err-Refused-clause-refused
returns-in-Err-Refused-clause-refused c = refused_among c.args.thread c.args.watch.now c.args.spaces.now c.args.range (omega arith) c.requires.region c.args.write c.in-Err-Refused.refusal c.of.result
    c.in_default.ensures.unraced
    ((c.hold.ensures.refused c.in-Err-Refused.refusal).0 (c.in-Err-Refused.is ∙ ap (λ (e : HoldError). Err e) c.in-Err-Refused.field-0-is)) c.of.ensures
