use Rattle.std.proofs.Common.{Err, refl, ap, ◌∙◌, arith}
use Rattle.space_memory.specs.declared.error.HoldError.{HoldError}
use Rattle.space_memory.specs.declared.error.HoldError.TheVariants.{Refused}
use Rattle.steps_above_memory.proofs.Preparing.{not_both, prepares_one, range_unprepared, unprepared_one}
use Rattle.steps_above_memory.proofs.parts.prepare.Goals as goal

pub returns-in-Err-clause-refused : goal.returns-in-Err-clause-refused
returns-in-Err-clause-refused c = range_unprepared c.args.thread c.args.key c.args.watch.now c.args.spaces.now c.args.range (omega arith) c.requires.region _ c.in-Err.refusal refl c.in-Err.ensures.refused

pub returns-in-Ok-clause-adds : goal.returns-in-Ok-clause-adds
returns-in-Ok-clause-adds c = prepares_one c.args.thread c.args.key c.args.watch.now c.args.spaces.now c.args.range (omega arith) c.requires.region c.prepare.new.self
    c.in_default.ensures.unraced c.in-Ok.ensures.prepared c.prepare.ensures.rest c.in-Ok.ensures.allowed
    (λ f p. not_both c.prepare.result c.in-Ok.field-0 (Refused f) c.in-Ok.is ((c.prepare.ensures.refused f).1 p))

pub returns-in-Err-Refused-clause-refused : goal.returns-in-Err-Refused-clause-refused
returns-in-Err-Refused-clause-refused c = unprepared_one c.args.thread c.args.key c.args.watch.now c.args.spaces.now c.args.range (omega arith) c.requires.region c.in-Err-Refused.refusal c.of.result
    c.in_default.ensures.unraced
    ((c.prepare.ensures.refused c.in-Err-Refused.refusal).0 (c.in-Err-Refused.is ∙ ap (λ (e : HoldError). Err e) c.in-Err-Refused.field-0-is)) c.of.ensures
