use Rattle.std.proofs.Common.{Err, ap, ◌∙◌, arith}
use Rattle.space_memory.specs.declared.error.HoldError.TheVariants.{Refused}
use Rattle.reference_recorder_spaces.proofs.Answered.{not_both}
use Rattle.reference_recorder_spaces.proofs.Calling.{prepares_one}
use Rattle.reference_recorder_spaces.proofs.Parts.{may_prepare}
use Rattle.reference_recorder_spaces.proofs.calls.prepare.Goals as goal

pub returns-in-Ok-clause-adds : goal.returns-in-Ok-clause-adds
returns-in-Ok-clause-adds c = prepares_one c.args.thread c.args.key c.args.spaces.now c.prepare.new.self c.args.range (omega arith) c.requires.region c.in-Ok.ensures.prepared c.prepare.ensures.rest c.in-Ok.ensures.allowed
    (λ f p. not_both c.prepare.result c.in-Ok.field-0 (Refused f) c.in-Ok.is ((c.prepare.ensures.refused f).1 p))

pub unreachable-requires : goal.unreachable-requires
unreachable-requires c =
    let r = c.in-Err-Refused in
    may_prepare c.args.thread c.args.key c.args.range c.args.spaces.now c.requires.region c.requires.next r.field-0-0
    ((c.prepare.ensures.refused r.field-0-0).0 (r.is ∙ ap Err r.field-0-is))
