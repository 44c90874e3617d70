use Rattle.r2_cli_outcome.specs.Plans.{gives, ends}
use Rattle.r2_cli_outcome.proofs.InputLemmas.{given, exceeds, lacks}
use Rattle.r2_cli_outcome.proofs.inputs.input.Goals as goal

pub returns-in-Ok-clause-answers : goal.returns-in-Ok-clause-answers
returns-in-Ok-clause-answers g c = gives (given (g.F.Files.seen c.args.files.now) _ _ _ _ c.in-Ok.ensures.text c.in-Ok.ensures.most)

pub returns-in-Err-TooLong-clause-answers : goal.returns-in-Err-TooLong-clause-answers
returns-in-Err-TooLong-clause-answers g c = ends (exceeds (g.F.Files.seen c.args.files.now) _ _ _ _ _ _ (λ told. c.in-Err-TooLong.ensures.too_long (cc c.in-Err-TooLong.field-0-is) told) c.exceeded.ensures)

pub returns-in-Err-Fault-Missing-clause-answers : goal.returns-in-Err-Fault-Missing-clause-answers
returns-in-Err-Fault-Missing-clause-answers g c =
    ends (lacks (g.F.Files.seen c.args.files.now) _ _ _ _ _ _ (λ told. c.in-Err-Fault-Missing.ensures.missing (cc (c.in-Err-Fault-Missing.field-0-is, c.in-Err-Fault-Missing.field-0-0-is)) told) c.missing.ensures)

pub returns-in-Err-Fault-Failed-clause-answers : goal.returns-in-Err-Fault-Failed-clause-answers
returns-in-Err-Fault-Failed-clause-answers g c = ends (c.in-Err-Fault-Failed.ensures.failed (cc (c.in-Err-Fault-Failed.field-0-is, c.in-Err-Fault-Failed.field-0-0-is)))

pub returns-in-Err-Fault-Memory-clause-answers : goal.returns-in-Err-Fault-Memory-clause-answers
returns-in-Err-Fault-Memory-clause-answers g c = ends tt
