use Rattle.recorded_outcome.proofs.PlacedLemmas.{not_refused, placed_as}
use Rattle.recorded_outcome.proofs.recording.placed_of.Goals as goal

pub placed-requires : goal.placed-requires
placed-requires c = (c.requires.0, c.requires.1, c.requires.2, c.requires.3)

pub returns-in-Ok : goal.returns-in-Ok
returns-in-Ok c = λ bytes cut accepted none. placed_as bytes cut c.args.source.now c.in-Ok.placed accepted (λ p a says. c.in-Ok.ensures bytes cut p a accepted says)

pub unreachable-requires : goal.unreachable-requires
unreachable-requires c =
    not_refused c.requires.0 c.requires.1 c.args.source.now c.in-Err-Findings.field-0 c.in-Err-Findings._found c.in-Err-Findings.field-0-is c.requires.3 c.requires.4
    (λ p a says. c.in-Err-Findings.ensures c.requires.0 c.requires.1 p a c.requires.3 says)
