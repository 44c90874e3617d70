use Rattle.test_recordings.proofs.Places.{placed_as}
use Rattle.test_recordings.proofs.inputs.placed_of.Goals as goal

pub placed-requires : goal.placed-requires
placed-requires c = (c.requires.0, c.requires.1, c.requires.2, c.requires.3)

pub returns-in-Ok : goal.returns-in-Ok
returns-in-Ok c = λ bytes cut accepted. placed_as bytes cut c.args.source.now c.in-Ok.placed accepted (λ p a says. c.in-Ok.ensures bytes cut p a accepted says)
