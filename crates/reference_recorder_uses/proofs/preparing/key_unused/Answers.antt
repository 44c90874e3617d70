use Rattle.std.proofs.Common.{sym}
use Rattle.whole_runs.specs.World.{begin}
use Rattle.whole_runs.specs.Sides.{seen}
use Rattle.reference_recorder_uses.proofs.OneKey.{unused, used}
use Rattle.reference_recorder_uses.proofs.preparing.key_unused.Goals as goal

pub returns-in-Some : goal.returns-in-Some
returns-in-Some c = λ w p h. used (begin w) (seen p) c.args.key c.in-Some.field-0 (sym (c.in-Some.ensures w p h))

pub returns-in-None : goal.returns-in-None
returns-in-None c = λ w p h. unused (begin w) (seen p) c.args.key (sym (c.in-None.ensures w p h))
