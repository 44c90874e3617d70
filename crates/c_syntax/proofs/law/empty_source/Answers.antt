use Rattle.c_syntax.specs.Sources.{no_top}
use Rattle.c_syntax.proofs.law.empty_source.Goals as goal

pub returns-clause-spelled : goal.returns-clause-spelled
returns-clause-spelled c = no_top
