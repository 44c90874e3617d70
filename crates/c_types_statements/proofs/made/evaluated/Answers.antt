use Rattle.std.proofs.Common.{subst}
use Rattle.c_types_statements.specs.Typed.{MaybeStands}
use Rattle.c_types_statements.proofs.OfMade.{nothing_evaluated, something_evaluated}
use Rattle.c_types_statements.proofs.made.evaluated.Goals as goal

pub returns-in-None : goal.returns-in-None
returns-in-None c = λ t x h. nothing_evaluated t c.new.result x c.new.ensures.items (subst (MaybeStands t x) c.in-None.is h)

pub returns-in-Some : goal.returns-in-Some
returns-in-Some c = λ t x h. something_evaluated t c.in-Some.value x (subst (MaybeStands t x) c.in-Some.is h)
