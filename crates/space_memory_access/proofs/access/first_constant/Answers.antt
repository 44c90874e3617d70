use Rattle.std.proofs.Common.{Bool, sym, subst}
use Rattle.marks.specs.Ranges.{IsFirstIn}
use Rattle.space_memory_access.specs.Accesses.{IsConstantTo}
use Rattle.space_memory_access.proofs.access.first_constant.Goals as goal

pub returns-then-access : goal.returns-then-access
returns-then-access c = subst (λ (write : Bool). IsFirstIn c.args.access.range (IsConstantTo write) c.first_common.result) (sym c.if-access.true) c.first_common.ensures
