use Rattle.std.proofs.Common.{sym, ◌∙◌}
use Rattle.std.specs.Cmp.Rules.{signed_items}
use Rattle.lockset_check_values.proofs.needs.are_same.Goals as goal

pub returns : goal.returns
returns c = λ h. (signed_items c.args.mutexes.now c.args.others.now).0 (sym c.eq.ensures ∙ h)
