use Rattle.std.proofs.Common.{◌≡◌, map, take}
use Rattle.std.specs.Prelude.{◌||◌}
use Rattle.std.specs.BTreeSet.{contains}
use Rattle.log_closure.specs.declared.tie.Tie.{Tie}
use Rattle.log_closure.specs.Ties.{key_tie, listed}
use Rattle.log_closure.specs.Tables.{tie_cmp}
use Rattle.log_closure.proofs.grow.add_keys.Given as goal

abbrev pub invariant-loop-mark : goal.invariant-loop-mark
invariant-loop-mark l = (t : Tie) → contains tie_cmp l.done t ≡ (contains tie_cmp l.fn.done t || listed (map key_tie (take l.mark-index l.marks)) t)
