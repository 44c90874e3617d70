use Rattle.std.proofs.Common.{◌≡◌, map, drop}
use Rattle.std.specs.List.{list_all}
use Rattle.std.specs.BTreeSet.{contains}
use Rattle.log_closure.specs.Ties.{key_tie, needs}
use Rattle.log_closure.specs.Tables.{tie_cmp}
use Rattle.log_closure.proofs.grow.holds_keys.Given as goal

abbrev pub invariant-loop-mark : goal.invariant-loop-mark
invariant-loop-mark l = list_all (contains tie_cmp l.done) (needs (map key_tie l.marks)) ≡ list_all (contains tie_cmp l.done) (needs (map key_tie (drop l.mark-index l.marks)))
