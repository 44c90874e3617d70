use Rattle.std.proofs.Common.{◌≡◌, map, take}
use Rattle.lockset_check_rules.specs.Mutexes.{locks_of}
use Rattle.lockset_check_held.specs.HeldSets.{at_first}
use Rattle.lockset_check_values.proofs.needs.sets_for.Given as goal

abbrev pub invariant-loop-i : goal.invariant-loop-i
invariant-loop-i l = l.sets ≡ record at_first { needs = map locks_of (take l.i l.lists) }
