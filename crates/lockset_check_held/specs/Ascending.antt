-- Lists of the members of sets, the least first.
use Rattle.std.specs.Prelude.{◌≡◌, true, int_lt}
use Rattle.std.specs.List.{AllPairs}
use Rattle.lockset_check_rules.specs.Mutexes.{Locks}

-- each member is below all later ones
abbrev pub Ascends : Locks → Type 0
Ascends s = AllPairs (λ m k. int_lt m k ≡ true) s
