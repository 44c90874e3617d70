use Rattle.std.proofs.Common.{◌≡◌, drop, length}
use Rattle.lockset_check_rules.specs.Mutexes.{with_locks}
use Rattle.lockset_check_held.specs.Rows.{IsTable, IsWithin, Learns, is_on, set_of}
use Rattle.lockset_check_held.proofs.known.add_all.Given as goal

abbrev pub invariant-loop-i : goal.invariant-loop-i
invariant-loop-i l =
    (with_locks (drop l.i l.mutexes) (set_of l.known.keys l.row) ≡ with_locks l.mutexes (set_of l.initial.known.keys l.initial.row))
    × IsTable l.known.keys × IsWithin (length l.known.keys) (is_on l.row) × Learns l.initial.known.keys l.known.keys
