use Rattle.std.proofs.Common.{◌≡◌, map}
use Rattle.std.specs.List.{range_with_len}
use Rattle.annot_reader.specs.Interfaces.{guard_at}
use Rattle.lockset_check.proofs.sayings.guards_of.Given as goal

abbrev pub invariant-loop-place : goal.invariant-loop-place
invariant-loop-place l = l.guards.items ≡ map (guard_at l.iface) (range_with_len 0 l.place)
