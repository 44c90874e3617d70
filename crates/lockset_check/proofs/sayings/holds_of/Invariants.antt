use Rattle.std.proofs.Common.{◌≡◌, ℕ, ◌+◌, map}
use Rattle.std.specs.List.{range_with_len}
use Rattle.c_builtins.specs.Table.{first_source_function}
use Rattle.annot_reader.specs.Interfaces.{holds_at}
use Rattle.lockset_check.proofs.sayings.holds_of.Given as goal

abbrev pub invariant-loop-place : goal.invariant-loop-place
invariant-loop-place l = l.holds.items ≡ map (λ (place : ℕ). holds_at l.iface (first_source_function + place)) (range_with_len 0 l.place)
