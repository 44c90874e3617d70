use Rattle.std.proofs.Common.{◌≡◌, ◌+◌, ℕ, map}
use Rattle.std.specs.List.{range_with_len}
use Rattle.c_builtins.specs.Table.{first_source_function}
use Rattle.cut_check.specs.Guards.{runs}
use Rattle.cut_check.proofs.guards.running.Given as goal

-- those so far
abbrev pub invariant-loop-place : goal.invariant-loop-place
invariant-loop-place l = l.flags.items ≡ map (λ (place : ℕ). runs l.sides.above.now l.sides.below.now (first_source_function + place)) (range_with_len 0 l.place)
