use Rattle.std.proofs.Common.{◌≡◌, map}
use Rattle.std.specs.List.{range_with_len}
use Rattle.cut_graph_modes.specs.Runs.{may}
use Rattle.cut_check.proofs.flags.runs.Given as goal

-- those so far have their flags
abbrev pub invariant-loop-number : goal.invariant-loop-number
invariant-loop-number l = l.flags.items ≡ map (may l.modes l.side) (range_with_len 0 l.number)
