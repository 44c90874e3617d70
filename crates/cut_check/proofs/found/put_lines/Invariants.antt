use Rattle.std.proofs.Common.{◌≡◌, ◌++◌, take}
use Rattle.std.specs.List.{flat_map}
use Rattle.cut_check.specs.Flags.{ended_line}
use Rattle.cut_check.proofs.found.put_lines.Given as goal

abbrev pub invariant-loop-finding : goal.invariant-loop-finding
invariant-loop-finding l = l.text.items ≡ l.fn.text.items ++ flat_map ended_line (take l.finding-index l.found)
