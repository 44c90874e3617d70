use Rattle.std.proofs.Common.{◌≡◌, ◌++◌, take}
use Rattle.std.specs.List.{flat_map}
use Rattle.lockset_check_lines.specs.Texts.{ended_line}
use Rattle.lockset_check_lines.proofs.lines.put_lines.Given as goal

abbrev pub invariant-loop-finding : goal.invariant-loop-finding
invariant-loop-finding l = l.text.items ≡ l.fn.text.items ++ flat_map ended_line (take l.finding-index l.found)
