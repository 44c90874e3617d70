use Rattle.std.proofs.Common.{◌≡◌, map}
use Rattle.std.specs.List.{range_with_len}
use Rattle.cut_check.specs.Flags.{in_interface}
use Rattle.cut_check.proofs.flags.faces.Given as goal

-- those so far have their flags
abbrev pub invariant-loop-number : goal.invariant-loop-number
invariant-loop-number l = l.flags.items ≡ map (in_interface l.iface) (range_with_len 0 l.number)
