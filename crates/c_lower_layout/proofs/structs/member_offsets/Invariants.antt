use Rattle.std.proofs.Common.{◌≡◌, ◌-◌, ◌++◌, drop, length}
use Rattle.c_lower_layout.specs.Indexed.{offsets_by, offsets_of}
use Rattle.c_lower_layout.proofs.structs.member_offsets.Given as goal

abbrev pub invariant-loop-number : goal.invariant-loop-number
invariant-loop-number l = l.offsets.items ++ offsets_by l.types l.structs (length l.offsets.items) (drop (length l.offsets.items) l.structs.extents) ≡ offsets_of l.types l.structs

abbrev pub decreases-loop-number : goal.decreases-loop-number
decreases-loop-number l = length l.structs.extents - length l.offsets.items
