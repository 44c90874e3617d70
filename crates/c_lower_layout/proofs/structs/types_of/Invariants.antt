use Rattle.std.proofs.Common.{◌≡◌, ◌-◌, length, take}
use Rattle.c_types_structs.specs.Members.{members_at}
use Rattle.c_lower_layout.specs.Indexed.{member_ids}
use Rattle.c_lower_layout.proofs.structs.types_of.Given as goal

abbrev pub invariant-loop-ty : goal.invariant-loop-ty
invariant-loop-ty l = l.types.items ≡ take (length l.types.items) (member_ids (members_at l.structs.members l.number.0))

abbrev pub decreases-loop-ty : goal.decreases-loop-ty
decreases-loop-ty l = length (members_at l.structs.members l.number.0) - length l.types.items
