use Rattle.std.proofs.Common.{◌≡◌, ◌-◌, length, map, take}
use Rattle.c_types_structs.specs.Members.{members_at}
use Rattle.c_types_program.specs.Declarations.{types_in}
use Rattle.c_lower_layout.specs.Indexed.{extents_at, member_ids}
use Rattle.c_lower_layout.specs.Offsets.{laid}
use Rattle.c_lower_layout.proofs.members.extents.Given as goal

abbrev pub invariant-loop-ty : goal.invariant-loop-ty
invariant-loop-ty l = l.extents.items ≡ map laid (extents_at l.structs.extents (types_in l.types (take (length l.extents.items) (member_ids (members_at l.structs.members l.number.0)))))

abbrev pub decreases-loop-ty : goal.decreases-loop-ty
decreases-loop-ty l = length (members_at l.structs.members l.number.0) - length l.extents.items
