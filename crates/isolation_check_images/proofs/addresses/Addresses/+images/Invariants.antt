use Rattle.std.proofs.Common.{◌≡◌, ℕ, ◌+◌, ◌-◌, ◌^◌, min, List, Option, drop}
use Rattle.c_types_table.specs.Tables.{type_at}
use Rattle.c_types_rules.specs.Initials.{types_in}
use Rattle.c_types_program.specs.Declarations.{initial_in, initials_in}
use Rattle.c_semantics.specs.Context.{Source}
use Rattle.stub_operations.specs.Growing.{IsAdded}
use Rattle.isolation_check_rules.specs.Images.{elements, members}
use Rattle.isolation_check_images.specs.Given.{IsSource}
use Rattle.isolation_check_images.proofs.Weights.{initial_weight, initials_weight}
use Rattle.isolation_check_images.proofs.addresses.Addresses.+images.Given as goal

abbrev pub decreases-image : goal.decreases-image
decreases-image l = initial_weight (initial_in l.value.now)

abbrev pub decreases-listed : goal.decreases-listed
decreases-listed l = 4 + initials_weight (initials_in l.values.now)

abbrev pub decreases-elements : goal.decreases-elements
decreases-elements l = 3 + initials_weight (initials_in l.values.now)

abbrev pub decreases-members : goal.decreases-members
decreases-members l = 3 + initials_weight (initials_in l.values.now)

abbrev pub decreases-member : goal.decreases-member
decreases-member l = 1 + initial_weight (initial_in l.value.now)

-- what is left makes the whole
abbrev pub invariant-elements-loop-i : goal.invariant-elements-loop-i
invariant-elements-loop-i l =
    (s : Source) → IsSource l.self.index.now l.self.strings.now l.self.globals.now s →
    (q : Option (List ℕ)) →
    IsAdded l.out (elements s (initials_in (drop l.i l.values)) (type_at l.self.index.now.table.types l.element)) q →
    IsAdded l.fn.out (elements s (initials_in l.values) (type_at l.self.index.now.table.types l.element)) q

-- the same, where all bytes before a member are so many; one past 2^64 - 1 counts as 2^64 - 1
abbrev pub invariant-members-loop-i : goal.invariant-members-loop-i
invariant-members-loop-i l =
    (s : Source) → IsSource l.self.index.now l.self.strings.now l.self.globals.now s →
    (all : ℕ) × (l.after ≡ min all (2 ^ 64 - 1)) × ((q : Option (List ℕ)) →
    IsAdded l.out (members s (initials_in (drop l.i l.values)) l.number.0 (drop l.i (types_in s.program.structs l.number.0)) l.i all) q →
    IsAdded l.fn.out (members s (initials_in l.values) l.number.0 (types_in s.program.structs l.number.0) 0 0) q)
