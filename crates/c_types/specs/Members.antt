-- Members of a struct that is being defined.
use Rattle.std.specs.Prelude.{ℕ, List, length}
use Rattle.std.specs.List.{All}
use Rattle.c_types_model.specs.Types.{CType}
use Rattle.c_types_table.specs.Tables.{types_of}
use Rattle.c_types_nodes.specs.Tables.{Table}
use Rattle.c_types_structs.specs.Members.{MemberList}
use Rattle.c_types_environment.specs.Reading.{IsMemberBelow, members_by}

-- their names and types
abbrev pub members_in : Table → MemberList → List (List ℕ × CType)
members_in t ms = members_by (types_of t.types) ms

-- their types are in the table
abbrev pub AreBelow : Table → MemberList → Type 0
AreBelow t ms = All (IsMemberBelow (length t.types)) ms
