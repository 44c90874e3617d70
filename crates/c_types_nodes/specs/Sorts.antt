-- Of which sort a node is.
use Rattle.c_types_nodes.specs.declared.ids.NodeId.{NodeId}
use Rattle.c_types_nodes.specs.declared.sorts.Sort.{Sort}
use Rattle.c_types_nodes.specs.declared.sorts.Sort.TheVariants as sorts
use Rattle.c_types_nodes.specs.Tables.{Table, IsObjectAt, IsFunctionAt, IsValueAt}

-- an object, a function or a value stands at the number
abbrev pub IsOfSort : Table → NodeId → Sort → Type 0
IsOfSort t id sorts.Object = IsObjectAt t id
IsOfSort t id sorts.Function = IsFunctionAt t id
IsOfSort t id sorts.Value = IsValueAt t id
