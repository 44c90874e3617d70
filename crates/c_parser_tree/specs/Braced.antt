-- What closes a list of values in braces.
use Rattle.std.specs.Prelude.{◌≡◌, ℕ, Some, None, Result, Ok, Err, Vec}
use Rattle.std.specs.declared.alloc.Global.{Global}
use Rattle.c_syntax.specs.declared.declaration.Value.{Value, roll-Value}
use Rattle.c_syntax.specs.declared.declaration.Value.TheOpen.{Value-F}
use Rattle.c_syntax.specs.Nodes.{Nodes}
use Rattle.c_parser_tree.specs.declared.builder.Builder.{Builder}
use Rattle.c_parser_tree.specs.declared.builder.BuildError.{BuildError}
use Rattle.c_parser_tree.specs.declared.builder.BuildError.TheVariants as errors
use Rattle.c_parser_tree.specs.Seen.{nodes_seen, stack_seen}
use Rattle.c_parser_tree.specs.Stacks.{Stacks, push_value}
use Rattle.c_parser_tree.specs.Takes.{values_in}

-- a value with these items is above the pieces
abbrev pub IsOn : ℕ → Vec Value Global → Stacks → Builder → Type 0
IsOn f w Q b = stack_seen b ≡ push_value (roll-Value (Value-F.Braces f w)) Q

-- a value with the items of the list on top takes its place
abbrev pub IsBraced : ℕ → Nodes → Stacks → Result (Unit {0}) BuildError → Builder → Type 0
IsBraced f N R (Ok _) b =
    (w : Vec Value Global) × (Q : Stacks)
    × (values_in R ≡ Some (w.items, Q)) × (nodes_seen b ≡ N) × IsOn f w Q b
IsBraced f N R (Err errors.Unfit) b = values_in R ≡ None
IsBraced f N R (Err errors.Memory) b = Unit {0}
