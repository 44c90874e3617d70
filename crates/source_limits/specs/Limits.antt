-- The limits that a source may not exceed.
use Rattle.std.specs.Prelude.{ℕ}

-- bytes of the source
abbrev pub most_bytes : ℕ
most_bytes = 1048576

-- nodes of its tree that hold one node
abbrev pub most_holders : ℕ
most_holders = 200

-- functions, declared or defined
abbrev pub most_functions : ℕ
most_functions = 1000

-- parameters of a function
abbrev pub most_params : ℕ
most_params = 8

-- members of a struct
abbrev pub most_members : ℕ
most_members = 64

-- bytes of an object, and of all globals in one row
abbrev pub greatest_object : ℕ
greatest_object = 1048576

-- bytes of a function's frame
abbrev pub greatest_frame : ℕ
greatest_frame = 32768

-- nodes of the tree
abbrev pub most_nodes : ℕ
most_nodes = 131072

-- values on the evaluation stack of a function
abbrev pub most_values : ℕ
most_values = 64
