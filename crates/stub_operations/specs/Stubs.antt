-- Sets of stubs, as plain data.
use Rattle.std.specs.Prelude.{ℕ, List, [], get_or, Option, Some, None}
use Rattle.stub_operations.specs.declared.operation.StubOp.{StubOp}

-- by number, the operations of the functions that were added, and those below the cut
pub record Stubs : Type 0 where
  pub added : List (Option (List StubOp))
  pub below : List (Option (List StubOp))

abbrev pub no_stubs : Stubs
no_stubs = record { added = []; below = [] }

-- the operations of a function, none where it wasn't added
abbrev pub operations_at : List (Option (List StubOp)) → (func : ℕ) → Option (List StubOp)
operations_at all func = get_or all func None

abbrev pub added_at : Stubs → (func : ℕ) → Option (List StubOp)
added_at s func = operations_at s.added func

abbrev pub below_at : Stubs → (func : ℕ) → Option (List StubOp)
below_at s func = operations_at s.below func

abbrev pub or_none : Option (List StubOp) → List StubOp
or_none (Some ops) = ops
or_none None = []
