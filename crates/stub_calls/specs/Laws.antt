-- What of a call doesn't depend on its result, or on its values at all.
use Rattle.std.specs.Prelude.{◌≡◌, ℕ, List}
use Rattle.c_code.specs.Machine.{Flat}
use Rattle.stub_operations.specs.declared.operation.StubOp.{StubOp}
use Rattle.stub_meaning.specs.Calls.{Called, Done, done}

-- the keys that are said, and the functions that are registered
pub record HaveSameKeys (d e : Done) : Type 0 where
  pub at_call : d.keys_at_call ≡ e.keys_at_call
  pub at_return : d.keys_at_return ≡ e.keys_at_return
  pub registers : d.registers ≡ e.registers

-- are the same whatever the result
abbrev pub KeysAreOfArguments : Type 0
KeysAreOfArguments = (code : Flat) (c : Called) (result : ℕ) (ops : List StubOp) →
    HaveSameKeys (done code c ops) (done code (record c { result = result }) ops)

-- whether equal returns are written once is said of the function
abbrev pub CachingIsOfTheFunction : Type 0
CachingIsOfTheFunction = (code : Flat) (c d : Called) (ops : List StubOp) →
    (done code c ops).is_cached ≡ (done code d ops).is_cached
