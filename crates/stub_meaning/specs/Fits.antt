-- Sets of stubs that fit a code.
use Rattle.std.specs.Prelude.{◌≡◌, ◌≤◌, ℕ, Bool, true, false, List, [], ◌++◌, Option, Some, None}
use Rattle.marks.specs.Places.{builtin_count}
use Rattle.c_builtins.specs.declared.builtin.Builtin.{Builtin}
use Rattle.c_builtins.specs.Table.{in_interface, number_of}
use Rattle.c_code.specs.declared.code.FuncInfo.{FuncInfo}
use Rattle.c_code.specs.Machine.{Flat, func_of}
use Rattle.stub_operations.specs.declared.operation.StubOp.{StubOp}
use Rattle.stub_operations.specs.declared.purpose.Purpose.{Purpose}
use Rattle.stub_operations.specs.Builtins.{builtin_operations}
use Rattle.stub_operations.specs.Operations.{CallSays, operations, operations_below, passed}
use Rattle.stub_operations.specs.Stubs.{Stubs, added_at, below_at, or_none}
use Rattle.stub_meaning.specs.Rules.{KeepsRules}
use Rattle.stub_meaning.specs.Meaning.{type_of}

-- the operations of some annotations that keep their rules
abbrev pub HasOperations : Purpose → FuncInfo → Option (List StubOp) → Type 0
HasOperations purpose f ops = (n : CallSays) × KeepsRules (type_of (Some f)) n ×
    (ops ≡ Some (operations n ++ passed purpose))

abbrev pub HasOperationsBelow : FuncInfo → List StubOp → Type 0
HasOperationsBelow f ops = (n : CallSays) × KeepsRules (type_of (Some f)) n × (ops ≡ operations_below n)

-- a function of the source that the source doesn't define, outside the interface
pub record IsOutside (code : Flat) (face : ℕ → Bool) (f : ℕ) (info : FuncInfo) : Type 0 where
  pub source : builtin_count ≤ f
  pub known : func_of code f ≡ Some info
  pub external : info.entry ≡ None
  pub outside : face f ≡ false

-- the set is one for these functions of the interface: each of the source has the operations of some
-- annotations, each builtin its own, and each external outside the interface those of some annotations below
-- the cut; no other function has any
pub record IsFit (purpose : Purpose) (code : Flat) (face : ℕ → Bool) (s : Stubs) : Type 0 where
  pub sources : (f : ℕ) (info : FuncInfo) → builtin_count ≤ f → func_of code f ≡ Some info → face f ≡ true →
      HasOperations purpose info (added_at s f)
  pub builtins : (b : Builtin) → in_interface b ≡ true →
      added_at s (number_of b) ≡ Some (builtin_operations b ++ passed purpose)
  pub others : (f : ℕ) → face f ≡ false → added_at s f ≡ None
  pub outside : (f : ℕ) (info : FuncInfo) → IsOutside code face f info →
      HasOperationsBelow info (or_none (below_at s f))
  pub none_below : (f : ℕ) → ((info : FuncInfo) → IsOutside code face f info → ⊥) →
      or_none (below_at s f) ≡ []
