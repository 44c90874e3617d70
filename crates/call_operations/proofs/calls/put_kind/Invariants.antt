use Rattle.std.proofs.Common.{List, Option, drop, map}
use Rattle.stub_operations.specs.declared.operation.StubOp.{StubOp}
use Rattle.stub_operations.specs.Growing.{IsAdded}
use Rattle.stub_operations.specs.Operations.{by_place}
use Rattle.call_operations.specs.Said.{of_kind, parameter_says, says}
use Rattle.call_operations.proofs.calls.put_kind.Given as goal

-- what is left makes the whole
abbrev pub invariant-loop-place : goal.invariant-loop-place
invariant-loop-place l =
    (q : Option (List StubOp)) →
    IsAdded l.list (by_place (of_kind l.kind (says l.said)) l.place (map parameter_says (drop l.place l.params))) q →
    IsAdded l.initial.list (by_place (of_kind l.kind (says l.said)) 0 (says l.said).params) q
