use Rattle.std.proofs.Common.{◌≡◌, take}
use Rattle.std.specs.Prelude.{reverse}
use Rattle.c_scopes.specs.Bindings.{Ties}
use Rattle.c_scopes.proofs.binding.take_back.Given as goal

abbrev pub invariant-loop-bindings : goal.invariant-loop-bindings
invariant-loop-bindings g l = record {
  rest : take l.start l.bindings.items ≡ take l.fn.start l.fn.bindings.items;
  ties : Ties l.places (reverse l.bindings.items);
}

abbrev pub decreases-loop-bindings : goal.decreases-loop-bindings
decreases-loop-bindings g l = goal.left-loop-bindings g l
