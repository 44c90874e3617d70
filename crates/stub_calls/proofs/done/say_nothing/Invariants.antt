use Rattle.std.proofs.Common.{◌≡◌, take}
use Rattle.c_code.specs.Machine.{Flat}
use Rattle.stub_meaning.specs.Calls.{Called, done, nothing}
use Rattle.stub_calls.proofs.done.say_nothing.Given as goal

abbrev pub invariant-loop-op : goal.invariant-loop-op
invariant-loop-op l = (code : Flat) (c : Called) → nothing ≡ done code c (take l.op-index l.ops)
