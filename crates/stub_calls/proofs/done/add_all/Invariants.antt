use Rattle.std.proofs.Common.{◌≡◌, take}
use Rattle.stub_meaning.specs.Calls.{Called, both, done}
use Rattle.stub_calls.specs.Calls.{AreValuesOf}
use Rattle.stub_calls.proofs.done.add_all.Given as goal

abbrev pub invariant-loop-op : goal.invariant-loop-op
invariant-loop-op l = (c : Called) → AreValuesOf l.args l.numbers l.outcome c → l.said ≡ both l.fn.said (done l.code c (take l.op-index l.ops))
