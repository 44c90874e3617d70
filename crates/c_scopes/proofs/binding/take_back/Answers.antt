use Rattle.std.proofs.Common.{◌∙◌, ◌<◌, length, arith}
use Rattle.c_scopes.proofs.Ends.{ties_popped, prefix_popped}
use Rattle.c_scopes.proofs.binding.take_back.Goals as goal

pub loop-bindings-preserved : goal.loop-bindings-preserved
loop-bindings-preserved g c =
    let old = c.loop-bindings.bindings.items in
    let new = c.pop.new.self.items in
    let b = c.in-Some.binding in
    let lt : c.args.start < length old = omega (arith, c.loop-bindings-test.true, c.len.ensures, c.loop-bindings.bindings.ok.0) in record {
      rest = prefix_popped c.args.start old new b c.in-Some.ensures.items lt ∙ c.loop-bindings.invariant.rest;
      ties = ties_popped c.loop-bindings.places old new b c.in-Some.ensures.items c.loop-bindings.invariant.ties;
    }
