use Rattle.std.proofs.Common.{sym, arith}
use Rattle.std.proofs.lemmas.List.{length-take, length-take-le, take_all}
use Rattle.call_operations.proofs.said.with_places.Goals as goal

pub slice_bounds-result-end : goal.slice_bounds-result-end
slice_bounds-result-end c = sym (length-take-le 256 c.args.params.now (omega (arith, c.if-params-gt-PLACES.true)))

pub returns-then-params-gt-PLACES-clause-few : goal.returns-then-params-gt-PLACES-clause-few
returns-then-params-gt-PLACES-clause-few c = omega (arith, length-take 256 c.args.params.now)

pub returns-else-params-gt-PLACES-clause-first : goal.returns-else-params-gt-PLACES-clause-first
returns-else-params-gt-PLACES-clause-first c =
    sym (take_all 256 c.args.params.now (omega (arith, c.if-params-gt-PLACES.false)))
