use Rattle.std.proofs.Common.{not, arith}
use Rattle.std.proofs.lemmas.List.Sums.{prefix_len-le-length}
use Rattle.cut_check.specs.Sources.{is_named_main}
use Rattle.cut_check.proofs.begin.main_of.Goals as goal

pub overflow_cast-result : goal.overflow_cast-result
overflow_cast-result c =
    let short = prefix_len-le-length (λ f. not (is_named_main f)) c.args.functions.now in
    let few = c.requires in
    let place = c.place_of_main.ensures in
    record { fits = omega (arith, short, few, place) }

pub overflow_add-result : goal.overflow_add-result
overflow_add-result c =
    let short = prefix_len-le-length (λ f. not (is_named_main f)) c.args.functions.now in
    let few = c.requires in
    let place = c.place_of_main.ensures in
    record { fits = omega (arith, short, few, place) }
