use Rattle.std.proofs.Common.{sym, ap, ◌∙◌, arith}
use Rattle.std.proofs.lemmas.List.Sums.{position_or_len_is}
use Rattle.cut_check.specs.Sources.{is_named_main}
use Rattle.cut_check.proofs.MainPlace.{nowhere}
use Rattle.cut_check.proofs.begin.place_of_main.Goals as goal

pub returns-then-is_main : goal.returns-then-is_main
returns-then-is_main c =
    let f = c.index-functions-place.result in
    let inside = c.loop-place-test.true in
    sym (position_or_len_is is_named_main c.args.functions.now c.loop-place.place f (omega (arith, inside)) (λ k l. c.loop-place.invariant k f l)
    (λ l. sym (ap is_named_main c.index-functions-place.is) ∙ (sym c.is_main.ensures ∙ c.if-is_main.true)))

pub returns : goal.returns
returns c =
    let past = c.loop-place-test.false in
    sym (nowhere c.args.functions.now (λ k d l. c.loop-place.invariant k d (omega (arith, past, l))))
