use Rattle.std.proofs.Common.{◌<◌, true, false, length, sym, ap, ◌∙◌, arith}
use Rattle.recorder_state.specs.Inputs.{is_main_in}
use Rattle.recorder_state.proofs.Sources.{at_place, main_is, main_is_none, one_more, source_at, some_at}
use Rattle.recorder_state.proofs.begin.main_of.Goals as goal

pub returns-then-is_main : goal.returns-then-is_main
returns-then-is_main c =
    let fs = c.args.code.now.sources in
    let k = c.loop-place.place in
    let inside = c.loop-place-test.true in
    let count = c.sources-place-end.ensures.count in
    let lt : k < length fs = omega (arith, inside, count) in
    let f = some_at fs k lt in
    main_is fs k f lt c.loop-place.invariant (at_place fs k f true lt (sym (ap is_main_in (source_at c.args.code.now k)) ∙ (sym c.is_main.ensures ∙ c.if-is_main.true)))

pub loop-place-preserved : goal.loop-place-preserved
loop-place-preserved c =
    let fs = c.args.code.now.sources in
    let k = c.loop-place.place in
    let inside = c.loop-place-test.true in
    let count = c.sources-place-end.ensures.count in
    let lt : k < length fs = omega (arith, inside, count) in
    one_more fs k c.loop-place.invariant (λ d. at_place fs k d false lt (sym (ap is_main_in (source_at c.args.code.now k)) ∙ (sym c.is_main.ensures ∙ c.if-is_main.false)))

pub returns : goal.returns
returns c =
    let fs = c.args.code.now.sources in
    let past = c.loop-place-test.false in
    let count = c.sources-place-end.ensures.count in
    main_is_none fs (λ k d lt. c.loop-place.invariant k d (omega (arith, past, count, lt)))
