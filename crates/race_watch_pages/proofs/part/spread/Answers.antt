use Rattle.std.proofs.Common.{ℕ, ◌/◌, ◌<◌, ◌≢◌, ◌∙◌, length, get_or, arith, get_or-set_other, get_or-set_same, below_more}
use Rattle.std.proofs.lemmas.List.{length-set}
use Rattle.race_watch_pages.proofs.part.spread.Goals as goal

pub loop-k-preserved : goal.loop-k-preserved
loop-k-preserved c =
    let values = c.loop-k.values in
    let at : ℕ = c.loop-k.k in
    let one : ℕ = get_or c.args.words.now (at / 4) 0 in
    let lt : at < length values = omega (arith, c.loop-k.invariant.long, c.loop-k-test.true) in
    record {
      long = length-set values at one ∙ c.loop-k.invariant.long;
      each = below_more _ _
          (λ k h. let ne : k ≢ at = omega (arith, h) in get_or-set_other values at k one 0 ne ∙ c.loop-k.invariant.each k h)
          (get_or-set_same values at one 0 lt);
    }
