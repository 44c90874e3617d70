use Rattle.std.proofs.Common.{◌≡◌, ◌<◌, ◌≤◌, ◌++◌, [], ◌∷◌, true, false, List, length, get_or, sym, ap, ◌∙◌, arith}
use Rattle.std.specs.List.{insert}
use Rattle.std.proofs.lemmas.List.{get_or_default}
use Rattle.run_events.specs.declared.key.Key.{Key}
use Rattle.replay_runs.specs.Runs.{same_key}
use Rattle.replay_runs.specs.Keys.{key_before}
use Rattle.stub_calls.proofs.Sorted.{goes_in, goes_last, passes, stays}
use Rattle.stub_calls.proofs.keys.put_key.Goals as goal

pub loop-at-preserved : goal.loop-at-preserved
loop-at-preserved c =
    let k = c.args.key in
    let js = c.args.keys.now.items in
    let n = c.loop-at.at in
    let inv = c.loop-at.invariant in
    let lt : n < length js = omega (arith, c.loop-at-test.true, c.len-at-end.ensures) in
    let d = c.index.result.now in
    let at : d ≡ get_or js n d = c.index.ensures ∙ ap (λ xs. get_or xs n d) inv.same in
    let s : same_key k (get_or js n d) ≡ false = ap (same_key k) (sym at) ∙ (sym c.is_same.ensures ∙ c.if-is_same.false) in
    let x = c.index-in-loop-at.result.now in
    let there : x ≡ get_or js n d = c.index-in-loop-at.ensures ∙ (ap (λ xs. get_or xs n x) inv.same ∙ get_or_default js n x d lt) in
    let b : key_before k (get_or js n d) ≡ false = ap (key_before k) (sym there) ∙ (sym c.is_before.ensures ∙ c.if-is_before.false) in
    record { same = inv.same; passed = passes k js n d lt inv.passed s b }

pub returns-then-is_same : goal.returns-then-is_same
returns-then-is_same c =
    let k = c.args.key in
    let js = c.args.keys.now.items in
    let n = c.loop-at.at in
    let inv = c.loop-at.invariant in
    let lt : n < length js = omega (arith, c.loop-at-test.true, c.len-at-end.ensures) in
    let d = c.index.result.now in
    let at : d ≡ get_or js n d = c.index.ensures ∙ ap (λ xs. get_or xs n d) inv.same in
    let s : same_key k (get_or js n d) ≡ true = ap (same_key k) (sym at) ∙ (sym c.is_same.ensures ∙ c.if-is_same.true) in
    inv.same ∙ stays k js n d lt inv.passed s

pub returns-then-is_before : goal.returns-then-is_before
returns-then-is_before c =
    let k = c.args.key in
    let js = c.args.keys.now.items in
    let n = c.loop-at.at in
    let inv = c.loop-at.invariant in
    let lt : n < length js = omega (arith, c.loop-at-test.true, c.len-at-end.ensures) in
    let d = c.index.result.now in
    let at : d ≡ get_or js n d = c.index.ensures ∙ ap (λ xs. get_or xs n d) inv.same in
    let s : same_key k (get_or js n d) ≡ false = ap (same_key k) (sym at) ∙ (sym c.is_same.ensures ∙ c.if-is_same.false) in
    let x = c.index-in-loop-at.result.now in
    let there : x ≡ get_or js n d = c.index-in-loop-at.ensures ∙ (ap (λ xs. get_or xs n x) inv.same ∙ get_or_default js n x d lt) in
    let b : key_before k (get_or js n d) ≡ true = ap (key_before k) (sym there) ∙ (sym c.is_before.ensures ∙ c.if-is_before.true) in
    c.in_ok-insert.ensures.items ∙ (ap (λ (xs : List Key). insert xs n k) inv.same ∙ goes_in k js n d lt inv.passed s b)

pub returns : goal.returns
returns c =
    let k = c.args.key in
    let js = c.args.keys.now.items in
    let n = c.loop-at.at in
    let inv = c.loop-at.invariant in
    let le : length js ≤ n = omega (arith, c.loop-at-test.false, c.len-at-end.ensures) in
    c.in_ok-push.ensures.items ∙ (ap (λ (xs : List Key). xs ++ k ∷ []) inv.same ∙ goes_last k js n le inv.passed)
