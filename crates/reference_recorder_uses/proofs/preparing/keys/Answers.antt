use Rattle.std.proofs.Common.{◌+◌, List, ℕ, [], ◌∷◌, drop, Some, None, sym, subst, arith}
use Rattle.replay_runs.specs.Checks.{Done, key_checks}
use Rattle.whole_runs.specs.World.{begin}
use Rattle.whole_runs.specs.Sides.{seen}
use Rattle.reference_recorder_findings.specs.Findings.{IsFound}
use Rattle.reference_recorder_findings.proofs.Lists.{FindsFor}
use Rattle.reference_recorder_findings.proofs.Calls.{key_found, key_passed, keys_free}
use Rattle.reference_recorder_uses.proofs.preparing.keys.Goals as goal

pub loop-one-init : goal.loop-one-init
loop-one-init c = λ w p h o found.
    subst (λ (ks : List ℕ). IsFound (key_checks (begin w) (seen p) ks c.args.prepared.now Done) o) c.new-more.ensures.items found

pub returns-in-Some : goal.returns-in-Some
returns-in-Some c = λ w p h.
    let one = c.one-item.result in
    key_found (begin w) (seen p) c.args.prepared.now c.loop-one.one-index one one c.loop-one.more.items c.in-Some.found (omega arith) c.one-item.is (c.loop-one.invariant w p h)
    (subst (λ (ks : List ℕ). IsFound (key_checks (begin w) (seen p) ks (one ∷ []) Done) (Some c.in-Some.found)) c.deref.ensures.value (c.in-Some.ensures w p h))

pub loop-one-preserved : goal.loop-one-preserved
loop-one-preserved c = λ w p h.
    let one = c.one-item.result in
    subst (λ (ks : List ℕ). FindsFor (key_checks (begin w) (seen p) ks (drop (c.loop-one.one-index + 1) c.args.prepared.now) Done) (key_checks (begin w) (seen p) [] c.args.prepared.now Done))
    (sym c.in_ok-with_key.ensures)
    (key_passed (begin w) (seen p) c.args.prepared.now c.loop-one.one-index one one c.loop-one.more.items (omega arith) c.one-item.is (c.loop-one.invariant w p h)
    (subst (λ (ks : List ℕ). IsFound (key_checks (begin w) (seen p) ks (one ∷ []) Done) None) c.deref.ensures.value (c.in_default.ensures w p h)))

pub returns : goal.returns
returns c = λ w p h. keys_free (begin w) (seen p) c.args.prepared.now c.loop-one.one-index c.loop-one.more.items (omega arith) (c.loop-one.invariant w p h)
