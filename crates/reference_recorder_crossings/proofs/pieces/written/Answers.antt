use Rattle.std.proofs.Common.{ℕ, List, get_or, Some, None, refl, arith}
use Rattle.replay_runs.specs.Checks.{Done}
use Rattle.whole_runs.specs.Tests.{piece_check}
use Rattle.reference_recorder_targets.specs.declared.places.Target.{Target}
use Rattle.reference_recorder_targets.specs.declared.places.Target.TheVariants.{To}
use Rattle.reference_recorder_targets.specs.Places.{target_of}
use Rattle.reference_recorder_findings.proofs.Lists.{found_is}
use Rattle.reference_recorder_crossings.proofs.PieceChecks.{all_written, piece_found, piece_passed}
use Rattle.reference_recorder_crossings.proofs.pieces.written.Goals as goal

abbrev none : Target
none = To (record { addr = 0; len = 0 })

pub loop-place-init : goal.loop-place-init
loop-place-init c = λ w p h o found. found

pub returns-in-Some : goal.returns-in-Some
returns-in-Some c = λ w p h.
    let target : Target = get_or c.args.targets.now c.loop-place.place none in
    let answer : List ℕ = c.index-answers-place.result in
    piece_found w p c.args.thread c.args.targets.now c.args.answers.now c.loop-place.place (c.loop-place.invariant w p h) target none answer answer (omega arith) (omega arith) refl c.index-answers-place.is c.in-Some.found
    (found_is (piece_check w p c.args.thread (target_of target) answer Done) c.in_ok-found.field-0 (Some c.in-Some.found) c.in-Some.is (c.in_ok-found.ensures w p h))

pub loop-place-preserved : goal.loop-place-preserved
loop-place-preserved c = λ w p h.
    let target : Target = get_or c.args.targets.now c.loop-place.place none in
    let answer : List ℕ = c.index-answers-place.result in
    piece_passed w p c.args.thread c.args.targets.now c.args.answers.now c.loop-place.place (c.loop-place.invariant w p h) target none answer answer (omega arith) (omega arith) refl c.index-answers-place.is
    (found_is (piece_check w p c.args.thread (target_of target) answer Done) c.in_ok-found.field-0 None c.in_default.is (c.in_ok-found.ensures w p h))

pub returns : goal.returns
returns c = λ w p h.
    all_written w p c.args.thread c.args.targets.now c.args.answers.now c.loop-place.place (c.loop-place.invariant w p h)
    (let ends = c.loop-place-test.false in let count = c.min-count.ensures in omega (arith, ends, count))
