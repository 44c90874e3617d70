use Rattle.std.proofs.Common.{map, length, get_or, Some, None, refl, subst, arith}
use Rattle.marks.specs.declared.range.Range.{Range}
use Rattle.replay_runs.specs.Checks.{Done, size_check, size_checks}
use Rattle.reference_recorder_findings.specs.Findings.{IsFound}
use Rattle.reference_recorder_findings.proofs.Returns.{size_found, size_passed, sizes_done}
use Rattle.reference_recorder_ranges.specs.Checks.{changed_by}
use Rattle.reference_recorder_ranges.proofs.brought.sizes.Goals as goal

abbrev none : Range
none = record { addr = 0; len = 0 }

pub loop-place-init : goal.loop-place-init
loop-place-init c = λ w p h o found. found

pub returns-in-Some : goal.returns-in-Some
returns-in-Some c = λ w p h.
    size_found (changed_by w p c.args.pieces.now) (size_checks (changed_by w p c.args.pieces.now) (map length c.args.answers.now) c.args.regions.now c.args.used.now Done) (map length c.args.answers.now) c.args.regions.now c.args.used.now c.loop-place.place (c.loop-place.invariant w p h)
    (get_or c.args.regions.now c.loop-place.place none) none (get_or c.args.used.now c.loop-place.place 0) (omega arith) (omega arith) refl refl c.in-Some.found
    (subst (λ n. IsFound (size_check (changed_by w p c.args.pieces.now) n (get_or c.args.regions.now c.loop-place.place none) (get_or c.args.used.now c.loop-place.place 0) Done) (Some c.in-Some.found)) c.len_at-len.ensures (c.in-Some.ensures w p h))

pub loop-place-preserved : goal.loop-place-preserved
loop-place-preserved c = λ w p h.
    size_passed (changed_by w p c.args.pieces.now) (size_checks (changed_by w p c.args.pieces.now) (map length c.args.answers.now) c.args.regions.now c.args.used.now Done) (map length c.args.answers.now) c.args.regions.now c.args.used.now c.loop-place.place (c.loop-place.invariant w p h)
    (get_or c.args.regions.now c.loop-place.place none) none (get_or c.args.used.now c.loop-place.place 0) (omega arith) (omega arith) refl refl
    (subst (λ n. IsFound (size_check (changed_by w p c.args.pieces.now) n (get_or c.args.regions.now c.loop-place.place none) (get_or c.args.used.now c.loop-place.place 0) Done) None) c.len_at-len.ensures (c.in_default.ensures w p h))

pub returns : goal.returns
returns c = λ w p h. sizes_done (changed_by w p c.args.pieces.now) (size_checks (changed_by w p c.args.pieces.now) (map length c.args.answers.now) c.args.regions.now c.args.used.now Done) (map length c.args.answers.now) c.args.regions.now c.args.used.now c.loop-place.place (c.loop-place.invariant w p h) (let ends = c.loop-place-test.false in let count = c.min-count.ensures in omega (arith, ends, count))
