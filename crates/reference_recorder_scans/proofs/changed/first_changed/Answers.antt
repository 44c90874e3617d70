use Rattle.std.proofs.Common.{◌≡◌, ◌+◌, ◌≤◌, ℕ, true, List, sym, ◌∙◌, subst, arith}
use Rattle.marks.specs.declared.range.Range.{Range}
use Rattle.marks.specs.Ranges.{IsFirstIn, Piece}
use Rattle.whole_runs.specs.Memory.{filled, real}
use Rattle.whole_runs.specs.Tests.{is_changed}
use Rattle.replay_runs.specs.Runs.{byte}
use Rattle.whole_runs.specs.World.{World, begin}
use Rattle.whole_runs.specs.Sides.{seen}
use Rattle.reference_recorder_marks.specs.declared.mark.Mark.{Mark as Marked}
use Rattle.reference_recorder_marks.specs.Marks.{past}
use Rattle.reference_recorder_scans.proofs.Scanning.{first_here, none_in_all, none_more, none_past}
use Rattle.reference_recorder_scans.proofs.changed.first_changed.Goals as goal

abbrev Bad : (w : World) → (marks : List Marked) (pieces : List Piece) (region : Range) (used : ℕ) → ℕ → Type 0
Bad w marks pieces region used x = (region.addr + used ≤ x) × (is_changed (byte (begin w) x (seen (past marks))).cell (filled pieces x (real w (past marks) x)) ≡ true)

pub loop-offset-init : goal.loop-offset-init
loop-offset-init c = λ w e. λ x le lt p. omega (arith, lt, p.0)

pub returns-in_err-addr : goal.returns-in_err-addr
returns-in_err-addr c = λ w e.
    subst (IsFirstIn c.args.region (Bad w c.args.marks.now c.args.pieces.now c.args.region c.args.used)) (sym c.from_residual.ensures) (none_past c.args.region (Bad w c.args.marks.now c.args.pieces.now c.args.region c.args.used) c.loop-offset.offset (omega (arith, c.in_err-addr.ensures)) (c.loop-offset.invariant w e))

pub returns-then-is_changed_at : goal.returns-then-is_changed_at
returns-then-is_changed_at c = λ w e.
    first_here c.args.region (Bad w c.args.marks.now c.args.pieces.now c.args.region c.args.used) c.loop-offset.offset c.in_ok-addr.addr c.in_ok-addr.ensures.1 (omega (arith, c.in_ok-addr.ensures)) c.loop-offset-test.true (omega (arith, c.in_ok-addr.ensures), sym (c.is_changed_at.ensures w e) ∙ c.if-is_changed_at.true) (c.loop-offset.invariant w e)

pub loop-offset-preserved : goal.loop-offset-preserved
loop-offset-preserved c = λ w e.
    none_more c.args.region (Bad w c.args.marks.now c.args.pieces.now c.args.region c.args.used) c.loop-offset.offset c.in_ok-addr.addr c.in_ok-addr.ensures.1 (λ p. let found = c.is_changed_at.ensures w e ∙ p.1 in let missed = c.if-is_changed_at.false in absurd cc) (c.loop-offset.invariant w e)

pub returns : goal.returns
returns c = λ w e. none_in_all c.args.region (Bad w c.args.marks.now c.args.pieces.now c.args.region c.args.used) c.loop-offset.offset c.loop-offset-test.false (c.loop-offset.invariant w e)
