use Rattle.std.proofs.Common.{◌≡◌, ℕ, true, List, sym, subst, arith}
use Rattle.std.specs.Prelude.{◌⊎◌}
use Rattle.marks.specs.declared.range.Range.{Range}
use Rattle.marks.specs.Ranges.{IsFirstIn, any_range}
use Rattle.marks.specs.Bytes.{IsHeld}
use Rattle.replay_runs.specs.Runs.{byte}
use Rattle.whole_runs.specs.World.{World, begin}
use Rattle.whole_runs.specs.Sides.{seen}
use Rattle.reference_recorder_marks.specs.declared.mark.Mark.{Mark as Marked}
use Rattle.reference_recorder_marks.specs.Marks.{past}
use Rattle.reference_recorder_scans.proofs.Scanning.{first_here, none_in_all, none_more, none_past, none_yet}
use Rattle.reference_recorder_scans.proofs.pending.first_pending.Goals as goal

abbrev Bad : (w : World) → (marks : List Marked) (more : List Range) → ℕ → Type 0
Bad w marks more x = IsHeld (byte (begin w) x (seen (past marks))).cell ⊎ (any_range more x ≡ true)

pub loop-offset-init : goal.loop-offset-init
loop-offset-init c = λ w e. none_yet c.args.range (Bad w c.args.marks.now c.args.more.now)

pub returns-in_err-addr : goal.returns-in_err-addr
returns-in_err-addr c = λ w e.
    subst (IsFirstIn c.args.range (Bad w c.args.marks.now c.args.more.now)) (sym c.from_residual.ensures) (none_past c.args.range (Bad w c.args.marks.now c.args.more.now) c.loop-offset.offset (omega (arith, c.in_err-addr.ensures)) (c.loop-offset.invariant w e))

pub returns-then-is_pending_at : goal.returns-then-is_pending_at
returns-then-is_pending_at c = λ w e.
    first_here c.args.range (Bad w c.args.marks.now c.args.more.now) c.loop-offset.offset c.in_ok-addr.addr c.in_ok-addr.ensures.1 (omega (arith, c.in_ok-addr.ensures)) c.loop-offset-test.true ((c.is_pending_at.ensures w e).0 c.if-is_pending_at.true) (c.loop-offset.invariant w e)

pub loop-offset-preserved : goal.loop-offset-preserved
loop-offset-preserved c = λ w e.
    none_more c.args.range (Bad w c.args.marks.now c.args.more.now) c.loop-offset.offset c.in_ok-addr.addr c.in_ok-addr.ensures.1 (λ p. let found = (c.is_pending_at.ensures w e).1 p in let missed = c.if-is_pending_at.false in absurd cc) (c.loop-offset.invariant w e)

pub returns : goal.returns
returns c = λ w e. none_in_all c.args.range (Bad w c.args.marks.now c.args.more.now) c.loop-offset.offset c.loop-offset-test.false (c.loop-offset.invariant w e)
