use Rattle.std.proofs.Common.{◌+◌, Bool, ◌||◌, drop, sym, ap, ◌∙◌}
use Rattle.std.proofs.lemmas.List.{drop_all}
use Rattle.reference_recorder_marks.specs.Marks.{past}
use Rattle.reference_recorder_rights.specs.Rights.{any_under}
use Rattle.reference_recorder_rights.proofs.HandedDown.{region_in, under_drop}
use Rattle.reference_recorder_rights.proofs.prepared.any_under.Goals as goal

pub returns-then-is_under : goal.returns-then-is_under
returns-then-is_under c = λ w.
    sym (
    sym (c.loop-one.invariant w)
    ∙ under_drop (region_in w (past c.args.marks.now)) c.args.addr c.args.prepared.now c.loop-one.one-index c.one-item.result c.loop-one-test.true c.one-item.is
    ∙ ap (λ (b : Bool). b || any_under (region_in w (past c.args.marks.now)) c.args.addr (drop (c.loop-one.one-index + 1) c.args.prepared.now)) (sym (c.is_under.ensures w) ∙ c.if-is_under.true)
    )

pub loop-one-preserved : goal.loop-one-preserved
loop-one-preserved c = λ w.
    sym (
    under_drop (region_in w (past c.args.marks.now)) c.args.addr c.args.prepared.now c.loop-one.one-index c.one-item.result c.loop-one-test.true c.one-item.is
    ∙ ap (λ (b : Bool). b || any_under (region_in w (past c.args.marks.now)) c.args.addr (drop (c.loop-one.one-index + 1) c.args.prepared.now)) (sym (c.is_under.ensures w) ∙ c.if-is_under.false)
    )
    ∙ c.loop-one.invariant w

pub returns : goal.returns
returns c = λ w.
    sym (ap (any_under (region_in w (past c.args.marks.now)) c.args.addr) (drop_all c.loop-one.one-index c.args.prepared.now c.loop-one-test.false))
    ∙ c.loop-one.invariant w
