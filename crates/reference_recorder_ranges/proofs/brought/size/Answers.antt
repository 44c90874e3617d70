use Rattle.std.proofs.Common.{Some, inl, inr, sym, ◌∙◌, subst, arith}
use Rattle.std.proofs.lemmas.Bool.{true≢false}
use Rattle.replay_runs.specs.Checks.{Done, size_check}
use Rattle.reference_recorder_findings.specs.Findings.{IsFound}
use Rattle.reference_recorder_ranges.specs.Checks.{changed_by}
use Rattle.reference_recorder_ranges.proofs.OneSize.{kept, short, spoiled}
use Rattle.reference_recorder_ranges.proofs.brought.size.Goals as goal

pub returns-then-len-capacity : goal.returns-then-len-capacity
returns-then-len-capacity c = λ w p h.
    subst (λ f. IsFound (size_check (changed_by w p c.args.pieces.now) c.args.len c.args.region c.args.used Done) (Some f)) (sym c.spoiled-found.ensures) (spoiled (changed_by w p c.args.pieces.now) c.args.len c.args.region c.args.used (inl (omega arith)))

pub returns-then-used-capacity : goal.returns-then-used-capacity
returns-then-used-capacity c = λ w p h.
    subst (λ f. IsFound (size_check (changed_by w p c.args.pieces.now) c.args.len c.args.region c.args.used Done) (Some f)) (sym c.spoiled-found.ensures) (spoiled (changed_by w p c.args.pieces.now) c.args.len c.args.region c.args.used (inr (inl (omega arith))))

pub returns-then-is_changed : goal.returns-then-is_changed
returns-then-is_changed c = λ w p h.
    subst (λ f. IsFound (size_check (changed_by w p c.args.pieces.now) c.args.len c.args.region c.args.used Done) (Some f)) (sym c.spoiled-found.ensures) (spoiled (changed_by w p c.args.pieces.now) c.args.len c.args.region c.args.used (inr (inr ((c.is_changed.ensures w p h).0 c.if-is_changed.true))))

pub returns : goal.returns
returns c = λ w p h.
    kept (changed_by w p c.args.pieces.now) c.args.len c.args.region c.args.used (short (changed_by w p c.args.pieces.now) c.args.len c.args.region c.args.used (omega arith) (omega arith) (λ s. true≢false (sym ((c.is_changed.ensures w p h).1 s) ∙ c.if-is_changed.false)))
