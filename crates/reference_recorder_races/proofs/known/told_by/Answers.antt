use Rattle.std.proofs.Common.{ℕ, List, [], length, subst, sym, ◌∙◌, ap}
use Rattle.std.proofs.lemmas.List.{take_all}
use Rattle.reference_recorder_marks.specs.declared.mark.Mark.{Mark}
use Rattle.reference_recorder_races.specs.Told.{AreTold}
use Rattle.reference_recorder_races.proofs.Knowing.{none_told, told_next}
use Rattle.reference_recorder_races.proofs.known.told_by.Goals as goal

pub loop-at-init : goal.loop-at-init
loop-at-init c = subst (λ (told : List ℕ). AreTold c.args.thread [] told) (sym c.new-told.ensures.items) (none_told c.args.thread c.args.marks.now)

pub told_at-more-requires : goal.told_at-more-requires
told_at-more-requires c = ap length c.deref.ensures.value ∙ c.loop-at.invariant.count ∙ ap length (sym c.prefix-before.ensures)

pub loop-at-preserved : goal.loop-at-preserved
loop-at-preserved c = told_next c.args.thread c.args.marks.now c.loop-at.at c.loop-at.told.items c.push.new.self.items c.deref.result.now c.prefix-before.result.now c.told_at-more.result c.index-marks-at.result c.loop-at-test.true c.index-marks-at.is c.deref.ensures.value c.prefix-before.ensures c.loop-at.invariant c.told_at-more.ensures c.in_ok-push.ensures.items

pub returns : goal.returns
returns c = subst (λ (ms : List Mark). AreTold c.args.thread ms c.loop-at.told.items) (take_all c.loop-at.at c.args.marks.now c.loop-at-test.false) c.loop-at.invariant
