use Rattle.std.proofs.Common.{ℕ, Option, ap, ◌∙◌}
use Rattle.marks.specs.declared.range.Range.{Range}
use Rattle.reference_recorder_marks.specs.Marks.{past}
use Rattle.reference_recorder_rights.specs.Rights.{has_byte}
use Rattle.reference_recorder_rights.proofs.HandedDown.{region_in}
use Rattle.reference_recorder_rights.proofs.prepared.is_under.Goals as goal

pub returns-in-Some : goal.returns-in-Some
returns-in-Some c = λ w.
    c.has.ensures
    ∙ ap (λ (r : Option Range). has_byte r c.args.addr) (c.in-Some.ensures w ∙ ap (λ (k : ℕ). region_in w (past c.args.marks.now) k) c.key_of.ensures)

pub returns-in-None : goal.returns-in-None
returns-in-None c = λ w.
    ap (λ (r : Option Range). has_byte r c.args.addr) (c.in-None.ensures w ∙ ap (λ (k : ℕ). region_in w (past c.args.marks.now) k) c.key_of.ensures)
