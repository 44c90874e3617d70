use Rattle.std.proofs.Common.{Bool, ◌||◌, sym, ap, ◌∙◌}
use Rattle.reference_recorder_rights.proofs.prepared.under_or.Goals as goal

pub returns-then-act_under : goal.returns-then-act_under
returns-then-act_under c = λ w. c.if-act_under.true ∙ ap (λ (b : Bool). b || c.args.found) (sym c.if-act_under.true ∙ c.act_under.ensures w)

pub returns-else-act_under : goal.returns-else-act_under
returns-else-act_under c = λ w. ap (λ (b : Bool). b || c.args.found) (sym c.if-act_under.false ∙ c.act_under.ensures w)
