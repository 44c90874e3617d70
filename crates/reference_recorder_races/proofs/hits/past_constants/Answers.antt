use Rattle.std.proofs.Common.{refl, sym, ◌∙◌}
use Rattle.reference_recorder_races.proofs.Leasts.{below_all, past_all}
use Rattle.reference_recorder_races.proofs.hits.past_constants.Goals as goal

pub returns-then-is_constant-clause-variable : goal.returns-then-is_constant-clause-variable
returns-then-is_constant-clause-variable c = refl

pub returns-then-is_constant-clause-above : goal.returns-then-is_constant-clause-above
returns-then-is_constant-clause-above c = below_all c.args.addr (sym c.is_constant.ensures ∙ c.if-is_constant.true)

pub returns-then-is_constant-clause-least : goal.returns-then-is_constant-clause-least
returns-then-is_constant-clause-least c = λ x. past_all c.args.addr x (sym c.is_constant.ensures ∙ c.if-is_constant.true)

pub returns-clause-variable : goal.returns-clause-variable
returns-clause-variable c = sym c.is_constant.ensures ∙ c.if-is_constant.false

pub returns-clause-least : goal.returns-clause-least
returns-clause-least c = λ x le e. le
