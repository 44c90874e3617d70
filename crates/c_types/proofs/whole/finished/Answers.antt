use Rattle.std.proofs.Common.{Ok, ◌∙◌}
use Rattle.c_types_rules.specs.Limits as limits
use Rattle.c_types_rules.specs.Limits.{outcome}
use Rattle.c_types.specs.States.{program_of}
use Rattle.c_types.proofs.Ended.{checked_as, error_here}
use Rattle.c_types.proofs.whole.finished.Goals as goal

pub returns-in-Some : goal.returns-in-Some
returns-in-Some c = λ ds h. error_here c.args.tree ds c.args.declared c.args.texts c.in-Some.error h c.in-Some.ensures

pub returns-in-None : goal.returns-in-None
returns-in-None c = λ ds h.
    checked_as c.args.texts c.args.tree ds (outcome ds) (limits.Typed (program_of c.args.declared)) (Ok c.source_of.result) (h.outcome_is ∙ c.in-None.ensures.0) (c.source_of.ensures.source ds h, c.source_of.ensures.tree, c.source_of.ensures.texts)
