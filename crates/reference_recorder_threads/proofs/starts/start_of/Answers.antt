use Rattle.std.proofs.Common.{sym, ◌∙◌}
use Rattle.reference_recorder_outcomes.specs.Outcomes.{outcome_of}
use Rattle.reference_recorder_threads.proofs.Reported.{none_starts, pair_starts}
use Rattle.reference_recorder_threads.proofs.starts.start_of.Goals as goal

pub returns-then-is_start : goal.returns-then-is_start
returns-then-is_start c = pair_starts (outcome_of c.args.outcome) c.pair_of.result (sym c.is_start.ensures ∙ c.if-is_start.true) c.pair_of.ensures

pub returns-else-is_start : goal.returns-else-is_start
returns-else-is_start c = none_starts (outcome_of c.args.outcome) (sym c.is_start.ensures ∙ c.if-is_start.false)
