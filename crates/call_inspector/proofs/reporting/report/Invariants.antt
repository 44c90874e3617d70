use Rattle.std.proofs.Common.{◌≡◌, ◌++◌}
use Rattle.call_inspector.specs.ReportText.{report_text}
use Rattle.call_inspector.proofs.reporting.report.Given as goal

abbrev pub invariant-loop-parts : goal.invariant-loop-parts
invariant-loop-parts l = l.text.items ++ l.parts.text ≡ report_text l.run l.code

abbrev pub decreases-loop-parts : goal.decreases-loop-parts
decreases-loop-parts l = l.parts.most
