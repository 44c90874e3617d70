use Rattle.std.proofs.Common.{List, IfOk, ap, ◌∙◌, subst}
use Rattle.marks.specs.declared.range.Range.{Range}
use Rattle.stub_meaning.specs.Calls.{Done}
use Rattle.whole_runs.specs.Below.{read_checks}
use Rattle.reference_recorder_findings.specs.Findings.{IsFound}
use Rattle.reference_recorder_checks.proofs.below.prints.Goals as goal

pub returns : goal.returns
returns c = λ w p h a.
    subst (λ (rs : List Range). IfOk c.reads_below.result (IsFound (read_checks w p c.args.thread rs))) (c.ins.ensures ∙ ap (λ (d : Done). d.ins) (c.in_ok-say.ensures w a)) (c.reads_below.ensures w p h)
