use Rattle.isolation_check_findings.proofs.Whole.{all_lines, whole}
use Rattle.isolation_check_findings.proofs.sorted.findings.Goals as goal

pub returns-clause-findings : goal.returns-clause-findings
returns-clause-findings c = λ cut k.
    whole c.args.program.now c.args.mentions.now c.args.sides.above.now c.args.sides.below.now c.args.sides.faces.now cut k
    _ _ _ _ c.new-found.ensures.items c.in_ok-shared.ensures c.in_ok-above.ensures c.sorted.ensures

pub returns-clause-lines : goal.returns-clause-lines
returns-clause-lines c = all_lines _ _ _ _ _ _ c.new-found.ensures.items c.in_ok-shared.ensures c.in_ok-above.ensures c.sorted.ensures
