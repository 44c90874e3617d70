use Rattle.sys_script_lines.proofs.FarEnds.{far_cut, far_parts, no_cut, no_parts}
use Rattle.sys_script_lines.proofs.cut.cut_far.Goals as goal

pub returns-in-Some-clause-cut : goal.returns-in-Some-clause-cut
returns-in-Some-clause-cut c = far_cut c.args.end c.args.text.now c.in-Some.at c.in-Some.ensures.0 c.in-Some.ensures.1

pub returns-in-Some-clause-parts : goal.returns-in-Some-clause-parts
returns-in-Some-clause-parts c = far_parts c.args.end c.args.text.now c.in-Some.at c.in-Some.ensures.0 c.in-Some.ensures.1

pub returns-in-None-clause-cut : goal.returns-in-None-clause-cut
returns-in-None-clause-cut c = no_cut c.args.end c.args.text.now c.in-None.ensures

pub returns-in-None-clause-last : goal.returns-in-None-clause-last
returns-in-None-clause-last c = no_parts c.args.end c.args.text.now c.in-None.ensures
