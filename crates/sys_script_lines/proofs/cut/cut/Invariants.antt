use Rattle.sys_script_lines.proofs.Cuts.{NoneBefore}
use Rattle.sys_script_lines.proofs.cut.cut.Given as goal

abbrev pub invariant-loop-at : goal.invariant-loop-at
invariant-loop-at l = NoneBefore l.end l.text l.at
