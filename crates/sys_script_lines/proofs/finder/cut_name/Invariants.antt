use Rattle.sys_script_lines.proofs.Cuts.{NoneBefore}
use Rattle.sys_script_lines.proofs.finder.cut_name.Given as goal

abbrev pub invariant-loop-at : goal.invariant-loop-at
invariant-loop-at l = NoneBefore 32 l.words l.at
