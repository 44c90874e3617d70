use Rattle.std.proofs.Common.{arith}
use Rattle.sys_script_lines.proofs.Cuts.{none_there, parts_are, parts_missing}
use Rattle.sys_script_lines.proofs.finder.cut_name.Goals as goal

pub returns-then-byte-eq32-clause-parts : goal.returns-then-byte-eq32-clause-parts
returns-then-byte-eq32-clause-parts c = parts_are 32 c.args.words.now c.loop-at.at (omega arith) c.loop-at.invariant c.if-byte-eq32.true

pub returns-clause-last : goal.returns-clause-last
returns-clause-last c = parts_missing 32 c.args.words.now (none_there 32 c.args.words.now c.loop-at.at (omega arith) c.loop-at.invariant)
