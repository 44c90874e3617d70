use Rattle.std.proofs.Common.{arith, sym}
use Rattle.sys_script_lines.proofs.Cuts.{cut_is, cut_missing, none_there, parts_are, parts_missing}
use Rattle.sys_script_lines.proofs.cut.cut.Goals as goal

pub returns-then-byte-end-clause-cut : goal.returns-then-byte-end-clause-cut
returns-then-byte-end-clause-cut c = cut_is c.args.end c.args.text.now c.loop-at.at (omega arith) c.loop-at.invariant c.if-byte-end.true

pub returns-then-byte-end-clause-parts : goal.returns-then-byte-end-clause-parts
returns-then-byte-end-clause-parts c = parts_are c.args.end c.args.text.now c.loop-at.at (omega arith) c.loop-at.invariant c.if-byte-end.true

pub returns-clause-cut : goal.returns-clause-cut
returns-clause-cut c = sym (cut_missing c.args.end c.args.text.now (none_there c.args.end c.args.text.now c.loop-at.at (omega arith) c.loop-at.invariant))

pub returns-clause-last : goal.returns-clause-last
returns-clause-last c = parts_missing c.args.end c.args.text.now (none_there c.args.end c.args.text.now c.loop-at.at (omega arith) c.loop-at.invariant)
