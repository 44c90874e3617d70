use Rattle.std.proofs.Common.{◌≡◌, ◌+◌, ◌≤◌, length}
use Rattle.sys_script_lines.specs.Externals.{named_in}
use Rattle.sys_script_lines.specs.Parts.{parts}
use Rattle.sys_script_lines.specs.Scripts.{script, script_of}
use Rattle.sys_script_lines.proofs.script.read_lines.Given as goal

abbrev pub invariant-loop-line : goal.invariant-loop-line
invariant-loop-line l = record {
  found_in : l.finder.externals.now ≡ l.externals;
  few : l.number + length l.rest ≤ 1048577;
  same : script (named_in l.externals) l.number l.said (parts 10 l.rest) ≡ script_of (named_in l.externals) l.bytes;
}

abbrev pub decreases-loop-line : goal.decreases-loop-line
decreases-loop-line l = length l.rest
