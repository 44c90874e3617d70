use Rattle.std.proofs.Common.{◌<◌, length}
use Rattle.sys_script_lines.specs.Numbers.{IsLeading}
use Rattle.sys_script_lines.proofs.turns.leading.Given as goal

abbrev pub invariant-loop-more : goal.invariant-loop-more
invariant-loop-more l = record {
  leading : IsLeading l.text l.number l.rest;
  shorter : length l.rest < length l.text;
}

abbrev pub decreases-loop-more : goal.decreases-loop-more
decreases-loop-more l = length l.rest
