use Rattle.std.proofs.Common.{◌≡◌, ◌≤◌, drop}
use Rattle.std.specs.Option.{option_and_then}
use Rattle.sys_script_lines.specs.Numbers.{digits_from, within}
use Rattle.sys_script_lines.proofs.number.digits.Given as goal

abbrev pub invariant-loop-byte : goal.invariant-loop-byte
invariant-loop-byte l = record {
  small : l.number ≤ l.most;
  same : option_and_then (within 0 l.most) (digits_from l.number (drop l.byte-index l.text)) ≡ option_and_then (within 0 l.most) (digits_from 0 l.text);
}
