use Rattle.std.proofs.Common.{◌≡◌, ◌≤◌, false, length, drop}
use Rattle.std.specs.Fmt.{digits_onto, digits}
use Rattle.r2_base.proofs.hex.write_hex.Given as goal

abbrev pub invariant-loop-start : goal.invariant-loop-start
invariant-loop-start l = record {
  within : l.start ≤ 64;
  room : length l.out ≡ 64;
  text : digits_onto l.start 16 false l.rest (drop l.start l.out) ≡ digits 16 false l.v;
}

abbrev pub decreases-loop-start : goal.decreases-loop-start
decreases-loop-start l = l.start
