use Rattle.std.proofs.Common.{◌≡◌, take}
use Rattle.logical_clock.specs.declared.name.KeyName.{KeyName}
use Rattle.logical_clock.specs.Kept.{AreCounted, number_in}
use Rattle.logical_clock.proofs.keys.Keys.count_all.Given as goal

abbrev pub invariant-loop-i : goal.invariant-loop-i
invariant-loop-i l = record {
  numbers : (q : KeyName) → number_in l.self q ≡ number_in l.fn.self q;
  counts : AreCounted l.fn.self l.self (take l.i l.of) l.clock;
}
