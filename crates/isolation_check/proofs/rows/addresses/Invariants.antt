use Rattle.std.proofs.Common.{◌≡◌, ◌++◌, drop}
use Rattle.isolation_check_rules.specs.Addresses.{addresses_from}
use Rattle.isolation_check.specs.Rows.{AllEnd}
use Rattle.isolation_check.proofs.rows.addresses.Given as goal

-- with what is left they make the whole
abbrev pub invariant-loop-i : goal.invariant-loop-i
invariant-loop-i l = record {
  addresses : l.addresses.items ++ addresses_from l.ends (drop l.i l.areas) (drop l.i l.extents) ≡ addresses_from l.fn.ends l.areas l.extents;
  fit : AllEnd l.ends (drop l.i l.areas) (drop l.i l.extents);
}
