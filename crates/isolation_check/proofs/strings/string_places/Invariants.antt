use Rattle.std.proofs.Common.{◌≡◌, ◌++◌, map, drop}
use Rattle.isolation_check_rules.specs.Places.{addresses_of, inits_of}
use Rattle.isolation_check.specs.Literals.{ended, strings_in}
use Rattle.isolation_check.proofs.strings.string_places.Given as goal

-- with what is left they make the whole
abbrev pub invariant-loop-i : goal.invariant-loop-i
invariant-loop-i l = record {
  addresses : addresses_of l.places.items ++ drop l.i l.addresses ≡ l.addresses;
  bytes : inits_of l.places.items ++ map ended (strings_in (drop l.i l.texts)) ≡ map ended (strings_in l.texts);
}
