use Rattle.std.proofs.Common.{◌≡◌, ◌++◌, map, drop}
use Rattle.c_types_model.specs.Layouts.{end_from, offsets_from}
use Rattle.isolation_check_rules.specs.Addresses.{string_addresses, string_extent, strings_end}
use Rattle.isolation_check.specs.Literals.{strings_in}
use Rattle.isolation_check.proofs.strings.string_row.Given as goal

-- with what is left they make the whole
abbrev pub invariant-loop-text : goal.invariant-loop-text
invariant-loop-text l = record {
  offsets : l.row.offsets.items ++ offsets_from l.row.end (map string_extent (strings_in (drop l.text-index l.texts))) ≡ string_addresses (strings_in l.texts);
  end : end_from l.row.end (map string_extent (strings_in (drop l.text-index l.texts))) ≡ strings_end (strings_in l.texts);
}
