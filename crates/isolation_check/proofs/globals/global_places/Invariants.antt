use Rattle.std.proofs.Common.{◌≡◌, ◌++◌, map, drop}
use Rattle.c_types_program.specs.Declarations.{global_in}
use Rattle.c_semantics.specs.Context.{Source}
use Rattle.isolation_check_rules.specs.Places.{addresses_of, inits, inits_of}
use Rattle.isolation_check_images.specs.Given.{IsSource}
use Rattle.isolation_check.proofs.globals.global_places.Given as goal

-- with what is left they make the whole
abbrev pub invariant-loop-i : goal.invariant-loop-i
invariant-loop-i l = record {
  addresses : addresses_of l.places.items ++ drop l.i l.images.globals.now ≡ l.images.globals.now;
  bytes : (s : Source) → IsSource l.images.index.now l.images.strings.now l.images.globals.now s →
      inits_of l.places.items ++ inits s (map (global_in l.images.index.now.table) (drop l.i l.globals)) (drop l.i l.extents)
      ≡ inits s (map (global_in l.images.index.now.table) l.globals) l.extents;
}
