-- All places of a cut.
use Rattle.std.proofs.Common.{◌≡◌, ℕ, ◌+◌, ◌*◌, ◌<◌, ◌≤◌, List, map, arith}
use Rattle.std.specs.Int.{next_multiple_of}
use Rattle.marks.specs.Places.{constants}
use Rattle.memory_map.specs.declared.placed.Placed.{Placed}
use Rattle.cut_graph_rules.specs.Findings.{Cut}
use Rattle.isolation_check_rules.specs.Addresses.{addresses_from, first_ends, string_extent, strings_end}
use Rattle.isolation_check_rules.specs.Places.{IsPlaced, Literal, bytes_in, global_extents, source_of}
use Rattle.c_lexer_laws.specs.Strings.{spelled}
use Rattle.isolation_check_laws.specs.Fits.{AreBetween, FitsAreas, first_in, last_in}
use Rattle.isolation_check_laws.proofs.Fits.{globals_lie, short}
use Rattle.isolation_check_apart.specs.Apart.{AreApart}
use Rattle.isolation_check_apart.proofs.Rows.{each, global_and_string, globals_apart, globals_sized, grows, in_row, strings_apart, strings_sized}

pub apart : (multiple : (n a : ℕ) → 0 < a → (k : ℕ) × (next_multiple_of n a ≡ k * a)) (after : (n a : ℕ) → n ≤ next_multiple_of n a)
    (least : (n a k : ℕ) → 0 < a → n ≤ k * a → next_multiple_of n a ≤ k * a) (c : Cut) (ls : List Literal) (q : Placed)
    → FitsAreas c.program (bytes_in ls) → IsPlaced c ls q → AreApart q
apart multiple after least c ls q fits h =
    let strings = bytes_in ls in
    let xs = global_extents c.program in
    let e = first_ends strings in
    let ends : strings_end strings ≤ constants + 8 * spelled strings = short multiple after least strings in
    let few : strings_end strings ≤ 0x0fffffff = omega (arith, fits.short) in
    let low : constants ≤ strings_end strings = grows after constants (map string_extent strings) in
    let between : AreBetween (first_in strings) last_in h.areas xs (addresses_from e h.areas xs) = globals_lie multiple after least strings h.areas xs fits.short fits.small fits.aligned in
    let sized = globals_sized (source_of c.program ls q) q.globals c.program.globals xs h.globals in
    let spelled_so = strings_sized q.strings strings h.strings in
    record {
      globals = globals_apart after strings e h.areas xs q.globals low h.globals_at sized between;
      strings = strings_apart after constants (map string_extent strings) q.strings (omega arith) few h.strings_at spelled_so;
      apart = λ o r at_o at_r.
          global_and_string after strings e o r (each after (first_in strings) last_in e e h.areas xs q.globals h.globals_at sized between (λ a. omega arith) o at_o)
          (in_row after constants (map string_extent strings) q.strings h.strings_at spelled_so r at_r).1 few;
    }
