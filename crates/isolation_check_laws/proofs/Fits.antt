-- Rows that end no later than one row of all.
use Rattle.std.proofs.Common.{◌≡◌, ◌⊎◌, inl, inr, ℕ, ◌+◌, ◌*◌, ◌/◌, ◌<◌, ◌≤◌, List, [], ◌∷◌, length, map, refl, sym, ap, ◌∙◌, subst, arith}
use Rattle.std.specs.Int.{next_multiple_of}
use Rattle.std.specs.List.{All}
use Rattle.std.proofs.lemmas.List.Elements.{All-head, All-tail}
use Rattle.std.proofs.Math.Nat.{mul_assoc}
use Rattle.source_limits.specs.Limits.{greatest_object}
use Rattle.marks.specs.Places.{alignment, constants, replay_globals, system_globals}
use Rattle.c_types_model.specs.Layouts.{end_from, offsets_from}
use Rattle.c_types_model.specs.declared.extent.Extent.{Extent}
use Rattle.isolation_check_rules.specs.declared.area.Area.{Area}
use Rattle.isolation_check_rules.specs.declared.area.Area.TheVariants as areas
use Rattle.isolation_check_rules.specs.declared.area.Ends.{Ends}
use Rattle.isolation_check_rules.specs.Addresses.{addresses_from, end_in, first_ends, string_addresses, string_extent, strings_end, with_end}
use Rattle.c_lexer_laws.specs.Strings.{spelled}
use Rattle.isolation_check_laws.specs.Fits.{AreBetween, AreStrings, Divides, first_in, last_in}

with_end_cases : (e : Ends) (a : Area) (n : ℕ) (b : Area) → ((end_in (with_end e a n) b ≡ n) × (a ≡ b)) ⊎ (end_in (with_end e a n) b ≡ end_in e b)
with_end_cases e areas.Constants n areas.Constants = inl (refl, refl)
with_end_cases e areas.Constants n areas.Replay = inr refl
with_end_cases e areas.Constants n areas.System = inr refl
with_end_cases e areas.Replay n areas.Constants = inr refl
with_end_cases e areas.Replay n areas.Replay = inl (refl, refl)
with_end_cases e areas.Replay n areas.System = inr refl
with_end_cases e areas.System n areas.Constants = inr refl
with_end_cases e areas.System n areas.Replay = inr refl
with_end_cases e areas.System n areas.System = inl (refl, refl)

module _ (multiple : (n a : ℕ) → 0 < a → (k : ℕ) × (next_multiple_of n a ≡ k * a)) (after : (n a : ℕ) → n ≤ next_multiple_of n a)
    (least : (n a k : ℕ) → 0 < a → n ≤ k * a → next_multiple_of n a ≤ k * a) where
  -- what comes after a multiple of the alignment
  shifted : (f n a y j : ℕ) → 0 < a → f ≡ j * a → n ≤ f + y → next_multiple_of n a ≤ f + next_multiple_of y a
  shifted f n a y j some e h =
      let m = multiple y a some in
      let up : y ≤ next_multiple_of y a = after y a in
      let k = m.0 in
      let at : next_multiple_of y a ≡ k * a = m.1 in
      let whole : (j + k) * a ≡ j * a + k * a = omega arith in
      let l : next_multiple_of n a ≤ (j + k) * a = least n a (j + k) some (omega arith) in
      omega arith

  -- a row ends no earlier than it begins
  grows : (y : ℕ) (xs : List Extent) → y ≤ end_from y xs
  grows y [] = omega arith
  grows y (x ∷ xs) =
      let up : y ≤ next_multiple_of y x.align = after y x.align in
      let rest : next_multiple_of y x.align + x.size ≤ end_from (next_multiple_of y x.align + x.size) xs = grows (next_multiple_of y x.align + x.size) xs in
      omega arith

  module _ (f g last : Area → ℕ) (z : ℕ) (whole : (a : Area) → (k : ℕ) × (f a ≡ k * alignment)) (fits : (a : Area) → f a + z ≤ last a) where
    between : (rest : List Area) (xs : List Extent) (e : Ends) (y : ℕ) → ((a : Area) → g a ≤ end_in e a) → ((a : Area) → end_in e a ≤ f a + y)
        → All Divides xs → end_from y xs ≤ z → AreBetween g last rest xs (addresses_from e rest xs)
    between [] xs e y low high divides ends = tt
    between (a ∷ rest) [] e y low high divides ends = tt
    between (a ∷ rest) (x ∷ xs) e y low high divides ends =
        let d = All-head Divides x xs divides in
        let k = whole a in
        let times : f a ≡ k.0 * d.times * x.align = k.1 ∙ (ap (λ (n : ℕ). k.0 * n) (sym d.whole) ∙ sym (mul_assoc k.0 d.times x.align)) in
        let at = next_multiple_of (end_in e a) x.align in
        let next = next_multiple_of y x.align in
        let up : end_in e a ≤ at = after (end_in e a) x.align in
        let over : at ≤ f a + next = shifted (f a) (end_in e a) x.align y (k.0 * d.times) d.some times (high a) in
        let later : y ≤ next = after y x.align in
        let more : next + x.size ≤ end_from (next + x.size) xs = grows (next + x.size) xs in
        let low_a = low a in
        let ends_so : end_from (next + x.size) xs ≤ z = ends in
        let fits_a = fits a in (
          omega arith,
          omega arith,
          between rest xs (with_end e a (at + x.size)) (next + x.size)
              (λ b. elim (with_end_cases e a (at + x.size) b) [
                | inl h ↦ (let low_b : g b ≤ at + x.size = subst (λ (c : Area). g c ≤ at + x.size) h.1 (omega arith) in omega (arith, h.0))
                | inr h ↦ (let low_b = low b in omega (arith, h))
              ])
              (λ b. elim (with_end_cases e a (at + x.size) b) [
                | inl h ↦ (let high_b : at + x.size ≤ f b + (next + x.size) = subst (λ (c : Area). at + x.size ≤ f c + (next + x.size)) h.1 (omega arith) in omega (arith, h.0))
                | inr h ↦ (let high_b = high b in omega (arith, h))
              ])
              (All-tail Divides x xs divides) ends,
        )

  -- ---- strings

  string_step : (at : ℕ) (bytes : List ℕ) → (at ≤ next_multiple_of at alignment) × (next_multiple_of at alignment ≤ at + 15)
  string_step at bytes = (after at alignment, close)
    where
      close : next_multiple_of at alignment ≤ at + 15
      close =
          let k = (at + 15) / alignment in
          let l : next_multiple_of at alignment ≤ k * alignment = least at alignment k (omega arith) (omega arith) in
          omega arith

  string_ends : (at : ℕ) (strings : List (List ℕ)) → end_from at (map string_extent strings) ≤ at + 8 * spelled strings
  string_ends at [] = omega arith
  string_ends at (bytes ∷ rest) =
      let s = string_step at bytes in
      let low = s.0 in
      let high = s.1 in
      let r : end_from at (map string_extent (bytes ∷ rest)) ≤ next_multiple_of at alignment + (length bytes + 1) + 8 * spelled rest =
      string_ends (next_multiple_of at alignment + (length bytes + 1)) rest in
      let all : spelled (bytes ∷ rest) ≡ length bytes + 2 + spelled rest = refl in
      omega arith

  strings_between : (at last : ℕ) (strings : List (List ℕ)) → constants ≤ at → end_from at (map string_extent strings) ≤ last
      → AreStrings last strings (offsets_from at (map string_extent strings))
  strings_between at last [] low ends = tt
  strings_between at last (bytes ∷ rest) low ends =
      let up = after at alignment in
      let next = next_multiple_of at alignment + (length bytes + 1) in
      let more : next ≤ end_from next (map string_extent rest) = grows next (map string_extent rest) in
      let ends_so : end_from next (map string_extent rest) ≤ last = ends in
      (omega arith, omega arith, strings_between next last rest (omega arith) ends)

  pub lie : (strings : List (List ℕ)) → AreStrings (strings_end strings) strings (string_addresses strings)
  lie strings = strings_between constants (strings_end strings) strings (omega arith) (omega arith)

  pub short : (strings : List (List ℕ)) → strings_end strings ≤ constants + 8 * spelled strings
  short strings = string_ends constants strings

  -- ---- globals

  abbrev rounded : (strings : List (List ℕ)) → Area → ℕ
  rounded strings areas.Constants = next_multiple_of (strings_end strings) alignment
  rounded strings areas.Replay = replay_globals
  rounded strings areas.System = system_globals

  rounded_whole : (strings : List (List ℕ)) (a : Area) → (k : ℕ) × (rounded strings a ≡ k * alignment)
  rounded_whole strings areas.Constants = multiple (strings_end strings) alignment (omega arith)
  rounded_whole strings areas.Replay = (0x1000000, refl)
  rounded_whole strings areas.System = (0x5000000, refl)

  rounded_fits : (strings : List (List ℕ)) → spelled strings ≤ greatest_object → (a : Area) → rounded strings a + greatest_object ≤ last_in a
  rounded_fits strings few areas.Constants =
      let s = string_step (strings_end strings) [] in
      let high = s.1 in
      let end = short strings in
      omega arith
  rounded_fits strings few areas.Replay = omega arith
  rounded_fits strings few areas.System = omega arith

  rounded_after : (strings : List (List ℕ)) (a : Area) → end_in (first_ends strings) a ≤ rounded strings a + 0
  rounded_after strings areas.Constants = let up = after (strings_end strings) alignment in omega arith
  rounded_after strings areas.Replay = omega arith
  rounded_after strings areas.System = omega arith

  first_before : (strings : List (List ℕ)) (a : Area) → first_in strings a ≤ end_in (first_ends strings) a
  first_before strings areas.Constants = omega arith
  first_before strings areas.Replay = omega arith
  first_before strings areas.System = omega arith

  pub globals_lie : (strings : List (List ℕ)) (rest : List Area) (xs : List Extent) → spelled strings ≤ greatest_object → end_from 0 xs ≤ greatest_object
      → All Divides xs → AreBetween (first_in strings) last_in rest xs (addresses_from (first_ends strings) rest xs)
  globals_lie strings rest xs few ends divides =
      between (rounded strings) (first_in strings) last_in greatest_object (rounded_whole strings) (rounded_fits strings few)
      rest xs (first_ends strings) 0 (first_before strings) (rounded_after strings) divides ends
