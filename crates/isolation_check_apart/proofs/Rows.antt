-- Objects in the rows of their areas.
use Rattle.std.proofs.Common.{◌≡◌, ◌⊎◌, inl, inr, ℕ, zero, suc, ◌+◌, ◌-◌, ◌<◌, ◌≤◌, true, List, [], ◌∷◌, ◌++◌, length, map, take, refl, ap, ◌∙◌, subst, arith, length-append}
use Rattle.std.specs.Prelude.{replicate}
use Rattle.std.specs.Int.{next_multiple_of}
use Rattle.std.specs.List.{Contains}
use Rattle.std.proofs.lemmas.Bool.{and_parts, leb-true, ltb-true}
use Rattle.std.proofs.lemmas.List.{length-replicate, length-take}
use Rattle.marks.specs.Places.{constants}
use Rattle.marks.specs.Ranges.{covers}
use Rattle.memory_map.specs.declared.placed.Place.{Place}
use Rattle.c_types_model.specs.Layouts.{end_from, offsets_from}
use Rattle.c_types_model.specs.declared.extent.Extent.{Extent}
use Rattle.c_types_rules.specs.Sources.{Global}
use Rattle.c_semantics.specs.Context.{Source}
use Rattle.space_memory.specs.Objects.{IsInArea, object_range}
use Rattle.whole_runs.specs.Fits.{LieApart, Meet}
use Rattle.isolation_check_rules.specs.declared.area.Area.{Area}
use Rattle.isolation_check_rules.specs.declared.area.Area.TheVariants as areas
use Rattle.isolation_check_rules.specs.declared.area.Ends.{Ends}
use Rattle.isolation_check_rules.specs.Addresses.{addresses_from, end_in, string_extent, strings_end, with_end}
use Rattle.isolation_check_rules.specs.Images.{given_image, global_image, padded}
use Rattle.isolation_check_rules.specs.Places.{addresses_of, inits, inits_of}
use Rattle.isolation_check_laws.specs.Fits.{AreBetween, first_in, last_in}

-- ---- objects that don't meet

covered : (o : Place) (x : ℕ) → covers (object_range o) x ≡ true → (o.addr ≤ x) × (x < o.addr + length o.init)
covered o x e =
    let parts = and_parts _ _ e in
    (leb-true o.addr x parts.0, ltb-true x (o.addr + length o.init) parts.1)

-- one ends before the other begins
pub not_meet : (o q : Place) → (o.addr + length o.init ≤ q.addr) ⊎ (q.addr + length q.init ≤ o.addr) → ¬ Meet o q
not_meet o q before (x, in_o, in_q) =
    let a = covered o x in_o in
    let b = covered q x in_q in
    elim before [
      | inl h ↦ omega (arith, a.0, a.1, b.0, b.1, h)
      | inr h ↦ omega (arith, a.0, a.1, b.0, b.1, h)
    ]

-- ---- sizes of objects

abbrev pub AreSized : List Place → List Extent → Type 0
AreSized [] xs = Unit {0}
AreSized (o ∷ os) [] = ⊥
AreSized (o ∷ os) (x ∷ xs) = (length o.init ≡ x.size) × AreSized os xs

image_length : (n : ℕ) (bytes : List ℕ) → length (take n (padded n bytes)) ≡ n
image_length n bytes = omega (arith, length-take n (padded n bytes), length-append bytes (replicate (n - length bytes) 0), length-replicate {A = ℕ} (n - length bytes) 0)

-- a global has as many bytes as its size
pub globals_sized : (s : Source) (os : List Place) (gs : List Global) (xs : List Extent) → inits_of os ≡ inits s gs xs → AreSized os xs
globals_sized s [] gs xs e = tt
globals_sized s (o ∷ os) [] xs e = cc
globals_sized s (o ∷ os) (g ∷ gs) [] e = cc
globals_sized s (o ∷ os) (g ∷ gs) (x ∷ xs) e =
    let first : o.init ≡ global_image s x.size g.value g.type = cc in
    let rest : inits_of os ≡ inits s gs xs = cc in
    (ap length first ∙ image_length x.size (given_image s g.value g.type), globals_sized s os gs xs rest)

-- a string has a byte more than its own
pub strings_sized : (os : List Place) (strings : List (List ℕ)) → inits_of os ≡ map (λ bytes. bytes ++ 0 ∷ []) strings → AreSized os (map string_extent strings)
strings_sized [] strings e = tt
strings_sized (o ∷ os) [] e = cc
strings_sized (o ∷ os) (bytes ∷ strings) e =
    let first : o.init ≡ bytes ++ 0 ∷ [] = cc in
    let rest : inits_of os ≡ map (λ b. b ++ 0 ∷ []) strings = cc in
    (omega (arith, ap length first, length-append bytes (0 ∷ [])), strings_sized os strings rest)

-- ---- an object among others

head_or_later : {A : Type 0} (P : A → Type 0) (o : A) (os : List A) (q : A) → Contains (o ∷ os) q → P o → (Contains os q → P q) → P q
head_or_later P o os q (zero, lt, is) here later = subst P is here
head_or_later P o os q (suc k, lt, is) here later = later (k, omega arith, is)

none_among : {A : Type 0} (q : A) → Contains [] q → ⊥
none_among q (k, lt, is) = omega arith

-- ---- globals

-- an object lies in an area, whose row ends there before it
pub record Lies (first last : Area → ℕ) (e : Ends) (o : Place) : Type 0 where
  pub area : Area
  pub after : end_in e area ≤ o.addr
  pub from : first area ≤ o.addr
  pub to : o.addr + length o.init ≤ last area

ends_no_less : (e : Ends) (a : Area) (n : ℕ) → end_in e a ≤ n → (b : Area) → end_in e b ≤ end_in (with_end e a n) b
ends_no_less e areas.Constants n h areas.Constants = h
ends_no_less e areas.Constants n h areas.Replay = omega arith
ends_no_less e areas.Constants n h areas.System = omega arith
ends_no_less e areas.Replay n h areas.Constants = omega arith
ends_no_less e areas.Replay n h areas.Replay = h
ends_no_less e areas.Replay n h areas.System = omega arith
ends_no_less e areas.System n h areas.Constants = omega arith
ends_no_less e areas.System n h areas.Replay = omega arith
ends_no_less e areas.System n h areas.System = h

end_there : (e : Ends) (a : Area) (n : ℕ) → end_in (with_end e a n) a ≡ n
end_there e areas.Constants n = refl
end_there e areas.Replay n = refl
end_there e areas.System n = refl

module _ (after : (n a : ℕ) → n ≤ next_multiple_of n a) where
  pub each : (first last : Area → ℕ) (low e : Ends) (rest : List Area) (xs : List Extent) (os : List Place) → addresses_of os ≡ addresses_from e rest xs → AreSized os xs
      → AreBetween first last rest xs (addresses_from e rest xs) → ((a : Area) → end_in low a ≤ end_in e a) → (q : Place) → Contains os q → Lies first last low q
  each first last low e rest xs [] at sized between lower q h = absurd (none_among q h)
  each first last low e [] xs (o ∷ os) at sized between lower q h = cc
  each first last low e (a ∷ rest) [] (o ∷ os) at sized between lower q h = absurd sized
  each first last low e (a ∷ rest) (x ∷ xs) (o ∷ os) at sized between lower q h =
      let next = next_multiple_of (end_in e a) x.align in
      let here : o.addr ≡ next = cc in
      let later : addresses_of os ≡ addresses_from (with_end e a (next + x.size)) rest xs = cc in
      let up = after (end_in e a) x.align in
      let low_a = lower a in
      let size = sized.0 in
      head_or_later (Lies first last low) o os q h
      (record { area = a; after = omega arith; from = omega (arith, between.0); to = omega (arith, between.1) })
      (λ k. each first last low (with_end e a (next + x.size)) rest xs os later sized.1 between.2
      (λ b. (let l = lower b in let m = ends_no_less e a (next + x.size) (omega arith) b in omega arith)) q k)

  module _ (strings : List (List ℕ)) where
    in_area : (a : Area) (o : Place) → constants ≤ strings_end strings → first_in strings a ≤ o.addr → o.addr + length o.init ≤ last_in a → IsInArea o
    in_area areas.Constants o low from to = inl (omega arith, omega arith)
    in_area areas.Replay o low from to = inr (inl (omega arith, omega arith))
    in_area areas.System o low from to = inr (inr (omega arith, omega arith))

    -- objects of one area or two: the first ends where the row of its area does
    areas_apart : (a b : Area) (e : Ends) (o q : Place) → constants ≤ strings_end strings → first_in strings a ≤ o.addr → o.addr + length o.init ≤ last_in a → o.addr + length o.init ≤ end_in e a
        → end_in e b ≤ q.addr → first_in strings b ≤ q.addr → q.addr + length q.init ≤ last_in b → (o.addr + length o.init ≤ q.addr) ⊎ (q.addr + length q.init ≤ o.addr)
    areas_apart areas.Constants areas.Constants e o q low from to ends after' from' to' = inl (omega arith)
    areas_apart areas.Constants areas.Replay e o q low from to ends after' from' to' = inl (omega arith)
    areas_apart areas.Constants areas.System e o q low from to ends after' from' to' = inl (omega arith)
    areas_apart areas.Replay areas.Constants e o q low from to ends after' from' to' = inr (omega arith)
    areas_apart areas.Replay areas.Replay e o q low from to ends after' from' to' = inl (omega arith)
    areas_apart areas.Replay areas.System e o q low from to ends after' from' to' = inl (omega arith)
    areas_apart areas.System areas.Constants e o q low from to ends after' from' to' = inr (omega arith)
    areas_apart areas.System areas.Replay e o q low from to ends after' from' to' = inr (omega arith)
    areas_apart areas.System areas.System e o q low from to ends after' from' to' = inl (omega arith)

    pub globals_apart : (e : Ends) (rest : List Area) (xs : List Extent) (os : List Place) → constants ≤ strings_end strings → addresses_of os ≡ addresses_from e rest xs → AreSized os xs
        → AreBetween (first_in strings) last_in rest xs (addresses_from e rest xs) → LieApart os
    globals_apart e rest xs [] low at sized between = tt
    globals_apart e [] xs (o ∷ os) low at sized between = cc
    globals_apart e (a ∷ rest) [] (o ∷ os) low at sized between = absurd sized
    globals_apart e (a ∷ rest) (x ∷ xs) (o ∷ os) low at sized between =
        let next = next_multiple_of (end_in e a) x.align in
        let here : o.addr ≡ next = cc in
        let later : addresses_of os ≡ addresses_from (with_end e a (next + x.size)) rest xs = cc in
        let size = sized.0 in
        let from : first_in strings a ≤ o.addr = omega (arith, between.0) in
        let to : o.addr + length o.init ≤ last_in a = omega (arith, between.1) in
        let ends : o.addr + length o.init ≤ end_in (with_end e a (next + x.size)) a = omega (arith, end_there e a (next + x.size)) in (
          in_area a o low from to,
          λ q h. (let l = each (first_in strings) last_in (with_end e a (next + x.size)) (with_end e a (next + x.size)) rest xs os later sized.1 between.2 (λ b. omega arith) q h in
              not_meet o q (areas_apart a l.area (with_end e a (next + x.size)) o q low from to ends l.after l.from l.to)),
          globals_apart (with_end e a (next + x.size)) rest xs os low later sized.1 between.2,
        )

    -- a global lies after all strings, or in another area
    after_strings : (a : Area) (o r : Place) → first_in strings a ≤ o.addr → o.addr + length o.init ≤ last_in a → r.addr + length r.init ≤ strings_end strings → strings_end strings ≤ 0x0fffffff
        → (o.addr + length o.init ≤ r.addr) ⊎ (r.addr + length r.init ≤ o.addr)
    after_strings areas.Constants o r from to ends few = inr (omega arith)
    after_strings areas.Replay o r from to ends few = inr (omega arith)
    after_strings areas.System o r from to ends few = inr (omega arith)

    pub global_and_string : (e : Ends) (o r : Place) → Lies (first_in strings) last_in e o → r.addr + length r.init ≤ strings_end strings → strings_end strings ≤ 0x0fffffff → ¬ Meet o r
    global_and_string e o r l ends few = not_meet o r (after_strings l.area o r l.from l.to ends few)

  -- ---- strings, in one row

  pub grows : (y : ℕ) (xs : List Extent) → y ≤ end_from y xs
  grows y [] = omega arith
  grows y (x ∷ xs) =
      let up = after y x.align in
      let rest = grows (next_multiple_of y x.align + x.size) xs in
      omega arith

  -- each lies between where the row begins and where it ends
  pub in_row : (at : ℕ) (xs : List Extent) (os : List Place) → addresses_of os ≡ offsets_from at xs → AreSized os xs → (q : Place) → Contains os q → (at ≤ q.addr) × (q.addr + length q.init ≤ end_from at xs)
  in_row at xs [] e sized q h = absurd (none_among q h)
  in_row at [] (o ∷ os) e sized q h = absurd sized
  in_row at (x ∷ xs) (o ∷ os) e sized q h =
      let next = next_multiple_of at x.align in
      let here : o.addr ≡ next = cc in
      let later : addresses_of os ≡ offsets_from (next + x.size) xs = cc in
      let up = after at x.align in
      let size = sized.0 in
      let more = grows (next + x.size) xs in
      head_or_later (λ (r : Place). (at ≤ r.addr) × (r.addr + length r.init ≤ end_from at (x ∷ xs))) o os q h (omega arith, omega arith)
      (λ k. (let l = in_row (next + x.size) xs os later sized.1 q k in (omega (arith, l.0), l.1)))

  pub strings_apart : (at : ℕ) (xs : List Extent) (os : List Place) → constants ≤ at → end_from at xs ≤ 0x0fffffff → addresses_of os ≡ offsets_from at xs → AreSized os xs → LieApart os
  strings_apart at xs [] low few e sized = tt
  strings_apart at [] (o ∷ os) low few e sized = absurd sized
  strings_apart at (x ∷ xs) (o ∷ os) low few e sized =
      let next = next_multiple_of at x.align in
      let here : o.addr ≡ next = cc in
      let later : addresses_of os ≡ offsets_from (next + x.size) xs = cc in
      let up = after at x.align in
      let size = sized.0 in
      let more = grows (next + x.size) xs in
      let ends : end_from (next + x.size) xs ≤ 0x0fffffff = few in (
        inl (omega arith, omega arith),
        λ q h. (let l = in_row (next + x.size) xs os later sized.1 q h in not_meet o q (inl (omega (arith, l.0)))),
        strings_apart (next + x.size) xs os (omega arith) ends later sized.1,
      )
