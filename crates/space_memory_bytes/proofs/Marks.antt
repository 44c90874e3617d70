-- Bytes as marks beside values: one byte, a number at once, and whole parts.
use Rattle.std.proofs.Common.{◌++◌, take, ◌≡◌, ◌≢◌, ◌↔◌, ℕ, zero, suc, ◌+◌, ◌-◌, ◌^◌, ◌<◌, ◌≤◌, Bool, true, false, cond, eqb, List, [], ◌∷◌, length, replicate, get_or, Option, Some, None, refl, ap, sym, ◌∙◌, subst, inl, inr, arith}
use Rattle.std.proofs.lemmas.Bool.{cases_eq, cases_lt, ne_eqb, cond-true, cond-false}
use Rattle.std.proofs.lemmas.List.{get_or_append_left, get_or-append_right, get_or-take, get_or-drop, get_or_past, length-take-le, length-append, length-replicate}
use Rattle.std.specs.Int.{w64, to_le_bytes}
use borrow.Rule.Slice.PartMut.{post_of}
use Rattle.marks.specs.declared.range.Range.{Range}
use Rattle.marks.specs.Ranges.{covers}
use Rattle.space_memory_bytes.specs.Numbers.{digit}
use Rattle.space_memory_bytes.specs.Marks.{marked, cells_of, cells_in, AreMarks, AreLive, HasDigits, PutsAt, WritesDigits}
use Rattle.space_memory_bytes.proofs.Cells.{cover_cases, same_digits}

-- as many bytes as marks
pub length-cells : (marks values : List ℕ) → length values ≡ length marks → length (cells_of marks values) ≡ length marks
unfolding cells_of
length-cells [] values same = refl
length-cells (m ∷ ms) [] same = absurd (omega arith)
length-cells (m ∷ ms) (v ∷ vs) same = omega (arith, length-cells ms vs (omega arith))

-- one byte
pub get-cells : (marks values : List ℕ) (k : ℕ) → length values ≡ length marks → get_or (cells_of marks values) k None ≡ marked (get_or marks k 0) (get_or values k 0)
unfolding cells_of
get-cells [] [] k same = refl
get-cells [] (v ∷ vs) k same = absurd (omega arith)
get-cells (m ∷ ms) [] k same = absurd (omega arith)
get-cells (m ∷ ms) (v ∷ vs) zero same = refl
get-cells (m ∷ ms) (v ∷ vs) (suc k) same = get-cells ms vs k (omega arith)

-- dead bytes
get-dead : (n k : ℕ) → get_or {A = Option ℕ} (replicate n None) k None ≡ None
get-dead zero k = refl
get-dead (suc n) zero = refl
get-dead (suc n) (suc k) = get-dead n k

pub cells-none : (size : ℕ) → cells_in size [] [] ≡ replicate size None
unfolding cells_in cells_of
cells-none size =
    let same : size - 0 ≡ size = omega arith in
    ap (λ n. replicate {A = Option ℕ} n None) same

-- a live byte's mark is 1
pub live_mark : (mark value : ℕ) → marked mark value ≢ None → mark ≡ 1
live_mark mark value live = elim (cases_eq mark 1) [
  | inl same ↦ same
  | inr other ↦ absurd (live (cond-false (eqb mark 1) (Some value) None (ne_eqb mark 1 other)))
]

-- a byte without it is dead
pub dead_mark : (mark value : ℕ) → mark ≢ 1 → marked mark value ≡ None
dead_mark mark value other = cond-false (eqb mark 1) (Some value) None (ne_eqb mark 1 other)

-- and with it lives
pub mark_live : (mark value : ℕ) → mark ≡ 1 → marked mark value ≡ Some value
mark_live mark value same = ap (λ m. marked m value) same

-- so many bytes
pub length-in : (size : ℕ) (marks values : List ℕ) → AreMarks size marks values → length (cells_in size marks values) ≡ size
unfolding cells_in
length-in size marks values are =
    let all = length-append (cells_of marks values) (replicate {A = Option ℕ} (size - length marks) None) in
    omega (arith, all, length-cells marks values are.same, length-replicate {A = Option ℕ} (size - length marks) None, are.within)

pub get-in : (size : ℕ) (marks values : List ℕ) (k : ℕ) → AreMarks size marks values → get_or (cells_in size marks values) k None ≡ marked (get_or marks k 0) (get_or values k 0)
unfolding cells_in
get-in size marks values k are =
    let cells = cells_of marks values in
    let past : List (Option ℕ) = replicate (size - length marks) None in
    let len : length cells ≡ length marks = length-cells marks values are.same in
    elim (cases_lt k (length marks)) [
      | inl inner ↦ get_or_append_left cells past None k (omega (arith, len, inner)) ∙ get-cells marks values k are.same
      | inr outer ↦
          let none : get_or marks k 0 ≡ 0 = get_or_past marks k 0 outer in
          get_or-append_right cells past (length marks) k None len outer ∙ get-dead (size - length marks) (k - length marks) ∙ sym (dead_mark (get_or marks k 0) (get_or values k 0) (λ one. omega (arith, none, one)))
    ]

pub some_there : (found : Option ℕ) (value : ℕ) → found ≡ Some value → found ≢ None
some_there found value is none =
    let wrong : Some value ≡ None = sym is ∙ none in
    absurd (cc)

-- a part put into others
pub mid_get : (old part : List ℕ) (at n m k : ℕ) → m ≡ n → length part ≡ n → at + n ≤ length old → get_or (take at old ++ (part ++ post_of at m old)) k 0 ≡ cond (covers (record { addr = at; len = n }) k) (get_or part (k - at) 0) (get_or old k 0)
mid_get old part at n m k same len within =
    let r : Range = record { addr = at; len = n } in
    let low_len : length (take at old) ≡ at = length-take-le at old (omega arith) in
    elim (cover_cases r k) [
      | inl in' ↦
          get_or-append_right (take at old) (part ++ post_of at m old) at k 0 low_len in'.from
          ∙ get_or_append_left part (post_of at m old) 0 (k - at) (omega (arith, in'.below, in'.from))
          ∙ sym (cond-true (covers r k) (get_or part (k - at) 0) (get_or old k 0) in'.is)
      | inr out ↦ elim out.out [
        | inl low ↦
            get_or_append_left (take at old) (part ++ post_of at m old) 0 k (omega arith)
            ∙ get_or-take at old k 0 low
            ∙ sym (cond-false (covers r k) (get_or part (k - at) 0) (get_or old k 0) out.is)
        | inr high ↦
            get_or-append_right (take at old) (part ++ post_of at m old) at k 0 low_len (omega arith)
            ∙ get_or-append_right part (post_of at m old) n (k - at) 0 len (omega arith)
            ∙ get_or-drop m _ (k - at - n) 0
            ∙ get_or-drop at old (m + (k - at - n)) 0
            ∙ ap (λ j. get_or old j 0) (omega arith)
            ∙ sym (cond-false (covers r k) (get_or part (k - at) 0) (get_or old k 0) out.is)
      ]
    ]

abbrev pub eight_ones : List ℕ
eight_ones = 1 ∷ 1 ∷ 1 ∷ 1 ∷ 1 ∷ 1 ∷ 1 ∷ 1 ∷ []

one_of : (i : ℕ) → i < 8 → ◌≡◌ {A = ℕ} (get_or eight_ones i 0) 1
one_of zero lt = refl
one_of (suc zero) lt = refl
one_of (suc (suc zero)) lt = refl
one_of (suc (suc (suc zero))) lt = refl
one_of (suc (suc (suc (suc zero)))) lt = refl
one_of (suc (suc (suc (suc (suc zero))))) lt = refl
one_of (suc (suc (suc (suc (suc (suc zero)))))) lt = refl
one_of (suc (suc (suc (suc (suc (suc (suc zero))))))) lt = refl
one_of (suc (suc (suc (suc (suc (suc (suc (suc i)))))))) lt = absurd (omega arith)

pub digit_of : (value i : ℕ) → i < 8 → get_or (to_le_bytes w64 value) i 0 ≡ digit value i
digit_of value zero lt = omega arith
digit_of value (suc zero) lt = refl
digit_of value (suc (suc zero)) lt = refl
digit_of value (suc (suc (suc zero))) lt = refl
digit_of value (suc (suc (suc (suc zero)))) lt = refl
digit_of value (suc (suc (suc (suc (suc zero))))) lt = refl
digit_of value (suc (suc (suc (suc (suc (suc zero)))))) lt = refl
digit_of value (suc (suc (suc (suc (suc (suc (suc zero))))))) lt = refl
digit_of value (suc (suc (suc (suc (suc (suc (suc (suc i)))))))) lt = absurd (omega arith)

-- what a change of some bytes leaves of all
at_most_one : (b : Bool) (new old : ℕ) → new ≤ 1 → old ≤ 1 → cond b new old ≤ 1
at_most_one true new old few before = few
at_most_one false new old few before = before

-- marks of which some become others are still marks
pub still_bits : (marks marks' : List ℕ) (at n : ℕ) (ms : ℕ → ℕ) → ((k : ℕ) → get_or marks' k 0 ≡ cond (covers (record { addr = at; len = n }) k) (ms (k - at)) (get_or marks k 0)) → ((i : ℕ) → ms i ≤ 1) → ((k : ℕ) → get_or marks k 0 ≤ 1) → (k : ℕ) → get_or marks' k 0 ≤ 1
still_bits marks marks' at n ms marks_are few bits k = subst (λ m. m ≤ 1) (sym (marks_are k)) (at_most_one (covers (record { addr = at; len = n }) k) (ms (k - at)) (get_or marks k 0) (few (k - at)) (bits k))

-- bytes of which some stay as they are
pub stays_within : (bytes : List ℕ) (at n k : ℕ) → get_or bytes k 0 ≡ cond (covers (record { addr = at; len = n }) k) (get_or bytes (at + (k - at)) 0) (get_or bytes k 0)
stays_within bytes at n k =
    let r : Range = record { addr = at; len = n } in
    elim (cover_cases r k) [
      | inl in' ↦ ap (λ j. get_or bytes j 0) (omega (arith, in'.from)) ∙ sym (cond-true (covers r k) (get_or bytes (at + (k - at)) 0) (get_or bytes k 0) in'.is)
      | inr out ↦ sym (cond-false (covers r k) (get_or bytes (at + (k - at)) 0) (get_or bytes k 0) out.is)
    ]

module _ (size : ℕ) (marks values : List ℕ) (are : AreMarks size marks values) (now : List (Option ℕ)) (view : cells_in size marks values ≡ now) where
  pub length_is : size ≡ length now
  length_is = sym (length-in size marks values are) ∙ ap (λ (cells : List (Option ℕ)). length cells) view

  pub get_is : (k : ℕ) → get_or now k None ≡ marked (get_or marks k 0) (get_or values k 0)
  get_is k = ap (λ (cells : List (Option ℕ)). get_or cells k None) (sym view) ∙ get-in size marks values k are

  -- a byte that lives has the mark 1
  pub mark_is : (k : ℕ) → get_or now k None ≢ None → get_or marks k 0 ≡ 1
  mark_is k live = live_mark (get_or marks k 0) (get_or values k 0) (λ none. live (get_is k ∙ none))

  pub value_is : (k : ℕ) → get_or now k None ≢ None → get_or now k None ≡ Some (get_or values k 0)
  value_is k live = get_is k ∙ mark_live _ (get_or values k 0) (mark_is k live)

  -- bytes live where their marks are the number of as many ones
  pub number_live : (a b at n : ℕ) → n ≤ 8 → a < 256 ^ n → b < 256 ^ n → ((i : ℕ) → i < n → digit a i ≡ get_or marks (at + i) 0) → ((i : ℕ) → i < n → digit b i ≡ get_or eight_ones i 0) → (a ≡ b) ↔ AreLive now at n
  number_live a b at n few fits_a fits_b digits ones = (
    λ is i lt.
        let one : get_or marks (at + i) 0 ≡ 1 = sym (digits i lt) ∙ ap (λ m. digit m i) is ∙ ones i lt ∙ one_of i (omega arith) in
        some_there _ (get_or values (at + i) 0) (get_is (at + i) ∙ mark_live _ (get_or values (at + i) 0) one),
    λ live. same_digits n a b fits_a fits_b (λ i lt. digits i lt ∙ mark_is (at + i) (live i lt) ∙ sym (ones i lt ∙ one_of i (omega arith))),
  )

  -- bytes past the marks don't
  pub mark_within : (k : ℕ) → get_or marks k 0 ≡ 1 → k < length marks
  mark_within k one = elim (cases_lt k (length marks)) [
    | inl inner ↦ inner
    | inr outer ↦ absurd (omega (arith, one, get_or_past marks k 0 outer))
  ]

  pub live_within : (at n : ℕ) → 1 ≤ n → AreLive now at n → at + n ≤ length marks
  live_within at n some live = omega (arith, mark_within (at + (n - 1)) (mark_is (at + (n - 1)) (live (n - 1) (omega arith))))

  -- live bytes are those of the number of their values
  pub number_is : (a at n : ℕ) → AreLive now at n → ((i : ℕ) → i < n → digit a i ≡ get_or values (at + i) 0) → HasDigits now at n a
  number_is a at n live digits i lt = value_is (at + i) (live i lt) ∙ ap (λ v. Some v) (sym (digits i lt))

  -- both end no earlier than a place, and some bytes are made live
  pub are_grown : (marks' values' : List ℕ) (to at n : ℕ) → to ≤ length now → length marks' ≡ length marks + (to - length marks) → length values' ≡ length values + (to - length values) → ((k : ℕ) → get_or marks' k 0 ≡ cond (covers (record { addr = at; len = n }) k) 1 (get_or marks k 0)) → AreMarks size marks' values'
  are_grown marks' values' to at n within marks_len values_len marks_are = record {
    same = omega (arith, marks_len, values_len, are.same);
    within = omega (arith, marks_len, are.within, within, length_is);
    bits = still_bits marks marks' at n (λ i. 1) marks_are (λ i. omega arith) are.bits;
  }

  module _ (marks' values' : List ℕ) (at n : ℕ) (ms vs : ℕ → ℕ) (are' : AreMarks size marks' values')
      (marks_are : (k : ℕ) → get_or marks' k 0 ≡ cond (covers (record { addr = at; len = n }) k) (ms (k - at)) (get_or marks k 0))
      (values_are : (k : ℕ) → get_or values' k 0 ≡ cond (covers (record { addr = at; len = n }) k) (vs (k - at)) (get_or values k 0)) where
    -- some bytes are changed
    pub changed : PutsAt at n (λ i. marked (ms i) (vs i)) now (cells_in size marks' values')
    changed = record {
      size = length-in size marks' values' are' ∙ length_is;
      cells = λ k.
          let r : Range = record { addr = at; len = n } in
          let here = get-in size marks' values' k are' in
          elim (cover_cases r k) [
            | inl in' ↦
                let mark : get_or marks' k 0 ≡ ms (k - at) = marks_are k ∙ cond-true (covers r k) (ms (k - at)) (get_or marks k 0) in'.is in
                let byte : get_or values' k 0 ≡ vs (k - at) = values_are k ∙ cond-true (covers r k) (vs (k - at)) (get_or values k 0) in'.is in
                here ∙ ap (λ m. marked m (get_or values' k 0)) mark ∙ ap (λ v. marked (ms (k - at)) v) byte ∙ sym (cond-true (covers r k) (marked (ms (k - at)) (vs (k - at))) (get_or now k None) in'.is)
            | inr out ↦
                let mark : get_or marks' k 0 ≡ get_or marks k 0 = marks_are k ∙ cond-false (covers r k) (ms (k - at)) (get_or marks k 0) out.is in
                let byte : get_or values' k 0 ≡ get_or values k 0 = values_are k ∙ cond-false (covers r k) (vs (k - at)) (get_or values k 0) out.is in
                here ∙ ap (λ m. marked m (get_or values' k 0)) mark ∙ ap (λ v. marked (get_or marks k 0) v) byte ∙ sym (get_is k) ∙ sym (cond-false (covers r k) (marked (ms (k - at)) (vs (k - at))) (get_or now k None) out.is)
          ];
    }

  -- live bytes that are written stay live
  pub marks_stay : (at n : ℕ) → AreLive now at n → (k : ℕ) → get_or marks k 0 ≡ cond (covers (record { addr = at; len = n }) k) 1 (get_or marks k 0)
  marks_stay at n live k =
      let r : Range = record { addr = at; len = n } in
      elim (cover_cases r k) [
        | inl in' ↦
            let there : at + (k - at) ≡ k = omega (arith, in'.from) in
            let lives : get_or now k None ≢ None = subst (λ j. get_or now j None ≢ None) there (live (k - at) (omega (arith, in'.from, in'.below))) in
            mark_is k lives ∙ sym (cond-true (covers r k) 1 (get_or marks k 0) in'.is)
        | inr out ↦ sym (cond-false (covers r k) 1 (get_or marks k 0) out.is)
      ]

  -- they are those of a number where their values are
  pub overwritten : (values' part : List ℕ) (at n value : ℕ) → length values' ≡ length values → AreLive now at n → ((i : ℕ) → i < n → get_or part i 0 ≡ digit value i) → ((k : ℕ) → get_or values' k 0 ≡ cond (covers (record { addr = at; len = n }) k) (get_or part (k - at) 0) (get_or values k 0)) → WritesDigits at n value now (cells_in size marks values')
  overwritten values' part at n value values_len live part_is values_are =
      changed marks values' at n (λ i. 1) (λ i. digit value i) (record { same = values_len ∙ are.same; within = are.within; bits = are.bits }) (marks_stay at n live) (λ k.
      let r : Range = record { addr = at; len = n } in
      values_are k ∙ elim (cover_cases r k) as (λ _. cond (covers r k) (get_or part (k - at) 0) (get_or values k 0) ≡ cond (covers r k) (digit value (k - at)) (get_or values k 0)) [
        | inl in' ↦ ap (λ v. cond (covers r k) v (get_or values k 0)) (part_is (k - at) (omega (arith, in'.from, in'.below)))
        | inr out ↦ cond-false (covers r k) (get_or part (k - at) 0) (get_or values k 0) out.is ∙ sym (cond-false (covers r k) (digit value (k - at)) (get_or values k 0) out.is)
      ])
