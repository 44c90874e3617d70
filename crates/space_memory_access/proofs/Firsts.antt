-- The first byte at which one of two facts holds, and the regions looked at so far.
use Rattle.std.proofs.Common.{◌≡◌, ℕ, ◌+◌, ◌^◌, ◌<◌, ◌≤◌, ◌⊎◌, Bool, true, false, ◌&&◌, ◌||◌, leb, ltb, min, List, [], ◌∷◌, ◌++◌, length, get_or, take, Option, Some, None, refl, ap, sym, ◌∙◌, subst, inl, inr, arith}
use Rattle.std.specs.List.{list_any}
use Rattle.std.proofs.lemmas.Bool.{cases_lt, or_cases, or_left, or_right, and_parts, and_from, both_ways, le-leb, lt-ltb, leb-true, ltb-true}
use Rattle.std.proofs.lemmas.List.{take_more}
use Rattle.marks.specs.declared.range.Range.{Range}
use Rattle.marks.specs.Ranges.{IsInRange, IsLeastIn, IsFirstIn, covers}
use Rattle.space_memory_access.specs.declared.holder.Region.{Region}
use Rattle.space_memory_access.specs.Holders.{is_pending}
use Rattle.space_memory_access.specs.Held.{IsPending, earlier}

-- the earlier of two firsts is the first of both
pub first_either : (range : Range) (P Q R : ℕ → Type 0) → ((x : ℕ) → IsInRange range x → R x → P x ⊎ Q x) → ((x : ℕ) → P x → R x) → ((x : ℕ) → Q x → R x) → (a b : Option ℕ) → IsFirstIn range P a → IsFirstIn range Q b → IsFirstIn range R (earlier a b)
first_either range P Q R split left right None None none none' = λ x in' r. elim (split x in' r) [ inl p ↦ none x in' p | inr q ↦ none' x in' q ]
first_either range P Q R split left right None (Some y) none least = record {
  in_range = least.in_range;
  holds = right y least.holds;
  least = λ x in' r. elim (split x in' r) [ inl p ↦ absurd (none x in' p) | inr q ↦ least.least x in' q ];
}
first_either range P Q R split left right (Some x) None least none = record {
  in_range = least.in_range;
  holds = left x least.holds;
  least = λ y in' r. elim (split y in' r) [ inl p ↦ least.least y in' p | inr q ↦ absurd (none y in' q) ];
}
first_either range P Q R split left right (Some x) (Some y) least least' = elim (cases_lt x y) [
  | inl before ↦
      let same : x ≡ min x y = omega arith in
      subst (λ m. IsLeastIn range R m) same (record {
        in_range = least.in_range;
        holds = left x least.holds;
        least = λ z in' r. elim (split z in' r) [ inl p ↦ least.least z in' p | inr q ↦ (let far : y ≤ z = least'.least z in' q in omega arith) ];
      })
  | inr after ↦
      let same : y ≡ min x y = omega arith in
      subst (λ m. IsLeastIn range R m) same (record {
        in_range = least'.in_range;
        holds = right y least'.holds;
        least = λ z in' r. elim (split z in' r) [ inl p ↦ (let far : x ≤ z = least.least z in' p in omega arith) | inr q ↦ least'.least z in' q ];
      })
]

-- the first of a fact is that of an equal one
pub first_same : (range : Range) (P R : ℕ → Type 0) → ((x : ℕ) → R x → P x) → ((x : ℕ) → P x → R x) → (a : Option ℕ) → IsFirstIn range P a → IsFirstIn range R a
first_same range P R back on None none = λ x in' r. none x in' (back x r)
first_same range P R back on (Some x) least = record { in_range = least.in_range; holds = on x least.holds; least = λ y in' r. least.least y in' (back y r) }

-- an item more
pub any_push : {X : Type 0} (test : X → Bool) (xs : List X) (y : X) → list_any test (xs ++ y ∷ []) ≡ (list_any test xs || test y)
any_push test [] y = elim (test y) as (λ b. (b || false) ≡ b) [ true ↦ refl | false ↦ refl ]
any_push test (x ∷ xs) y = elim (test x) as (λ b. (b || list_any test (xs ++ y ∷ [])) ≡ ((b || list_any test xs) || test y)) [ true ↦ refl | false ↦ any_push test xs y ]

pub any_more : {X : Type 0} (test : X → Bool) (xs : List X) (at : ℕ) (d : X) → at < length xs → list_any test (take (at + 1) xs) ≡ (list_any test (take at xs) || test (get_or xs at d))
any_more test xs at d lt = ap (λ ys. list_any test ys) (take_more xs at d lt) ∙ any_push test (take at xs) (get_or xs at d)

-- an address of a range is covered
pub covers_from : (r : Range) (x : ℕ) → IsInRange r x → covers r x ≡ true
covers_from r x in' = and_from (leb r.addr x) (ltb x (r.addr + r.len)) (le-leb r.addr x in'.0) (lt-ltb x (r.addr + r.len) in'.1)

pub covers_parts : (r : Range) (x : ℕ) → x < 2 ^ 64 → covers r x ≡ true → IsInRange r x
covers_parts r x small c =
    let parts = and_parts (leb r.addr x) (ltb x (r.addr + r.len)) c in
    (leb-true r.addr x parts.0, ltb-true x (r.addr + r.len) parts.1, small)

-- a region more that is pending
pub pending_more : (regions : List Region) (at : ℕ) (d : Region) (range : Range) (first common : Option ℕ) → at < length regions → is_pending (get_or regions at d).holder ≡ true → IsFirstIn range (IsPending (take at regions)) first → IsFirstIn range (IsInRange (get_or regions at d).range) common → IsFirstIn range (IsPending (take (at + 1) regions)) (earlier first common)
pending_more regions at d range first common lt pending so_far here =
    let r = get_or regions at d in
    let more = λ (x : ℕ). any_more (λ (q : Region). is_pending q.holder && covers q.range x) regions at d lt in
    first_either range (IsPending (take at regions)) (IsInRange r.range) (IsPending (take (at + 1) regions))
    (λ x in' is. elim (or_cases (list_any (λ (q : Region). is_pending q.holder && covers q.range x) (take at regions)) (is_pending r.holder && covers r.range x) (sym (more x) ∙ is)) [
      | inl before ↦ inl before
      | inr this ↦ inr (covers_parts r.range x in'.2 (and_parts (is_pending r.holder) (covers r.range x) this).1)
    ])
    (λ x before. more x ∙ or_left (list_any (λ (q : Region). is_pending q.holder && covers q.range x) (take at regions)) (is_pending r.holder && covers r.range x) before)
    (λ x this. more x ∙ or_right (list_any (λ (q : Region). is_pending q.holder && covers q.range x) (take at regions)) (is_pending r.holder && covers r.range x) (and_from (is_pending r.holder) (covers r.range x) pending (covers_from r.range x this)))
    first common so_far here

-- a region more that isn't
pub pending_same : (regions : List Region) (at : ℕ) (d : Region) (range : Range) (first : Option ℕ) → at < length regions → is_pending (get_or regions at d).holder ≡ false → IsFirstIn range (IsPending (take at regions)) first → IsFirstIn range (IsPending (take (at + 1) regions)) first
pending_same regions at d range first lt idle so_far =
    let r = get_or regions at d in
    let more = λ (x : ℕ). any_more (λ (q : Region). is_pending q.holder && covers q.range x) regions at d lt in
    first_same range (IsPending (take at regions)) (IsPending (take (at + 1) regions))
    (λ x is. elim (or_cases (list_any (λ (q : Region). is_pending q.holder && covers q.range x) (take at regions)) (is_pending r.holder && covers r.range x) (sym (more x) ∙ is)) [
      | inl before ↦ before
      | inr this ↦ absurd (both_ways (is_pending r.holder) idle (and_parts (is_pending r.holder) (covers r.range x) this).0)
    ])
    (λ x before. more x ∙ or_left (list_any (λ (q : Region). is_pending q.holder && covers q.range x) (take at regions)) (is_pending r.holder && covers r.range x) before)
    first so_far

-- none is pending before the first region
pub pending_none : (range : Range) → IsFirstIn range (IsPending []) None
pending_none range = λ x in' is. both_ways false refl is
