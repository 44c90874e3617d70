-- Lists of regions: what one more region, or some more, add to what is read of them.
use Rattle.std.proofs.Common.{◌≡◌, ℕ, ◌-◌, Bool, true, false, cond, ◌&&◌, ◌||◌, List, [], ◌∷◌, ◌++◌, get_or, Option, Some, None, inl, inr, refl, ap, sym, ◌∙◌}
use Rattle.std.proofs.lemmas.Bool.{cases_Bool, true≢false, cond-true, cond-false}
use Rattle.std.proofs.lemmas.List.Folds.{list_any-append}
use Rattle.marks.specs.Ranges.{covers}
use Rattle.space_memory_access.specs.declared.holder.Region.{Region}
use Rattle.space_memory_access.specs.Holders.{is_pending, has_key}
use Rattle.space_memory_access.specs.Held.{prepared_region}
use Rattle.space_memory.specs.Cells.{is_held}
use Rattle.space_memory_laws.specs.Shown.{value_when_held}
use Rattle.space_memory_laws.specs.Held.{AreApart, HaveOwnKeys}

-- whether the region waits and has the address
abbrev pub waits_at : ℕ → Region → Bool
waits_at x r = is_pending r.holder && covers r.range x

pub some_none : {A : Type 0} (a : A) → Some a ≡ None → ⊥
some_none a e = absurd cc

pub value_left : (xs ys : List Region) (x : ℕ) → value_when_held xs x ≡ None → value_when_held (xs ++ ys) x ≡ value_when_held ys x
value_left [] ys x none = refl
value_left (r ∷ rest) ys x none = go (waits_at x r) none (value_left rest ys x)
  where
    go : (b : Bool) → cond b (Some (get_or r.before (x - r.range.addr) 0)) (value_when_held rest x) ≡ None →
        (value_when_held rest x ≡ None → value_when_held (rest ++ ys) x ≡ value_when_held ys x) →
        cond b (Some (get_or r.before (x - r.range.addr) 0)) (value_when_held (rest ++ ys) x) ≡ value_when_held ys x
    go true e again = absurd (some_none _ e)
    go false e again = again e

pub value_right : (xs ys : List Region) (x : ℕ) → value_when_held ys x ≡ None → value_when_held (xs ++ ys) x ≡ value_when_held xs x
value_right [] ys x none = none
value_right (r ∷ rest) ys x none = ap (λ v. cond (waits_at x r) (Some (get_or r.before (x - r.range.addr) 0)) v) (value_right rest ys x none)

pub prepared_left : (xs ys : List Region) (k : ℕ) → prepared_region xs k ≡ None → prepared_region (xs ++ ys) k ≡ prepared_region ys k
prepared_left [] ys k none = refl
prepared_left (r ∷ rest) ys k none = go (has_key k r.holder) none (prepared_left rest ys k)
  where
    go : (b : Bool) → cond b (Some r) (prepared_region rest k) ≡ None →
        (prepared_region rest k ≡ None → prepared_region (rest ++ ys) k ≡ prepared_region ys k) →
        cond b (Some r) (prepared_region (rest ++ ys) k) ≡ prepared_region ys k
    go true e again = absurd (some_none _ e)
    go false e again = again e

pub prepared_right : (xs ys : List Region) (k : ℕ) → prepared_region ys k ≡ None → prepared_region (xs ++ ys) k ≡ prepared_region xs k
prepared_right [] ys k none = none
prepared_right (r ∷ rest) ys k none = ap (λ v. cond (has_key k r.holder) (Some r) v) (prepared_right rest ys k none)

pub apart_more : (xs : List Region) (r : Region) → AreApart xs → ((x : ℕ) → waits_at x r ≡ true → is_held xs x ≡ false) → AreApart (xs ++ r ∷ [])
apart_more [] r h free = ((λ x is. refl), tt)
apart_more (q ∷ rest) r h free = (first, apart_more rest r h.1 (λ x is. or_none (waits_at x q) (is_held rest x) (free x is)))
  where
    or_none : (a b : Bool) → (a || b) ≡ false → b ≡ false
    or_none true b e = absurd (true≢false e)
    or_none false b e = e

    or_first : (a b : Bool) → (a || b) ≡ false → a ≡ false
    or_first true b e = e
    or_first false b e = refl

    first : (x : ℕ) → waits_at x q ≡ true → is_held (rest ++ r ∷ []) x ≡ false
    first x is = elim (cases_Bool (waits_at x r)) [
      | inl waits ↦ absurd (true≢false (sym is ∙ or_first (waits_at x q) (is_held rest x) (free x waits)))
      | inr idle ↦ list_any-append (waits_at x) rest (r ∷ []) ∙ ap (λ b. b || (waits_at x r || false)) (h.0 x is) ∙ ap (λ b. b || false) idle
    ]

pub keys_more : (xs : List Region) (r : Region) → HaveOwnKeys xs → ((k : ℕ) → has_key k r.holder ≡ true → prepared_region xs k ≡ None) → HaveOwnKeys (xs ++ r ∷ [])
keys_more [] r h free = ((λ k is. refl), tt)
keys_more (q ∷ rest) r h free = (first, keys_more rest r h.1 (λ k is. after (has_key k q.holder) (prepared_region rest k) (free k is)))
  where
    after : (b : Bool) (o : Option Region) → cond b (Some q) o ≡ None → o ≡ None
    after true o e = absurd (some_none _ e)
    after false o e = e

    first : (k : ℕ) → has_key k q.holder ≡ true → prepared_region (rest ++ r ∷ []) k ≡ None
    first k is = elim (cases_Bool (has_key k r.holder)) [
      | inl own ↦ absurd (some_none q (sym (cond-true (has_key k q.holder) (Some q) (prepared_region rest k) is) ∙ free k own))
      | inr other ↦ prepared_left rest (r ∷ []) k (h.0 k is) ∙ cond-false (has_key k r.holder) (Some r) None other
    ]
