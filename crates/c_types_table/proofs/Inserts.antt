-- A table into which a type is put that may be there already.
use Rattle.std.proofs.Common.{◌≡◌, ℕ, zero, suc, ◌+◌, ◌<◌, ◌≤◌, Bool, true, false, List, [], ◌∷◌, ◌++◌, length, get_or, Some, refl, sym, ap, ◌∙◌, arith, length-append, subst, ◌⊎◌, inl, inr, true≢false, if◌then◌else◌}
use Rattle.std.specs.Prelude.{slice_get}
use Rattle.std.specs.List.{list_any, IsDistinct}
use Rattle.std.proofs.Math.ListN.{get_or-append}
use Rattle.std.proofs.lemmas.Bool.{cases_lt}
use Rattle.std.proofs.lemmas.Map.Keys.{apart_from_distinct}
use Rattle.indexmap.specs.IndexSet.{insert_key}
use Rattle.c_types_model.specs.Types.{CType}
use Rattle.c_types_model.specs.Types as types
use Rattle.c_types_table.specs.declared.ids.TypeId.{TypeId}
use Rattle.c_types_table.specs.declared.ty.Ty.{Ty}
use Rattle.c_types_table.specs.declared.ty.Ty.TheVariants as nodes
use Rattle.c_types_table.specs.Tables.{IsMadeOf, IsTable, AreDistinct, made, types_of, type_at}
use Rattle.c_types_table.proofs.TypeLists.{Extends, IsTable-push, length-types_after, made_in_table, made_stays, type_at-kept, types_after-push}

module _ (eq : Ty → Ty → Bool) (same : (x y : Ty) → eq x y ≡ true → x ≡ y) (itself : (x : Ty) → eq x x ≡ true) where
  -- what is put in is there, or comes last
  insert_cases : (ns : List Ty) (n : Ty) → (insert_key eq ns n ≡ ns) ⊎ (insert_key eq ns n ≡ ns ++ n ∷ [])
  insert_cases ns n = by (list_any (eq n) ns) refl
    where
      by : (b : Bool) → list_any (eq n) ns ≡ b → (insert_key eq ns n ≡ ns) ⊎ (insert_key eq ns n ≡ ns ++ n ∷ [])
      by true e = inl (ap (λ c. if c then ns else ns ++ n ∷ []) e)
      by false e = inr (ap (λ c. if c then ns else ns ++ n ∷ []) e)

  pub insert_table : (ns : List Ty) (n : Ty) → IsTable ns → IsMadeOf (length ns) n → IsTable (insert_key eq ns n)
  insert_table ns n h p = elim (insert_cases ns n) [
    | inl e ↦ subst IsTable (sym e) h
    | inr e ↦ subst IsTable (sym e) (IsTable-push ns n h p)
  ]

  -- types of a table stand for the same where one more is put in
  pub insert_kept : (ns : List Ty) (n : Ty) (i : TypeId) → i.0 < length ns → type_at (insert_key eq ns n) i ≡ type_at ns i
  insert_kept ns n i lt = elim (insert_cases ns n) [
    | inl e ↦ ap (λ ms. type_at ms i) e
    | inr e ↦ ap (λ ms. type_at ms i) e ∙ type_at-kept ns n i lt
  ]

  size : (ns : List Ty) → length (types_of ns) ≡ length ns
  size ns = let h = length-types_after [] ns in omega arith

  pushed : (ns : List Ty) (n : Ty) → Extends (types_of ns) (types_of (ns ++ n ∷ []))
  unfolding Extends
  pushed ns n k lt = ap (λ ts. get_or ts k types.Void) (types_after-push [] ns n) ∙ get_or-append (types_of ns) (made (types_of ns) n ∷ []) types.Void k lt

  -- and so do the parts of what is put in
  insert_made : (ns : List Ty) (n : Ty) → IsMadeOf (length ns) n → made (types_of (insert_key eq ns n)) n ≡ made (types_of ns) n
  insert_made ns n p = elim (insert_cases ns n) [
    | inl e ↦ ap (λ ms. made (types_of ms) n) e
    | inr e ↦ ap (λ ms. made (types_of ms) n) e ∙ made_stays (types_of ns) (types_of (ns ++ n ∷ [])) n (pushed ns n) (subst (λ l. IsMadeOf l n) (sym (size ns)) p)
  ]

  pub insert_added : (ns : List Ty) (n k : Ty) (i : TypeId) → IsTable ns → IsMadeOf (length ns) n → slice_get (insert_key eq ns n) i.0 ≡ Some k → eq n k ≡ true → type_at (insert_key eq ns n) i ≡ made (types_of ns) n
  insert_added ns n k i h p there e =
      let is : n ≡ k = same n k e in
      let meaning = made_in_table (insert_key eq ns n) i k (insert_table ns n h p) there in
      sym meaning ∙ (ap (made (types_of (insert_key eq ns n))) (sym is) ∙ insert_made ns n p)

  -- no type stands twice where no two are equal
  pub distinct_places : (ns : List Ty) → IsDistinct eq ns → AreDistinct ns
  distinct_places ns h i j t p q = elim (cases_lt i j) [
    | inl less ↦ absurd (apart ns h i j t p q less)
    | inr le ↦ elim (cases_lt j i) [
      | inl more ↦ absurd (apart ns h j i t q p more)
      | inr ge ↦ omega arith
    ]
  ]
    where
      apart : (ns : List Ty) → IsDistinct eq ns → (i j : ℕ) (t : Ty) → slice_get ns i ≡ Some t → slice_get ns j ≡ Some t → i < j → ⊥
      apart ns h i j t p q lt = true≢false (sym (itself t) ∙ (ap (λ x. eq x t) (sym (read ns i t p)) ∙ (ap (eq (get_or ns i t)) (sym (read ns j t q)) ∙ apart_from_distinct eq ns i j t h lt (within ns j t q))))
        where
          read : (ns : List Ty) (i : ℕ) (t : Ty) → slice_get ns i ≡ Some t → get_or ns i t ≡ t
          read (n ∷ ns) zero t e = cc
          read (n ∷ ns) (suc i) t e = read ns i t e
          read [] i t e = absurd cc

          within : (ns : List Ty) (i : ℕ) (t : Ty) → slice_get ns i ≡ Some t → i < length ns
          within [] i t e = absurd cc
          within (n ∷ ns) zero t e = omega arith
          within (n ∷ ns) (suc i) t e = omega (arith, within ns i t e)
