-- Lists of the same members, each once, that are sorted by a text of each: the texts are the same.
use Rattle.std.proofs.Common.{◌≡◌, ◌≤◌, ◌<◌, ◌⊎◌, inl, inr, ℕ, zero, suc, true, false, List, [], ◌∷◌, map, length, get_or, Some, refl, sym, ap, ◌∙◌, subst, arith}
use Rattle.std.specs.Prelude.{slice_get}
use Rattle.std.specs.declared.cmp.Ordering.{Ordering}
use Rattle.std.specs.declared.cmp.Ordering.TheVariants.{Less, Equal, Greater}
use Rattle.std.specs.Ordering.{is_lt, nat_cmp, ordering_reverse}
use Rattle.std.specs.Cmp.Lexicographic.{slice_cmp}
use Rattle.std.specs.List.{Contains}
use Rattle.std.specs.List.Sorted.{IsSorted}
use Rattle.std.proofs.lemmas.Cmp.{nat_list_cmp_total}
use Rattle.std.proofs.lemmas.Map.Lookups.{exact_bytes}
use Rattle.std.proofs.lemmas.List.Sorted.{ranks_by, sorted_far}

-- ---- the order of texts

-- the second isn't below the first
abbrev pub Leads : List ℕ → List ℕ → Type 0
Leads a b = is_lt (slice_cmp nat_cmp b a) ≡ false

equal_by : (a b : List ℕ) (o p : Ordering) → o ≡ slice_cmp nat_cmp a b → p ≡ slice_cmp nat_cmp b a → o ≡ ordering_reverse p → is_lt o ≡ false → is_lt p ≡ false → a ≡ b
equal_by a b o Less e f r x y = absurd cc
equal_by a b o Equal e f r x y = exact_bytes a b (sym e ∙ r)
equal_by a b o Greater e f r x y = absurd (let less : is_lt o ≡ true = ap is_lt r in let both : true ≡ false = sym less ∙ x in cc)

pub same_text : (a b : List ℕ) → Leads a b → Leads b a → a ≡ b
same_text a b x y = equal_by a b (slice_cmp nat_cmp a b) (slice_cmp nat_cmp b a) refl refl (nat_list_cmp_total.antisymm a b) y x

module _ {A : Type 0} (text : A → List ℕ) where
  -- ---- lists by their members

  abbrev pub Among : List A → A → Type 0
  Among [] z = ⊥
  Among (x ∷ xs) z = (z ≡ x) ⊎ Among xs z

  abbrev pub Once : List A → Type 0
  Once [] = Unit {0}
  Once (x ∷ xs) = (Among xs x → ⊥) × Once xs

  abbrev pub InOrder : List A → Type 0
  InOrder [] = Unit {0}
  InOrder (x ∷ xs) = ((z : A) → Among xs z → Leads (text x) (text z)) × InOrder xs

  -- ---- a list with one element more, somewhere

  data With (x : A) : List A → List A → Type 0 where
    here : {zs : List A} → With x zs (x ∷ zs)
    later : {z : A} {zs ys : List A} → With x zs ys → With x (z ∷ zs) (z ∷ ys)

  with_it : (x : A) (ys : List A) → Among ys x → (zs : List A) × With x zs ys
  with_it x [] h = absurd h
  with_it x (y ∷ ys) (inl e) = (ys, subst (λ (w : A). With x ys (w ∷ ys)) e here)
  with_it x (y ∷ ys) (inr h) = let found = with_it x ys h in (y ∷ found.0, later found.1)

  has_it : (x : A) (zs ys : List A) → With x zs ys → Among ys x
  has_it x zs ys here = inl refl
  has_it x (z ∷ zs) (w ∷ ys) (later h) = inr (has_it x zs ys h)

  has_rest : (x : A) (zs ys : List A) → With x zs ys → (z : A) → Among zs z → Among ys z
  has_rest x zs ys here z m = inr m
  has_rest x (w ∷ zs) (v ∷ ys) (later h) z (inl e) = inl e
  has_rest x (w ∷ zs) (v ∷ ys) (later h) z (inr m) = inr (has_rest x zs ys h z m)

  or_rest : (x : A) (zs ys : List A) → With x zs ys → (z : A) → Among ys z → (z ≡ x) ⊎ Among zs z
  or_rest x zs ys here z m = m
  or_rest x (w ∷ zs) (v ∷ ys) (later h) z (inl e) = inr (inl e)
  or_rest x (w ∷ zs) (v ∷ ys) (later h) z (inr m) = elim (or_rest x zs ys h z m) [ inl e ↦ inl e | inr k ↦ inr (inr k) ]

  not_in_rest : (x : A) (zs ys : List A) → With x zs ys → Once ys → Among zs x → ⊥
  not_in_rest x zs ys here o m = o.0 m
  not_in_rest x (w ∷ zs) (v ∷ ys) (later h) o (inl e) = o.0 (subst (Among ys) e (has_it x zs ys h))
  not_in_rest x (w ∷ zs) (v ∷ ys) (later h) o (inr m) = not_in_rest x zs ys h o.1 m

  once_rest : (x : A) (zs ys : List A) → With x zs ys → Once ys → Once zs
  once_rest x zs ys here o = o.1
  once_rest x (w ∷ zs) (v ∷ ys) (later h) o = ((λ m. o.0 (has_rest x zs ys h w m)), once_rest x zs ys h o.1)

  ordered_rest : (x : A) (zs ys : List A) → With x zs ys → InOrder ys → InOrder zs
  ordered_rest x zs ys here s = s.1
  ordered_rest x (w ∷ zs) (v ∷ ys) (later h) s = ((λ z m. s.0 z (has_rest x zs ys h z m)), ordered_rest x zs ys h s.1)

  -- what leads all others has the first text
  leads_first : (x : A) (zs ys : List A) → With x zs ys → InOrder ys → ((z : A) → Among zs z → Leads (text x) (text z)) → map text ys ≡ text x ∷ map text zs
  leads_first x zs ys here s least = refl
  leads_first x (w ∷ zs) (v ∷ ys) (later h) s least =
      let rest : map text ys ≡ text x ∷ map text zs = leads_first x zs ys h s.1 (λ z m. least z (inr m)) in
      let same : text x ≡ text w = same_text (text x) (text w) (least w (inl refl)) (s.0 x (has_it x zs ys h)) in
      ap (λ ts. text w ∷ ts) rest ∙ (ap (λ t. text w ∷ t ∷ map text zs) same ∙ ap (λ t. t ∷ text w ∷ map text zs) (sym same))

  same_texts : (xs ys : List A) → Once xs → Once ys → ((z : A) → Among xs z → Among ys z) → ((z : A) → Among ys z → Among xs z) → InOrder xs → InOrder ys → map text xs ≡ map text ys
  same_texts [] [] o p to back s t = refl
  same_texts [] (y ∷ ys) o p to back s t = absurd (back y (inl refl))
  same_texts (x ∷ xs) ys o p to back s t =
      let found = with_it x ys (to x (inl refl)) in
      let zs = found.0 in
      let with_x = found.1 in
      let into : (z : A) → Among xs z → Among zs z = λ z m. elim (or_rest x zs ys with_x z (to z (inr m))) [ inl e ↦ absurd (o.0 (subst (Among xs) e m)) | inr k ↦ k ] in
      let out : (z : A) → Among zs z → Among xs z = λ z m. elim (back z (has_rest x zs ys with_x z m)) [ inl e ↦ absurd (not_in_rest x zs ys with_x p (subst (Among zs) e m)) | inr k ↦ k ] in
      ap (λ ts. text x ∷ ts) (same_texts xs zs o.1 (once_rest x zs ys with_x p) into out s.1 (ordered_rest x zs ys with_x t)) ∙
      sym (leads_first x zs ys with_x t (λ z m. s.0 z (out z m)))

  -- ---- the same, as contracts say it

  among : (xs : List A) (z : A) → Contains xs z → Among xs z
  among [] z h = absurd (omega (arith, h.1))
  among (x ∷ xs) z (zero, l, e) = inl (sym e)
  among (x ∷ xs) z (suc k, l, e) = inr (among xs z (k, omega (arith, l), e))

  contained : (xs : List A) (z : A) → Among xs z → Contains xs z
  contained [] z h = absurd h
  contained (x ∷ xs) z (inl e) = (zero, omega arith, sym e)
  contained (x ∷ xs) z (inr m) = let h = contained xs z m in (suc h.0, (let l = h.1 in omega (arith, l)), h.2)

  got : (xs : List A) (z : A) → Among xs z → (k : ℕ) × (slice_get xs k ≡ Some z)
  got [] z h = absurd h
  got (x ∷ xs) z (inl e) = (zero, ap (λ (w : A). Some w) (sym e))
  got (x ∷ xs) z (inr m) = let h = got xs z m in (suc h.0, h.1)

  abbrev StandsOnce : List A → Type 0
  StandsOnce xs = (i j : ℕ) (x : A) → slice_get xs i ≡ Some x → slice_get xs j ≡ Some x → i ≡ j

  once : (xs : List A) → StandsOnce xs → Once xs
  once [] h = tt
  once (x ∷ xs) h = (
    (λ m. let found = got xs x m in let e : zero ≡ suc found.0 = h zero (suc found.0) x refl found.1 in omega (arith, e)),
    once xs (λ i j z a b. let e : suc i ≡ suc j = h (suc i) (suc j) z a b in omega (arith, e)),
  )

  -- by index: none is below one before it
  abbrev Ascends : List A → Type 0
  Ascends xs = (i j : ℕ) (d : List ℕ) → i ≤ j → j < length (map text xs) → Leads (get_or (map text xs) i d) (get_or (map text xs) j d)

  ascends : (xs : List A) → IsSorted (slice_cmp nat_cmp) (map text xs) → Ascends xs
  ascends xs h = sorted_far (λ a b. is_lt (slice_cmp nat_cmp a b)) (ranks_by nat_list_cmp_total (λ (a : List ℕ). a)) (map text xs) h

  placed : (xs : List A) (z : A) (d : List ℕ) → Among xs z → (k : ℕ) × (k < length (map text xs)) × (get_or (map text xs) k d ≡ text z)
  placed [] z d h = absurd h
  placed (x ∷ xs) z d (inl e) = (zero, omega arith, ap text (sym e))
  placed (x ∷ xs) z d (inr m) = let h = placed xs z d m in (suc h.0, (let l = h.1 in omega (arith, l)), h.2)

  in_order : (xs : List A) → Ascends xs → InOrder xs
  in_order [] h = tt
  in_order (x ∷ xs) h = (
    (λ z m. let p = placed xs z [] m in subst (Leads (text x)) p.2 (h zero (suc p.0) [] (omega arith) (let l = p.1 in omega (arith, l)))),
    in_order xs (λ i j d l m. h (suc i) (suc j) d (omega (arith, l)) (omega (arith, m))),
  )

  -- sorted lists of the same members, each of which stands once, have the same texts
  pub one_order : (xs ys : List A) → ((z : A) → Contains xs z → Contains ys z) → ((z : A) → Contains ys z → Contains xs z) → StandsOnce xs → StandsOnce ys
      → IsSorted (slice_cmp nat_cmp) (map text xs) → IsSorted (slice_cmp nat_cmp) (map text ys) → map text xs ≡ map text ys
  one_order xs ys to back o p s t =
      same_texts xs ys (once xs o) (once ys p) (λ z m. among ys z (to z (contained xs z m))) (λ z m. among xs z (back z (contained ys z m))) (in_order xs (ascends xs s)) (in_order ys (ascends ys t))
