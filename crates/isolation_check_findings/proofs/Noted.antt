-- The functions that a function names.
use Rattle.std.proofs.Common.{◌≡◌, inl, inr, ℕ, zero, suc, ◌+◌, ◌<◌, Bool, true, false, ◌&&◌, ◌||◌, List, [], ◌∷◌, length, drop, get_or, ◌≤◌, refl, sym, ap, ◌∙◌, subst, arith}
use Rattle.std.specs.Prelude.{Option, Some, None, slice_get, is_some}
use Rattle.std.specs.List.{Contains}
use Rattle.std.proofs.lemmas.Bool.{and_from, and_parts, or_cases, or_left, or_right}
use Rattle.std.proofs.lemmas.List.{drop_all}
use Rattle.std.proofs.lemmas.Option.{slice_get_within}
use Rattle.c_builtins.specs.Table.{first_source_function}
use Rattle.cut_graph_rules.specs.declared.mention.Mention.{Mention}
use Rattle.cut_graph_rules.specs.declared.mention.Mention.TheVariants.{Function, Global}
use Rattle.cut_graph_rules.specs.Sources.{Mentioned}
use Rattle.cut_graph_rules.specs.MayRun.{Names, in_body, in_value, mentions_in, mentions_in_value, or_nothing}
use Rattle.isolation_check_rows.specs.declared.kind.MentionKind.TheVariants as kinds
use Rattle.isolation_check_rows.specs.Rows.{IsEmpty, IsNoted, entry, has, noted}
use Rattle.isolation_check_rows.proofs.Has.{contains_has, has_contains}
use Rattle.isolation_check_rows.proofs.Steps.{one_at}
use Rattle.isolation_check_findings.specs.Named.{AreNamed, IsNotedByValues, any_value}
use Rattle.isolation_check_findings.proofs.Naming.{in_function}

-- ---- one value after another

both : (b h : Bool) (f : ℕ) (old : Option ℕ) → noted (b || h) f old ≡ noted h f (noted b f old)
both true true f old = refl
both true false f old = refl
both false true f old = refl
both false false f old = refl

pub by_first : (f : ℕ) (t : Option ℕ) (ts : List (Option ℕ)) (v : List Mention) (vs : List (List Mention)) (old mid q : List (Option ℕ))
    → length mid ≡ length old
    → ((k : ℕ) → k < length old → entry mid k ≡ noted (is_some t && has kinds.Function k v) f (entry old k))
    → IsNotedByValues f mid ts vs q → IsNotedByValues f old (t ∷ ts) (v ∷ vs) q
by_first f t ts v vs old mid q size step h = record {
  size = h.size ∙ size;
  entries = λ k lt. h.entries k (omega (arith, size)) ∙ (ap (noted (any_value k ts vs) f) (step k lt)
      ∙ sym (both (is_some t && has kinds.Function k v) (any_value k ts vs) f (entry old k)));
}

pub by_none : (f : ℕ) (old : List (Option ℕ)) → IsNotedByValues f old [] [] old
by_none f old = record { size = refl; entries = λ k lt. refl }

pub by_next : (f i : ℕ) (ts : List (Option ℕ)) (vs : List (List Mention)) (t d : Option ℕ) (v e : List Mention) (old mid q : List (Option ℕ))
    → i < length ts → i < length vs → t ≡ get_or ts i d → v ≡ get_or vs i e → length mid ≡ length old
    → ((k : ℕ) → k < length old → entry mid k ≡ noted (is_some t && has kinds.Function k v) f (entry old k))
    → IsNotedByValues f mid (drop (i + 1) ts) (drop (i + 1) vs) q → IsNotedByValues f old (drop i ts) (drop i vs) q
by_next f i ts vs t d v e old mid q in_ts in_vs t_is v_is size step h =
    subst (λ (xs : List (Option ℕ)). IsNotedByValues f old xs (drop i vs) q) (sym (one_at ts i d in_ts))
    (subst (λ (ys : List (List Mention)). IsNotedByValues f old (get_or ts i d ∷ drop (i + 1) ts) ys q) (sym (one_at vs i e in_vs))
    (by_first f (get_or ts i d) (drop (i + 1) ts) (get_or vs i e) (drop (i + 1) vs) old mid q size
    (λ k lt. step k lt ∙ (ap (λ (x : Option ℕ). noted (is_some x && has kinds.Function k v) f (entry old k)) t_is
    ∙ ap (λ (y : List Mention). noted (is_some (get_or ts i d) && has kinds.Function k y) f (entry old k)) v_is)) h))

pub by_last : (f i : ℕ) (ts : List (Option ℕ)) (vs : List (List Mention)) (old : List (Option ℕ)) → length ts ≤ i → length vs ≤ i
    → IsNotedByValues f old (drop i ts) (drop i vs) old
by_last f i ts vs old past_ts past_vs =
    subst (λ (xs : List (Option ℕ)). IsNotedByValues f old xs (drop i vs) old) (sym (drop_all i ts past_ts))
    (subst (λ (ys : List (List Mention)). IsNotedByValues f old [] ys old) (sym (drop_all i vs past_vs)) (by_none f old))

-- ---- what the values say

pub record IsInValue (k : ℕ) (ts : List (Option ℕ)) (vs : List (List Mention)) : Type 0 where
  pub place : ℕ
  pub inside : place < length vs
  pub value : List Mention
  pub there : slice_get vs place ≡ Some value
  pub table : is_some (entry ts place) ≡ true
  pub mentions : has kinds.Function k value ≡ true

later : (k : ℕ) (t : Option ℕ) (ts : List (Option ℕ)) (v : List Mention) (vs : List (List Mention)) → IsInValue k ts vs → IsInValue k (t ∷ ts) (v ∷ vs)
later k t ts v vs h = record {
  place = suc h.place;
  inside = omega (arith, h.inside);
  value = h.value;
  there = h.there;
  table = h.table;
  mentions = h.mentions;
}

value_found : (k : ℕ) (ts : List (Option ℕ)) (vs : List (List Mention)) → any_value k ts vs ≡ true → IsInValue k ts vs
value_found k [] vs e = cc
value_found k (t ∷ ts) [] e = cc
value_found k (t ∷ ts) (v ∷ vs) e =
    elim (or_cases (is_some t && has kinds.Function k v) (any_value k ts vs) e) [
      | inl h ↦ (let tests = and_parts (is_some t) (has kinds.Function k v) h in
          record { place = 0; inside = omega arith; value = v; there = refl; table = tests.0; mentions = tests.1 })
      | inr h ↦ later k t ts v vs (value_found k ts vs h)
    ]

value_said : (k : ℕ) (ts : List (Option ℕ)) (vs : List (List Mention)) (g : ℕ) (v : List Mention) → is_some (entry ts g) ≡ true
    → slice_get vs g ≡ Some v → has kinds.Function k v ≡ true → any_value k ts vs ≡ true
value_said k [] vs g v t e h = cc
value_said k (t ∷ ts) [] g v is e h = let x : None ≡ Some v = e in cc
value_said k (t ∷ ts) (w ∷ vs) zero v is e h =
    let same : w ≡ v = let x : Some w ≡ Some v = e in cc in
    or_left (is_some t && has kinds.Function k w) (any_value k ts vs) (and_from (is_some t) (has kinds.Function k w) is (ap (has kinds.Function k) same ∙ h))
value_said k (t ∷ ts) (w ∷ vs) (suc g) v is e h =
    or_right (is_some t && has kinds.Function k w) (any_value k ts vs) (value_said k ts vs g v is e h)

-- ---- both

some_noted : (a b : Bool) (f : ℕ) → is_some (noted b f (noted a f None)) ≡ (a || b)
some_noted true true f = refl
some_noted true false f = refl
some_noted false true f = refl
some_noted false false f = refl

only_noted : (a : Bool) (f : ℕ) → is_some (noted a f None) ≡ a
only_noted true f = refl
only_noted false f = refl

module _ (n : Mentioned) (place count : ℕ) (names : List Mention) (listed : slice_get n.functions place ≡ Some names)
    (tables : List (Option ℕ)) (sized : length tables ≡ length n.globals)
    (tables_are : (g : ℕ) → g < length n.globals → is_some (entry tables g) ≡ has kinds.Global g names) where
  mentioned : mentions_in n (first_source_function + place) ≡ names
  mentioned = in_function n place names listed

  among : (m : Mention) → Contains names m → Contains (mentions_in n (first_source_function + place)) m
  among m h = subst (λ (l : List Mention). Contains l m) (sym mentioned) h

  to_names : (k : ℕ) → (has kinds.Function k names || any_value k tables n.globals) ≡ true → Names n (first_source_function + place) k
  to_names k e = elim (or_cases (has kinds.Function k names) (any_value k tables n.globals) e) [
    | inl h ↦ in_body (among (Function k) (has_contains kinds.Function k names h))
    | inr h ↦ (let v = value_found k tables n.globals h in
        let g = among (Global v.place) (has_contains kinds.Global v.place names (sym (tables_are v.place v.inside) ∙ v.table)) in
        let inner : Contains (mentions_in_value n v.place) (Function k) =
        subst (λ (o : Option (List Mention)). Contains (or_nothing o) (Function k)) (sym v.there) (has_contains kinds.Function k v.value v.mentions) in
        in_value {g = v.place} g inner)
  ]

  in_some : (k g : ℕ) (o : Option (List Mention)) → slice_get n.globals g ≡ o → Contains (or_nothing o) (Function k)
      → Contains names (Global g) → any_value k tables n.globals ≡ true
  in_some k g None e h m = absurd (omega (arith, h.1))
  in_some k g (Some v) e h m =
      let inside = slice_get_within n.globals g v e in
      value_said k tables n.globals g v (tables_are g inside ∙ contains_has kinds.Global g names m.0 m.1 m.2) e (contains_has kinds.Function k v h.0 h.1 h.2)

  from_names : (k : ℕ) → Names n (first_source_function + place) k → (has kinds.Function k names || any_value k tables n.globals) ≡ true
  from_names k (in_body h) =
      let m = subst (λ (l : List Mention). Contains l (Function k)) mentioned h in
      or_left (has kinds.Function k names) (any_value k tables n.globals) (contains_has kinds.Function k names m.0 m.1 m.2)
  from_names k (in_value {g} h inner) =
      or_right (has kinds.Function k names) (any_value k tables n.globals)
      (in_some k g (slice_get n.globals g) refl inner (subst (λ (l : List Mention). Contains l (Global g)) mentioned h))

  pub are_named : (f : ℕ) (first second third : List (Option ℕ)) → IsEmpty (first_source_function + count) first
      → IsNoted kinds.Function f first names second → IsNotedByValues f second tables n.globals third
      → AreNamed n (first_source_function + place) count third
  are_named f first second third empty a b =
      let size : length second ≡ first_source_function + count = a.size ∙ empty.size in
      record {
        size = b.size ∙ size;
        exact = λ k lt.
            let is : is_some (entry third k) ≡ (has kinds.Function k names || any_value k tables n.globals) =
            ap is_some (b.entries k (omega (arith, size))
            ∙ (ap (noted (any_value k tables n.globals) f) (a.entries k (omega (arith, empty.size)))
            ∙ ap (λ (o : Option ℕ). noted (any_value k tables n.globals) f (noted (has kinds.Function k names) f o)) (empty.entries k)))
            ∙ some_noted (has kinds.Function k names) (any_value k tables n.globals) f in
            (λ e. to_names k (sym is ∙ e), λ h. is ∙ from_names k h);
      }

-- the entries of the globals that are mentioned
pub tables_of : (f count : ℕ) (names : List Mention) (first second : List (Option ℕ)) → IsEmpty count first → IsNoted kinds.Global f first names second
    → (length second ≡ count) × ((g : ℕ) → g < count → is_some (entry second g) ≡ has kinds.Global g names)
tables_of f count names first second empty h = (
  h.size ∙ empty.size,
  λ g lt.
      ap is_some (h.entries g (omega (arith, empty.size)) ∙ ap (noted (has kinds.Global g names) f) (empty.entries g)) ∙ only_noted (has kinds.Global g names) f,
)
