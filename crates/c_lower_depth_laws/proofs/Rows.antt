-- The functions of a program in a row.
use Rattle.std.proofs.Common.{◌≡◌, ℕ, zero, suc, Bool, true, false, cond, List, [], ◌∷◌, ◌++◌, length, map, Option, Some, None, refl, sym, ap, ◌∙◌, arith}
use Rattle.std.specs.Option.{option_map, option_or}
use Rattle.std.proofs.lemmas.Slice.Eq.{bytes_eq-Decides}
use Rattle.c_scopes.specs.Scopes.{same_name}
use Rattle.c_types_model.specs.Types.{CType}
use Rattle.c_types_rules.specs.Sources.{Function, body_at, with_body}
use Rattle.c_types_rules.specs.TypedTree.{Body}
use Rattle.c_lower_depth_laws.specs.Functions.{Row, with_row}
use Rattle.c_lower_depth_laws.specs.Laws.{row_of, typed_body_depth}

pub names_equal : (a b : List ℕ) → same_name a b ≡ true → a ≡ b
names_equal a b h = (bytes_eq-Decides a b).0 h

pub name_itself : (a : List ℕ) → same_name a a ≡ true
name_itself a = (bytes_eq-Decides a a).1 refl

-- the place of the first function of a name
abbrev pub place_of : List ℕ → List Function → Option ℕ
place_of name [] = None
place_of name (f ∷ fs) = cond (same_name name f.name) (Some 0) (option_map (λ (k : ℕ). suc k) (place_of name fs))

abbrev pub bare : List ℕ → CType → Function
bare name t = record { name = name; type = t; body = None }

-- one more function
pub row_more : (fs : List Function) (name : List ℕ) (t : CType) → place_of name fs ≡ None → map row_of (fs ++ bare name t ∷ []) ≡ with_row name None (map row_of fs)
row_more [] name t h = refl
row_more (f ∷ fs) name t h = by (same_name name f.name) (place_of name fs) h (row_more fs name t)
  where
    by : (b : Bool) (o : Option ℕ) → cond b (Some 0) (option_map (λ (k : ℕ). suc k) o) ≡ None → (o ≡ None → map row_of (fs ++ bare name t ∷ []) ≡ with_row name None (map row_of fs))
        → row_of f ∷ map row_of (fs ++ bare name t ∷ []) ≡ cond b (record { name = f.name; depth = option_or (option_map typed_body_depth f.body) None } ∷ map row_of fs) (row_of f ∷ with_row name None (map row_of fs))
    by true o h k = absurd cc
    by false None h k = ap (λ rs. row_of f ∷ rs) (k refl)
    by false (Some n) h k = absurd cc

-- a function that is there
either_none : (o : Option ℕ) → option_or o None ≡ o
either_none None = refl
either_none (Some n) = refl

pub row_same : (fs : List Function) (name : List ℕ) (k : ℕ) → place_of name fs ≡ Some k → map row_of fs ≡ with_row name None (map row_of fs)
row_same [] name k h = absurd cc
row_same (f ∷ fs) name k h = by (same_name name f.name) (place_of name fs) h (row_same fs name)
  where
    by : (b : Bool) (o : Option ℕ) → cond b (Some 0) (option_map (λ (i : ℕ). suc i) o) ≡ Some k → ((i : ℕ) → o ≡ Some i → map row_of fs ≡ with_row name None (map row_of fs))
        → row_of f ∷ map row_of fs ≡ cond b (record { name = f.name; depth = option_or (option_map typed_body_depth f.body) None } ∷ map row_of fs) (row_of f ∷ with_row name None (map row_of fs))
    by true o h g = ap (λ (d : Option ℕ). let r : Row = record { name = f.name; depth = d } in r ∷ map row_of fs) (sym (either_none (option_map typed_body_depth f.body)))
    by false None h g = absurd cc
    by false (Some i) h g = ap (λ rs. row_of f ∷ rs) (g i refl)

-- a function that gets its body
some_number : (m n : ℕ) → Some m ≡ Some n → m ≡ n
some_number m n e = cc

none_first : (o : Option ℕ) → option_map (λ (i : ℕ). suc i) o ≡ Some 0 → ⊥
none_first None h = cc
none_first (Some i) h = let e = some_number (suc i) 0 h in omega (arith, e)

none_next : (k : ℕ) → Some 0 ≡ Some (suc k) → ⊥
none_next k h = let e = some_number 0 (suc k) h in omega (arith, e)

one_less : (o : Option ℕ) (k : ℕ) → option_map (λ (i : ℕ). suc i) o ≡ Some (suc k) → o ≡ Some k
one_less None k h = absurd cc
one_less (Some i) k h = let e = some_number (suc i) (suc k) h in let f : i ≡ k = omega (arith, e) in ap (λ (j : ℕ). Some j) f

pub row_given : (fs : List Function) (name : List ℕ) (k : ℕ) (b : Body) → place_of name fs ≡ Some k → body_at fs k ≡ None → map row_of (with_body fs k b) ≡ with_row name (Some (typed_body_depth b)) (map row_of fs)
row_given [] name k b h e = absurd cc
row_given (f ∷ fs) name zero b h e = by (same_name name f.name) h
  where
    by : (c : Bool) → cond c (Some 0) (option_map (λ (i : ℕ). suc i) (place_of name fs)) ≡ Some 0
        → row_of (record f { body = Some b }) ∷ map row_of fs ≡ cond c (record { name = f.name; depth = option_or (option_map typed_body_depth f.body) (Some (typed_body_depth b)) } ∷ map row_of fs) (row_of f ∷ with_row name (Some (typed_body_depth b)) (map row_of fs))
    by true h = ap (λ (d : Option ℕ). let r : Row = record { name = f.name; depth = d } in r ∷ map row_of fs) (sym (ap (λ (o : Option Body). option_or (option_map typed_body_depth o) (Some (typed_body_depth b))) e))
    by false h = absurd (none_first (place_of name fs) h)
row_given (f ∷ fs) name (suc k) b h e = by (same_name name f.name) h (λ at. row_given fs name k b at e)
  where
    by : (c : Bool) → cond c (Some 0) (option_map (λ (i : ℕ). suc i) (place_of name fs)) ≡ Some (suc k) → (place_of name fs ≡ Some k → map row_of (with_body fs k b) ≡ with_row name (Some (typed_body_depth b)) (map row_of fs))
        → row_of f ∷ map row_of (with_body fs k b) ≡ cond c (record { name = f.name; depth = option_or (option_map typed_body_depth f.body) (Some (typed_body_depth b)) } ∷ map row_of fs) (row_of f ∷ with_row name (Some (typed_body_depth b)) (map row_of fs))
    by true h g = absurd (none_next k h)
    by false h g = ap (λ rs. row_of f ∷ rs) (g (one_less (place_of name fs) k h))

-- a function that is declared and then given its body
pub row_twice : (fs : List Row) (name : List ℕ) (d : ℕ) → with_row name (Some d) (with_row name None fs) ≡ with_row name (Some d) fs
row_twice [] name d =
    let given : Row = record { name = name; depth = Some d } in
    let without : Row = record { name = name; depth = None } in
    ap (λ c. cond c (given ∷ []) (without ∷ with_row name (Some d) [])) (name_itself name)
row_twice (f ∷ fs) name d = by (same_name name f.name) refl (row_twice fs name d)
  where
    twice : (o : Option ℕ) → option_or (option_or o None) (Some d) ≡ option_or o (Some d)
    twice None = refl
    twice (Some n) = refl

    by : (c : Bool) → same_name name f.name ≡ c → with_row name (Some d) (with_row name None fs) ≡ with_row name (Some d) fs → with_row name (Some d) (cond c (record f { depth = option_or f.depth None } ∷ fs) (f ∷ with_row name None fs)) ≡ cond c (record f { depth = option_or f.depth (Some d) } ∷ fs) (f ∷ with_row name (Some d) fs)
    by true e g =
        ap (λ c. cond c (record f { depth = option_or (option_or f.depth None) (Some d) } ∷ fs) (record f { depth = option_or f.depth None } ∷ with_row name (Some d) fs)) e
        ∙ ap (λ (o : Option ℕ). record f { depth = o } ∷ fs) (twice f.depth)
    by false e g =
        ap (λ c. cond c (record f { depth = option_or f.depth (Some d) } ∷ with_row name None fs) (f ∷ with_row name (Some d) (with_row name None fs))) e
        ∙ ap (λ rs. f ∷ rs) g

-- ---- places

pub place_given : (fs : List Function) (k : ℕ) (b : Body) (name : List ℕ) → place_of name (with_body fs k b) ≡ place_of name fs
place_given [] k b name = refl
place_given (f ∷ fs) zero b name = refl
place_given (f ∷ fs) (suc k) b name = ap (λ o. cond (same_name name f.name) (Some 0) (option_map (λ (i : ℕ). suc i) o)) (place_given fs k b name)

pub place_more : (fs : List Function) (other : List ℕ) (t : CType) (name : List ℕ) → place_of name (fs ++ bare other t ∷ []) ≡ option_or (place_of name fs) (cond (same_name name other) (Some (length fs)) None)
place_more [] other t name = refl
place_more (f ∷ fs) other t name =
    ap (λ o. cond (same_name name f.name) (Some 0) (option_map (λ (i : ℕ). suc i) o)) (place_more fs other t name)
    ∙ by (same_name name f.name) (place_of name fs) (same_name name other) (length fs)
  where
    by : (c : Bool) (o : Option ℕ) (d : Bool) (n : ℕ) → cond c (Some 0) (option_map (λ (i : ℕ). suc i) (option_or o (cond d (Some n) None))) ≡ option_or (cond c (Some 0) (option_map (λ (i : ℕ). suc i) o)) (cond d (Some (suc n)) None)
    by true o d n = refl
    by false None true n = refl
    by false None false n = refl
    by false (Some i) d n = refl
