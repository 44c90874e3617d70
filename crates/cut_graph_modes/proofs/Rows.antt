-- Edges of rows that are put one after another.
use Rattle.std.proofs.Common.{◌≡◌, inl, inr, ℕ, zero, suc, ◌+◌, ◌<◌, List, [], ◌∷◌, ◌++◌, length, map, refl, sym, ap, ◌∙◌, subst, append_assoc, arith}
use Rattle.std.specs.Prelude.{replicate, slice_get}
use Rattle.std.specs.List.{Contains, flat_map}
use Rattle.std.proofs.lemmas.List.Elements.{Contains-append_cases, Contains-append_left, Contains-append_right, Contains-push, Contains-push_cases}
use Rattle.cut_graph_rules.specs.declared.mention.Mention.{Mention}
use Rattle.cut_graph_rules.specs.MayRun.{or_nothing}
use Rattle.cut_graph_paths.specs.Graphs.{edges_at}

pub edges_left : (xs ys : List (List ℕ)) (v : ℕ) → v < length xs → edges_at (xs ++ ys) v ≡ edges_at xs v
edges_left [] ys v lt = absurd (omega arith)
edges_left (x ∷ xs) ys zero lt = refl
edges_left (x ∷ xs) ys (suc v) lt = edges_left xs ys v (omega arith)

pub edges_right : (xs ys : List (List ℕ)) (v w : ℕ) → v ≡ length xs + w → edges_at (xs ++ ys) v ≡ edges_at ys w
edges_right [] ys v w e = let same : v ≡ w = omega arith in ap (edges_at ys) same
edges_right (x ∷ xs) ys zero w e = absurd (omega arith)
edges_right (x ∷ xs) ys (suc v) w e = edges_right xs ys v w (omega arith)

pub no_edges : (n v : ℕ) → edges_at (replicate n []) v ≡ []
no_edges zero v = refl
no_edges (suc n) zero = refl
no_edges (suc n) (suc v) = no_edges n v

pub edges_mapped : (to : Mention → List ℕ) (xs : List (List Mention)) (v : ℕ) → edges_at (map (flat_map to) xs) v ≡ flat_map to (or_nothing (slice_get xs v))
edges_mapped to [] v = refl
edges_mapped to (x ∷ xs) zero = refl
edges_mapped to (x ∷ xs) (suc v) = edges_mapped to xs v

-- what is mentioned in a list is mentioned at a place in it
pub among_lists : (xs : List (List Mention)) (v : ℕ) (m : Mention) → Contains (or_nothing (slice_get xs v)) m → v < length xs
among_lists [] v m h = absurd (omega (arith, h.1))
among_lists (x ∷ xs) zero m h = omega arith
among_lists (x ∷ xs) (suc v) m h = let lt = among_lists xs v m h in omega arith

-- ---- where a list of mentions leads

pub leads_there : (to : Mention → List ℕ) (ms : List Mention) (m : Mention) (v : ℕ) → Contains ms m → Contains (to m) v → Contains (flat_map to ms) v
leads_there to [] m v h k = absurd (omega (arith, h.1))
leads_there to (x ∷ ms) m v h k = elim (Contains-append_cases (x ∷ []) ms m h) [
  | inl a ↦ elim (Contains-push_cases [] x m a) [
    | inl b ↦ absurd (omega (arith, b.1))
    | inr e ↦ Contains-append_left (to x) (flat_map to ms) v (subst (λ (y : Mention). Contains (to y) v) (sym e) k)
  ]
  | inr b ↦ Contains-append_right (to x) (flat_map to ms) v (leads_there to ms m v b k)
]

-- the mention that leads there
pub record Lead (to : Mention → List ℕ) (ms : List Mention) (v : ℕ) : Type 0 where
  pub mention : Mention
  pub among : Contains ms mention
  pub leads : Contains (to mention) v

pub lead : (to : Mention → List ℕ) (ms : List Mention) (v : ℕ) → Contains (flat_map to ms) v → Lead to ms v
lead to [] v h = absurd (omega (arith, h.1))
lead to (x ∷ ms) v h = elim (Contains-append_cases (to x) (flat_map to ms) v h) [
  | inl a ↦ record { mention = x; among = Contains-append_left (x ∷ []) ms x (Contains-push [] x); leads = a }
  | inr b ↦ let o : Lead to ms v = lead to ms v b in record { mention = o.mention; among = Contains-append_right (x ∷ []) ms o.mention o.among; leads = o.leads }
]

-- ---- edges that lead to vertices below a number

abbrev pub AllBelow : (m : ℕ) → List (List ℕ) → Type 0
AllBelow m g = (a b : ℕ) → Contains (edges_at g a) b → b < m

pub below_append : (m : ℕ) (xs ys : List (List ℕ)) → AllBelow m xs → AllBelow m ys → AllBelow m (xs ++ ys)
below_append m [] ys h k a b c = k a b c
below_append m (x ∷ xs) ys h k zero b c = h zero b c
below_append m (x ∷ xs) ys h k (suc a) b c = below_append m xs ys (λ i. h (suc i)) k a b c

pub below_none : (m n : ℕ) → AllBelow m (replicate n [])
below_none m n a b c = let none : Contains [] b = subst (λ (xs : List ℕ). Contains xs b) (no_edges n a) c in absurd (omega (arith, none.1))

pub below_rows : (m : ℕ) (to : Mention → List ℕ) (lists : List (List Mention)) → ((x : Mention) (b : ℕ) → Contains (to x) b → b < m) → AllBelow m (map (flat_map to) lists)
below_rows m to lists h a b c =
    let ms = or_nothing (slice_get lists a) in
    let o : Lead to ms b = lead to ms b (subst (λ (xs : List ℕ). Contains xs b) (edges_mapped to lists a) c) in
    h o.mention b o.leads

-- ---- rows that are added in three steps

pub three : {A : Type 0} (old x y z : List A) {a b c : List A} → a ≡ old ++ x → b ≡ a ++ y → c ≡ b ++ z → c ≡ old ++ (x ++ (y ++ z))
three old x y z {a} {b} {c} e f g =
    g ∙ (ap (λ u. u ++ z) (f ∙ ap (λ u. u ++ y) e) ∙ (append_assoc (old ++ x) y z ∙ append_assoc old x (y ++ z)))
