-- What holds between two vertices that are followed.
use Rattle.std.proofs.Common.{◌≡◌, ◌⊎◌, inl, inr, ◌↔◌, ℕ, zero, suc, ◌<◌, Bool, true, List, [], ◌∷◌, ◌++◌, length, get_or, refl, sym, ◌∙◌, subst, arith}
use Rattle.std.specs.List.{Contains}
use Rattle.std.proofs.lemmas.List.Elements.{Contains-push, Contains-append_left, Contains-push_cases}
use Rattle.cut_graph_paths.specs.Graphs.{IsWithin, Leads, edges_at, flag, here, on}
use Rattle.cut_graph_paths.specs.Searches.{IsClear, IsFollowed}
use Rattle.cut_graph_paths.proofs.Marks.{flag_inside}

-- marked vertices are reached, and all that their edges lead to is marked, but for those that are still to be
-- followed
pub record IsSearch (g : List (List ℕ)) (from : List ℕ) (marks : List Bool) (todo : List ℕ) : Type 0 where
  pub size : length marks ≡ length g
  pub first : (k : ℕ) → Contains from k → flag marks k ≡ true
  pub sound : (k : ℕ) → flag marks k ≡ true → Leads g from k
  pub closed : (k j : ℕ) → flag marks k ≡ true → Contains (edges_at g k) j → (flag marks j ≡ true) ⊎ Contains todo k
  pub todo_marked : (k : ℕ) → Contains todo k → flag marks k ≡ true

pub edges_are : (g : List (List ℕ)) (v : ℕ) (d : List ℕ) → v < length g → get_or g v d ≡ edges_at g v
edges_are [] v d lt = absurd (omega arith)
edges_are (es ∷ g) zero d lt = refl
edges_are (es ∷ g) (suc v) d lt = edges_are g v d (omega arith)

-- the first vertices are marked, and nothing else
pub begun : (g : List (List ℕ)) (from : List ℕ) (ms ns : List Bool) (ts : List ℕ) → IsClear (length g) ms → IsFollowed from ms [] ns ts → IsSearch g from ns ts
begun g from ms ns ts c f = record {
  size = f.size ∙ c.size;
  first = f.marked;
  sound = λ k e. elim (f.only k e) [
    | inl a ↦ absurd (cc (a, c.clear k))
    | inr h ↦ here h
  ];
  closed = λ k j e h. elim (f.added k e) [ inl a ↦ absurd (cc (a, c.clear k)) | inr b ↦ inr b ];
  todo_marked = λ k h. elim (f.among k h) [ inl a ↦ absurd (omega (arith, a.1)) | inr e ↦ e ];
}

-- one vertex that was to be followed is
pub followed : (g : List (List ℕ)) (from : List ℕ) (v : ℕ) (ms ns : List Bool) (all ts us es : List ℕ) → all ≡ ts ++ v ∷ [] → es ≡ edges_at g v → IsSearch g from ms all → IsFollowed es ms ts ns us → IsSearch g from ns us
followed g from v ms ns all ts us es was are s f = record {
  size = f.size ∙ s.size;
  first = λ k h. f.kept k (s.first k h);
  sound = λ k e. elim (f.only k e) [
    | inl a ↦ s.sound k a
    | inr h ↦ on (s.sound v (s.todo_marked v last)) (subst (λ (xs : List ℕ). Contains xs k) are h)
  ];
  closed = λ k j e h. elim (f.added k e) [
    | inl a ↦ elim (s.closed k j a h) [
      | inl b ↦ inl (f.kept j b)
      | inr b ↦ elim (Contains-push_cases ts v k (subst (λ (xs : List ℕ). Contains xs k) was b)) [
        | inl d ↦ inr (f.listed k d)
        | inr d ↦ inl (f.marked j (subst (λ (xs : List ℕ). Contains xs j) (sym are) (subst (λ (n : ℕ). Contains (edges_at g n) j) (sym d) h)))
      ]
    ]
    | inr b ↦ inr b
  ];
  todo_marked = λ k h. elim (f.among k h) [
    | inl a ↦ f.kept k (s.todo_marked k (subst (λ (xs : List ℕ). Contains xs k) (sym was) (Contains-append_left ts (v ∷ []) k a)))
    | inr e ↦ e
  ];
}
  where
    last : Contains all v
    last = subst (λ (xs : List ℕ). Contains xs v) (sym was) (Contains-push ts v)

-- nothing is left to be followed
pub ended : (g : List (List ℕ)) (from : List ℕ) (ms : List Bool) → IsSearch g from ms [] → (k : ℕ) → Leads g from k → flag ms k ≡ true
ended g from ms s k (here h) = s.first k h
ended g from ms s k (on {a} {b} l h) = elim (s.closed a b (ended g from ms s a l) h) [ inl e ↦ e | inr x ↦ absurd (omega (arith, x.1)) ]

-- ---- as the search has them

pub row_within : (g : List (List ℕ)) (v k : ℕ) (row es : List ℕ) → v < length g → row ≡ get_or g v row → es ≡ row → IsWithin g → Contains es k → k < length g
row_within g v k row es lt is same within h = within v k (subst (λ (xs : List ℕ). Contains xs k) (same ∙ (is ∙ edges_are g v row lt)) h)

pub row_followed : (g : List (List ℕ)) (v : ℕ) (row es : List ℕ) {ms ns : List Bool} {ts us : List ℕ} → v < length g → row ≡ get_or g v row → es ≡ row → IsFollowed es ms ts ns us →
    IsFollowed (edges_at g v) ms ts ns us
row_followed g v row es {ms} {ns} {ts} {us} lt is same f = subst (λ (xs : List ℕ). IsFollowed xs ms ts ns us) (same ∙ (is ∙ edges_are g v row lt)) f

pub begun_at : {g : List (List ℕ)} {from : List ℕ} {ms ns : List Bool} {before ts : List ℕ} {n : ℕ} → n ≡ length g → before ≡ [] → IsClear n ms → IsFollowed from ms before ns ts → IsSearch g from ns ts
begun_at {g} {from} {ms} {ns} {before} {ts} {n} long empty c f =
    begun g from ms ns ts (subst (λ (k : ℕ). IsClear k ms) long c) (subst (λ (xs : List ℕ). IsFollowed from ms xs ns ts) empty f)

pub vertex_inside : {g : List (List ℕ)} {from : List ℕ} {ms : List Bool} {all : List ℕ} (ts : List ℕ) (v : ℕ) → all ≡ ts ++ v ∷ [] → IsSearch g from ms all → v < length g
vertex_inside {g} {from} {ms} {all} ts v was s =
    let e : flag ms v ≡ true = s.todo_marked v (subst (λ (xs : List ℕ). Contains xs v) (sym was) (Contains-push ts v)) in
    let lt : v < length ms = flag_inside ms v e in omega (arith, s.size)

pub followed_at : {g : List (List ℕ)} {from : List ℕ} {ms ns : List Bool} {all us : List ℕ} (ts : List ℕ) (v : ℕ) → all ≡ ts ++ v ∷ [] → IsSearch g from ms all → IsFollowed (edges_at g v) ms ts ns us → IsSearch g from ns us
followed_at {g} {from} {ms} {ns} {all} {us} ts v was s f = followed g from v ms ns all ts us (edges_at g v) was refl s f

pub ended_at : (g : List (List ℕ)) (from : List ℕ) (ms : List Bool) (todo : List ℕ) → todo ≡ [] → IsSearch g from ms todo → (k : ℕ) → (flag ms k ≡ true) ↔ Leads g from k
ended_at g from ms todo empty s k = (s.sound k, ended g from ms (subst (λ (xs : List ℕ). IsSearch g from ms xs) empty s) k)
