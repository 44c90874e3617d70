-- Directed graphs, as lists of the vertices that the edges of each vertex lead to.
use Rattle.std.specs.Prelude.{ℕ, zero, suc, ◌<◌, Bool, false, List, [], ◌∷◌, length}
use Rattle.std.specs.List.{Contains}

-- where the edges of a vertex lead; those of no vertex lead nowhere
abbrev pub edges_at : List (List ℕ) → ℕ → List ℕ
edges_at [] v = []
edges_at (es ∷ g) zero = es
edges_at (es ∷ g) (suc v) = edges_at g v

-- all edges lead to vertices
abbrev pub IsWithin : List (List ℕ) → Type 0
IsWithin g = (a b : ℕ) → Contains (edges_at g a) b → b < length g

-- a path leads from one of some vertices to another
pub data Leads (g : List (List ℕ)) (from : List ℕ) : ℕ → Type 0 where
  here : {a : ℕ} → Contains from a → Leads g from a
  on : {a b : ℕ} → Leads g from a → Contains (edges_at g a) b → Leads g from b

-- whether a number is flagged; none is past the end
abbrev pub flag : List Bool → ℕ → Bool
flag [] k = false
flag (b ∷ bs) zero = b
flag (b ∷ bs) (suc k) = flag bs k
