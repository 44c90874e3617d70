-- Marks of vertices, and those vertices whose edges are still to be followed.
use Rattle.std.specs.Prelude.{◌≡◌, ◌⊎◌, ℕ, ◌+◌, Bool, true, false, List, [], ◌∷◌, length}
use Rattle.std.specs.List.{Contains}
use Rattle.cut_graph_paths.specs.Graphs.{flag}

-- how many aren't marked
abbrev pub unmarked : List Bool → ℕ
unmarked [] = 0
unmarked (true ∷ bs) = unmarked bs
unmarked (false ∷ bs) = unmarked bs + 1

-- so many marks, none of which is set
pub record IsClear (count : ℕ) (marks : List Bool) : Type 0 where
  pub size : length marks ≡ count
  pub clear : (k : ℕ) → flag marks k ≡ false

-- these vertices were marked, and are to be followed as far as they weren't marked before
pub record IsFollowed (vertices : List ℕ) (old : List Bool) (todo : List ℕ) (new : List Bool)
    (more : List ℕ) : Type 0 where
  pub size : length new ≡ length old
  pub marked : (k : ℕ) → Contains vertices k → flag new k ≡ true
  pub kept : (k : ℕ) → flag old k ≡ true → flag new k ≡ true
  pub only : (k : ℕ) → flag new k ≡ true → (flag old k ≡ true) ⊎ Contains vertices k
  pub added : (k : ℕ) → flag new k ≡ true → (flag old k ≡ true) ⊎ Contains more k
  pub listed : (k : ℕ) → Contains todo k → Contains more k
  pub among : (k : ℕ) → Contains more k → Contains todo k ⊎ (flag new k ≡ true)
  pub count : unmarked new + length more ≡ unmarked old + length todo
