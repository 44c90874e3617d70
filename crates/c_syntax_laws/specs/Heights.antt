-- Heights of nodes, where each node names others.
use Rattle.std.specs.Prelude.{ℕ, zero, suc, max, List, [], ◌∷◌}

module _ {V : Type 0} where
  -- the greatest of these
  abbrev pub greatest : (V → ℕ) → List V → ℕ
  greatest f [] = 0
  greatest f (v ∷ vs) = max (f v) (greatest f vs)

  -- how many nodes, each named by the one before, begin with this one, but no more than so many
  unfoldable pub height : (V → List V) → ℕ → V → ℕ
  height named zero v = 0
  height named (suc k) v = suc (greatest (height named k) (named v))

  mutual
    -- each way from a node to one that it names ends
    pub data Ends (named : V → List V) : V → Type 0 where
      ends : {v : V} → AllEnd named (named v) → Ends named v

    pub data AllEnd (named : V → List V) : List V → Type 0 where
      none_end : AllEnd named []
      more_end : {v : V} {vs : List V} → Ends named v → AllEnd named vs → AllEnd named (v ∷ vs)
