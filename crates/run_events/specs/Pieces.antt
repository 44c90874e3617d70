-- The runs that a list stands for, by how they lie in memory.
use Rattle.std.specs.Prelude.{ℕ, List, [], ◌∷◌}
use Rattle.run_events.specs.declared.pieces.PackedPieces.{PackedPieces}
use Rattle.run_events.specs.declared.pieces.PackedPieces.TheVariants.{Empty, One, More}

abbrev pub pieces_of : PackedPieces → List (List ℕ)
pieces_of Empty = []
pieces_of (One only) = only.value ∷ []
pieces_of (More many) = many.value.items
