-- One of several values.
use Rattle.std.proofs.Common.{ℕ, zero, suc, ◌+◌, ◌<◌, List, [], ◌∷◌, length, slice_index_or, arith}
use Rattle.c_types_nodes.specs.declared.ids.NodeId.{NodeId}
use Rattle.c_types_nodes.specs.Parts.{values}
use Rattle.c_types_nodes.specs.Tables.{Table, typed_of, value_at}
use Rattle.c_lower_bodies.proofs.Weights.{value_weight, values_weight}

-- one value has fewer parts than all
pub lighter : (t : Table) (ids : List NodeId) (i : ℕ) (d : NodeId) → i < length ids → 1 + value_weight (value_at t (slice_index_or ids i d)) < values_weight (values (typed_of t) ids)
lighter t [] i d lt = absurd (omega arith)
lighter t (id ∷ ids) zero d lt = omega arith
lighter t (id ∷ ids) (suc i) d lt = let h = lighter t ids i d (omega arith) in omega arith
