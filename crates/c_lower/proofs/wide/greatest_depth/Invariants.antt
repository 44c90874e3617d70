use Rattle.std.proofs.Common.{◌≡◌, drop}
use Rattle.c_types_nodes.specs.Lists.{nodes_at}
use Rattle.c_lower.specs.Depths.{capped, greatest_depth}
use Rattle.c_lower.proofs.wide.greatest_depth.Given as goal

abbrev pub invariant-loop-i : goal.invariant-loop-i
invariant-loop-i l = l.most ≡ capped (greatest_depth (nodes_at l.table (drop l.i l.ids)))
