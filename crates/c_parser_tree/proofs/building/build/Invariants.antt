use Rattle.std.proofs.Common.{◌≡◌, List, [], length, reverse}
use Rattle.std.specs.Vec.Iter.{into_iter_items, into_iter_len}
use Rattle.c_parser_actions.specs.Pieces.{Piece, acted}
use Rattle.c_parser_tree.specs.Stacked.{Holding}
use Rattle.c_parser_tree.proofs.building.build.Given as goal

-- what the builder holds leads, by the actions that are left, where all lead from nothing
abbrev pub invariant-loop-action : goal.invariant-loop-action
invariant-loop-action l =
    ((P : List Piece) × Holding l.builder P × (acted (reverse (into_iter_items l.action-iterator)) P ≡ acted (reverse l.fn.actions.items) []))
    × (into_iter_len l.action-iterator ≡ length (into_iter_items l.action-iterator))
