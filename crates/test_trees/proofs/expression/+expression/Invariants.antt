use Rattle.std.proofs.Common.{◌+◌, ◌*◌}
use Rattle.test_trees.proofs.expression.+expression.Given as goal

-- a call below a node goes one down; calls at one depth go from the greatest to the least
abbrev pub decreases-show_expr : goal.decreases-show_expr
decreases-show_expr l = 8 * l.depth

abbrev pub decreases-show_exprs : goal.decreases-show_exprs
decreases-show_exprs l = 8 * l.depth + 1

abbrev pub decreases-show_group : goal.decreases-show_group
decreases-show_group l = 8 * l.depth + 2

abbrev pub decreases-show_then : goal.decreases-show_then
decreases-show_then l = 8 * l.depth + 1

abbrev pub decreases-show_typed : goal.decreases-show_typed
decreases-show_typed l = 8 * l.depth + 2

abbrev pub decreases-show_declarator : goal.decreases-show_declarator
decreases-show_declarator l = 8 * l.depth

abbrev pub decreases-show_declarators : goal.decreases-show_declarators
decreases-show_declarators l = 8 * l.depth + 1

abbrev pub decreases-show_part : goal.decreases-show_part
decreases-show_part l = 8 * l.depth + 3

abbrev pub decreases-show_parts : goal.decreases-show_parts
decreases-show_parts l = 8 * l.depth + 4

abbrev pub decreases-show_atom : goal.decreases-show_atom
decreases-show_atom l = 8 * l.depth + 3

abbrev pub decreases-show_item : goal.decreases-show_item
decreases-show_item l = 8 * l.depth + 4

abbrev pub decreases-show_items : goal.decreases-show_items
decreases-show_items l = 8 * l.depth + 5

abbrev pub decreases-show_annots : goal.decreases-show_annots
decreases-show_annots l = 8 * l.depth + 6
