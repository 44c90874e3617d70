use Rattle.std.proofs.Common.{◌+◌, List, Option, drop}
use Rattle.c_types_program.specs.Statements.{statement_in, statements_in}
use Rattle.cut_graph_rules.specs.declared.mention.Mention.{Mention}
use Rattle.cut_graph_rules.specs.Mentions.{statements_mentions}
use Rattle.cut_graph_mentions.specs.Growing.{IsAdded}
use Rattle.cut_graph_mentions.proofs.Weights.{statement_weight, statements_weight}
use Rattle.cut_graph_mentions.proofs.statements.+statements.Given as goal

-- what is left makes the whole
abbrev pub invariant-statements-loop-i : goal.invariant-statements-loop-i
invariant-statements-loop-i l =
    (q : Option (List Mention)) →
    IsAdded l.found (statements_mentions (statements_in l.table (drop l.i l.statements))) q →
    IsAdded l.fn.found (statements_mentions (statements_in l.table l.statements)) q

abbrev pub decreases-statement : goal.decreases-statement
decreases-statement l = statement_weight (statement_in l.table.now l.statement.now)

abbrev pub decreases-statements : goal.decreases-statements
decreases-statements l = statements_weight (statements_in l.table.now l.statements.now)

abbrev pub decreases-guarded : goal.decreases-guarded
decreases-guarded l = 1 + statement_weight (statement_in l.table.now l.body.now)

abbrev pub decreases-chosen : goal.decreases-chosen
decreases-chosen l = 1 + (statement_weight (statement_in l.table.now l.then.now) + statement_weight (statement_in l.table.now l.other.now))

abbrev pub decreases-tested : goal.decreases-tested
decreases-tested l = 1 + statement_weight (statement_in l.table.now l.body.now)

abbrev pub decreases-repeated : goal.decreases-repeated
decreases-repeated l = 1 + (statements_weight (statements_in l.table.now l.first.now) + statement_weight (statement_in l.table.now l.body.now))
