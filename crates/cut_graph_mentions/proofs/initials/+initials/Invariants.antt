use Rattle.std.proofs.Common.{List, Option, drop}
use Rattle.c_types_program.specs.Declarations.{initial_in, initials_in}
use Rattle.cut_graph_rules.specs.declared.mention.Mention.{Mention}
use Rattle.cut_graph_rules.specs.Sources.{initials_mentions}
use Rattle.cut_graph_mentions.specs.Growing.{IsAdded}
use Rattle.cut_graph_mentions.proofs.Weights.{initial_weight, initials_weight}
use Rattle.cut_graph_mentions.proofs.initials.+initials.Given as goal

-- what is left makes the whole
abbrev pub invariant-initials-loop-i : goal.invariant-initials-loop-i
invariant-initials-loop-i l =
    (q : Option (List Mention)) →
    IsAdded l.found (initials_mentions (initials_in (drop l.i l.values))) q →
    IsAdded l.fn.found (initials_mentions (initials_in l.values)) q

abbrev pub decreases-initial : goal.decreases-initial
decreases-initial l = initial_weight (initial_in l.value.now)

abbrev pub decreases-initials : goal.decreases-initials
decreases-initials l = initials_weight (initials_in l.values.now)
