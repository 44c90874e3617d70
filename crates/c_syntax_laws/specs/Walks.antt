-- What holds of the nodes of a tree that stand for parts of a source.
use Rattle.std.specs.Prelude.{◌<◌}
use Rattle.c_syntax.specs.Nodes.{Nodes}
use Rattle.c_syntax_laws.specs.Heights.{greatest}
use Rattle.c_syntax_laws.specs.declared.node.Node.{Node}
use Rattle.c_syntax_laws.specs.Named.{named_by, height_in}

-- all nodes that a node names are lower than it
abbrev pub Falls : Nodes → Node → Type 0
Falls N v = greatest (height_in N) (named_by N v) < height_in N v
