use Rattle.std.proofs.Common.{◌+◌, ◌*◌, drop}
use Rattle.c_types_rules.specs.Checked.{Checked}
use Rattle.annot_reader_words.specs.Sayings.{AllSay}
use Rattle.c_syntax_laws.specs.Named.{height_in}
use Rattle.annot_reader_words.proofs.Heights.{heights_of}
use Rattle.annot_reader_words.proofs.Walking.{Decide}
use Rattle.annot_reader_words.proofs.walk.+walk.Given as goal

-- calls go to lower nodes, and from several nodes to one
abbrev pub decreases-bare_node : goal.decreases-bare_node
decreases-bare_node l = 2 * height_in l.tree.now l.node

abbrev pub decreases-bare_nodes : goal.decreases-bare_nodes
decreases-bare_nodes l = 2 * heights_of l.tree.now l.nodes.now + 1

-- what is left to be looked at decides
abbrev pub invariant-bare_nodes-loop-node : goal.invariant-bare_nodes-loop-node
invariant-bare_nodes-loop-node l = (c : Checked (Unit {0})) → AllSay l.tree l.nodes c → Decide l.tree (drop l.node-index l.nodes) c
