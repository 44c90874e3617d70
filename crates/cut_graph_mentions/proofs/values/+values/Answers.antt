use Rattle.std.proofs.Common.{◌≡◌, ◌+◌, ◌<◌, rules, ap, arith}
use Rattle.c_types_nodes.specs.Parts.{typed_in}
use Rattle.c_types_nodes.specs.Tables.{made_in, node_at}
use Rattle.cut_graph_mentions.proofs.Growing.{two}
use Rattle.cut_graph_mentions.proofs.Nodes.{as_callee, as_object, as_value, at_node, placed}
use Rattle.cut_graph_mentions.proofs.Weights.{weight}
use Rattle.cut_graph_mentions.proofs.values.+values.Goals as goal

pub node-parts-requires : goal.node-parts-requires
node-parts-requires t c =
    let table = c.args.table.now in
    let means : node_at table c.args.id ≡ made_in table c.get.result.now = ap typed_in c.get.ensures.meaning in
    let smaller : weight (made_in table c.get.result.now) < 1 + weight (node_at table c.args.id) = omega (arith, ap weight means) in
    search rules

pub node-returns : goal.node-returns
node-returns t c =
    at_node c.args.table.now c.args.id (made_in c.args.table.now c.get.result.now) c.args.here c.args.counts c.get.ensures.meaning c.parts.ensures

pub value-returns : goal.value-returns
value-returns t c = as_value c.args.table.now c.args.id c.args.here c.args.counts c.requires c.node.ensures

pub object-returns : goal.object-returns
object-returns t c = as_object c.args.table.now c.args.id c.args.counts c.requires c.node.ensures

pub callee-returns : goal.callee-returns
callee-returns t c = as_callee c.args.table.now c.args.id c.args.counts c.requires c.node.ensures

pub pair-returns : goal.pair-returns
pair-returns t c = two c.value.ensures c.value-2.ensures

pub element-returns : goal.element-returns
element-returns t c = two c.value.ensures c.value-2.ensures

pub address-returns : goal.address-returns
address-returns t c = two (placed _ _ c.address_writes.ensures c.put_written.ensures) c.object.ensures

pub choice-returns : goal.choice-returns
choice-returns t c = two c.value.ensures c.pair.ensures

pub changed-returns : goal.changed-returns
changed-returns t c = two (placed _ _ c.origin.ensures c.put_written.ensures) c.object.ensures

pub assigned-returns : goal.assigned-returns
assigned-returns t c = two c.changed.ensures c.value.ensures

pub call-returns : goal.call-returns
call-returns t c = two c.callee.ensures c.values.ensures
