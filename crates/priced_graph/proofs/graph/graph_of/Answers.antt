use Rattle.std.proofs.Common.{◌∙◌}
use Rattle.priced_graph.proofs.Built.{node-built, node-leads}
use Rattle.priced_graph.proofs.graph.graph_of.Goals as goal

pub add_node-requires-clause-lead : goal.add_node-requires-clause-lead
add_node-requires-clause-lead c =
    node-leads c.args.p.now c.args.g.now c.args.units.now c.of-sights.result c.seen.result c.as_slice.result.now c.requires.fair c.of-sights.ensures c.seen.ensures.sight
    (c.as_slice.ensures.value ∙ c.in_ok-listed.ensures)

pub loop-node-preserved : goal.loop-node-preserved
loop-node-preserved c = record {
  nodes = c.in_ok-add_node.ensures.on.nodes ∙ c.loop-node.invariant.nodes;
  built =
      node-built c.args.p.now c.args.g.now c.args.units.now c.of-sights.result c.seen.result c.as_slice.result.now c.loop-node.graph c.add_node.new.graph c.loop-node.node c.of-sights.ensures c.seen.ensures.value
      (c.as_slice.ensures.value ∙ c.in_ok-listed.ensures) c.loop-node.invariant.built c.in_ok-add_node.ensures;
}
