use Rattle.std.proofs.Common.{◌≡◌}
use Rattle.priced_moves.specs.Edges.{edges_of}
use Rattle.priced_graph.specs.Building.{IsBuilt}
use Rattle.priced_graph.specs.Sights.{sights_of, node_count, seen_at}
use Rattle.priced_graph.proofs.graph.graph_of.Given as goal

abbrev pub invariant-loop-node : goal.invariant-loop-node
invariant-loop-node l = record {
  nodes : l.graph.nodes ≡ node_count (sights_of l.g);
  built : IsBuilt (sights_of l.g) l.graph (λ node. edges_of l.p l.g l.units (seen_at (sights_of l.g) node)) l.node;
}
