use Rattle.std.proofs.Common.{rules, ℕ, ◌≡◌, ◌<◌, length, slice_index_or, subst}
use Rattle.priced_graph.specs.Building.{IsAdded}
use Rattle.priced_graph.proofs.Built.{node-more}
use Rattle.priced_graph.proofs.graph.add_node.Goals as goal

pub loop-i-preserved : goal.loop-i-preserved
loop-i-preserved c =
    let below : c.loop-i.i < length c.args.edges.now = search rules in
    let here : slice_index_or c.args.edges.now c.loop-i.i c.index-edges-i.result ≡ c.index-edges-i.result = search rules in
    node-more c.args.sights.now c.args.graph.now c.loop-i.graph c.add_edge.new.graph c.args.edges.now c.loop-i.i c.index-edges-i.result (below, here) c.loop-i.invariant
    (subst (λ (n : ℕ). IsAdded c.args.sights.now c.loop-i.graph c.add_edge.new.graph n c.index-edges-i.result) c.len-from.ensures c.in_ok-add_edge.ensures)
