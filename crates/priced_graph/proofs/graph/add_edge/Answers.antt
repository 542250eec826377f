use Rattle.priced_graph.proofs.Built.{edge-pushed}
use Rattle.priced_graph.proofs.graph.add_edge.Goals as goal

pub returns-in_ok-add : goal.returns-in_ok-add
returns-in_ok-add c =
    edge-pushed c.args.sights.now c.args.graph.now c.add.new.self c.args.from c.args.edge.now c.between_nodes-between.result c.between_nodes-between.ensures.value c.requires.from c.add.ensures.nodes c.add.ensures.first c.in_ok-add.ensures.ok
