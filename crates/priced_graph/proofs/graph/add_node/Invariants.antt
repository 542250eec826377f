use Rattle.priced_graph.specs.Building.{IsNodeAdded}
use Rattle.priced_graph.proofs.graph.add_node.Given as goal

abbrev pub invariant-loop-i : goal.invariant-loop-i
invariant-loop-i l = IsNodeAdded l.sights l.fn.graph l.graph l.edges l.i
