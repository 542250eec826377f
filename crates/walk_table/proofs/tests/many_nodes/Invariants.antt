use Rattle.std.proofs.Common.{◌≡◌}
use Rattle.walk_table.proofs.tests.many_nodes.Given as goal

abbrev pub invariant-loop-node : goal.invariant-loop-node
invariant-loop-node l = l.graph.nodes ≡ 70
