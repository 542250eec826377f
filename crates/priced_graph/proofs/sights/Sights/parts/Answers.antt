use Rattle.std.proofs.Common.{subst, arith}
use Rattle.priced_graph.specs.Sights.{AreSights}
use Rattle.priced_graph.proofs.Digits.{node_count_small}
use Rattle.priced_graph.proofs.sights.Sights.parts.Goals as goal

pub overflow_cast-number : goal.overflow_cast-number
overflow_cast-number c = omega (arith, node_count_small c.args.self.now (subst AreSights c.self.view_is c.self.invariant), c.requires)
