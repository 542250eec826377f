-- The nodes so far stand in the same order.
use Rattle.std.proofs.Common.{◌≡◌, take}
use Rattle.pareto_front.proofs.unpack_all.Given as goal

abbrev pub invariant-loop-node : goal.invariant-loop-node
invariant-loop-node l = l.level.items ≡ take l.node-index l.packed
