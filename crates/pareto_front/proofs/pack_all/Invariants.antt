-- The nodes so far stand in the same order.
use Rattle.std.proofs.Common.{◌≡◌, take}
use Rattle.pareto_front.proofs.pack_all.Given as goal

abbrev pub invariant-loop-node : goal.invariant-loop-node
invariant-loop-node l = l.packed.items ≡ take l.node-index l.level
