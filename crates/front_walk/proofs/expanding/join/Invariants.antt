-- The nodes of the lists so far.
use Rattle.std.proofs.Common.{◌≡◌, take}
use Rattle.pareto_front.specs.Pieces.{nodes_of}
use Rattle.front_walk.proofs.expanding.join.Given as goal

abbrev pub invariant-loop-list : goal.invariant-loop-list
invariant-loop-list l = l.nodes.items ≡ nodes_of (take l.list-index l.lists)
