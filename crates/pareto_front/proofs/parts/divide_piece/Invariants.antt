-- The nodes so far are in the parts of their keys.
use Rattle.std.proofs.Common.{◌≡◌, ◌+◌, List, length}
use Rattle.pareto_front.specs.declared.node.Node.{Node}
use Rattle.pareto_front.specs.Lists.{items_of}
use Rattle.pareto_front.specs.Parts.{AreParts}
use Rattle.pareto_front.specs.Pieces.{Stands}
use Rattle.pareto_front.proofs.parts.divide_piece.Given as goal

abbrev pub invariant-loop-k : goal.invariant-loop-k
invariant-loop-k l =
    (length l.parts.items ≡ l.count)
    × ((level : List Node) → Stands level l.piece → AreParts level l.piece.start (l.piece.start + l.k) (items_of l.parts.items))
