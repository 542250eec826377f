-- The pieces so far are those of the lists so far.
use Rattle.std.proofs.Common.{◌≡◌, take, length}
use Rattle.pareto_front.specs.Pieces.{Follow, nodes_in, nodes_of}
use Rattle.pareto_front.proofs.pieces.pieces_of.Given as goal

abbrev pub invariant-loop-list : goal.invariant-loop-list
invariant-loop-list l =
    (nodes_in l.pieces.items ≡ nodes_of (take l.list-index l.lists))
    × Follow 0 l.pieces.items × (l.len ≡ length (nodes_in l.pieces.items))
