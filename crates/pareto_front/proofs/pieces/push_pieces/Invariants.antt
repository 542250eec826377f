-- The pieces so far follow each other, and the rest is still to come.
use Rattle.std.proofs.Common.{◌≡◌, ◌++◌, ◌+◌, length}
use Rattle.pareto_front.specs.Pieces.{Follow, nodes_in}
use Rattle.pareto_front.proofs.pieces.push_pieces.Given as goal

abbrev pub invariant-loop-rest : goal.invariant-loop-rest
invariant-loop-rest l =
    (nodes_in l.pieces.items ++ l.rest ≡ nodes_in l.initial.pieces.items ++ l.list)
    × Follow 0 l.pieces.items × (l.place ≡ length (nodes_in l.pieces.items)) × (l.place + length l.rest ≡ l.end)

abbrev pub decreases-loop-rest : goal.decreases-loop-rest
decreases-loop-rest l = length l.rest
