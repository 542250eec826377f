-- The first list, and those of the walkers so far, each of whom found one.
use Rattle.std.proofs.Common.{◌≡◌, ◌++◌, IsOk, take}
use Rattle.std.specs.List.{All, flat_map}
use Rattle.pareto_front.specs.Pieces.{nodes_of}
use Rattle.front_walk.specs.Asking.{nodes_in}
use Rattle.front_walk.proofs.expanding.lists_of.Given as goal

abbrev pub invariant-loop-walker : goal.invariant-loop-walker
invariant-loop-walker g l = record {
  nodes : nodes_of l.lists.items ≡ l.first ++ flat_map (λ w. nodes_in w.found) (take l.walker-index l.walkers);
  whole : All (λ w. IsOk w.found) (take l.walker-index l.walkers);
}
