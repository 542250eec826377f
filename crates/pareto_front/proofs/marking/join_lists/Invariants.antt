-- The lists so far.
use Rattle.std.proofs.Common.{◌≡◌, take}
use Rattle.std.specs.List.{flat_map}
use Rattle.pareto_front.proofs.marking.join_lists.Given as goal

abbrev pub invariant-loop-list : goal.invariant-loop-list
invariant-loop-list l = l.nodes.items ≡ flat_map (λ list. list.items) (take l.list-index l.lists)
