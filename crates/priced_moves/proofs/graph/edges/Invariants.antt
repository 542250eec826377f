use Rattle.std.proofs.Common.{◌≡◌, take}
use Rattle.std.specs.List.{flat_map}
use Rattle.action_table.specs.Table.{all_actions}
use Rattle.priced_moves.specs.Edges.{edges_at}
use Rattle.priced_moves.proofs.graph.edges.Given as goal

abbrev pub invariant-loop-action : goal.invariant-loop-action
invariant-loop-action l = l.edges.items ≡ flat_map (edges_at 2 l.terms.prices l.terms.settings l.terms.units l.x) (take l.action-index all_actions)
