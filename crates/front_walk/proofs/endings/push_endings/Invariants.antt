use Rattle.std.proofs.Common.{◌≡◌, ◌++◌, take}
use Rattle.std.specs.List.{filter_map}
use Rattle.action_table.specs.Table.{all_actions}
use Rattle.prefix_fronts.specs.Prefix.{finishes}
use Rattle.front_walk.specs.Nodes.{child_by}
use Rattle.front_walk.proofs.endings.push_endings.Given as goal

abbrev pub invariant-loop-action : goal.invariant-loop-action
invariant-loop-action g l =
    l.found.items ≡ l.initial.found.items ++ filter_map (child_by l.walk.g.now (finishes l.walk.g.now l.walk.target) l.place l.node) (take l.action-index all_actions)
