use Rattle.std.proofs.Common.{◌≡◌, ◌++◌, take}
use Rattle.std.specs.List.{filter_map}
use Rattle.action_table.specs.Table.{all_actions}
use Rattle.front_walk.specs.Nodes.{child_by, goes_and_passes}
use Rattle.front_walk.proofs.children.push_children.Given as goal

abbrev pub invariant-loop-action : goal.invariant-loop-action
invariant-loop-action g l =
    let w = l.stage.walk.now in
    record {
      asker : g.T.StateTest.may_ask w.test.now l.asker;
      still : g.T.StateTest.still_asks l.fn.asker l.asker;
      found : l.found.items
          ≡ l.initial.found.items ++ filter_map (child_by w.g.now (goes_and_passes w.g.now (g.T.StateTest.passes w.test.now) l.stage.left) l.place l.node) (take l.action-index all_actions);
    }
