use Rattle.std.proofs.Common.{rules, ◌≡◌, ◌∙◌, sym, ◌++◌, [], ◌∷◌}
use Rattle.action_table.specs.Table.{all_actions}
use Rattle.prefix_fronts.specs.Prefix.{finishes}
use Rattle.front_walk.specs.Nodes.{child_by}
use Rattle.front_walk.proofs.Collected.{collect_some, collect_none}
use Rattle.front_walk.proofs.endings.push_endings.Goals.{in-Some+in_ok-push, in_default}
use Rattle.front_walk.proofs.endings.push_endings.Goals as goal

pub loop-action-preserved : goal.loop-action-preserved
loop-action-preserved g c =
    let h = child_by c.args.walk.now.g.now (finishes c.args.walk.now.g.now c.args.walk.now.target) c.args.place c.args.node.now in
    elim c.match-ending.branch [
      | in-Some+in_ok-push w ↦
          let pushed : c.match-ending.found.items ≡ c.loop-action.found.items ++ w.in-Some.next ∷ [] = search rules in
          collect_some h all_actions c.loop-action.action-index _ w.in-Some.next _ _ _ c.loop-action-test.true c.loop-action.invariant (sym c.ending.ensures ∙ w.in-Some.is) pushed
      | in_default w ↦ rw w.found-is (collect_none h all_actions c.loop-action.action-index _ _ _ c.loop-action-test.true c.loop-action.invariant (sym c.ending.ensures ∙ w.in_default.is))
    ]
