use Rattle.std.proofs.Common.{rules, ◌≡◌, ◌∙◌, sym, ◌++◌, [], ◌∷◌}
use Rattle.action_table.specs.Table.{all_actions}
use Rattle.front_walk.specs.Nodes.{child_by, goes_and_passes}
use Rattle.front_walk.proofs.Collected.{collect_some, collect_none, child-some, child-none}
use Rattle.front_walk.proofs.children.push_children.Goals.{in-Some+in_ok-push, in_default}
use Rattle.front_walk.proofs.children.push_children.Goals as goal

pub loop-action-preserved : goal.loop-action-preserved
loop-action-preserved g c =
    let laws = g.met.T.StateTest g.world.𝓛 g.world.𝓜 g.world.𝓡 ((λ s x. x), (λ x. x), (λ x. x), λ x. x) in
    let w = c.args.stage.now.walk.now in
    let test = goes_and_passes w.g.now (g.T.StateTest.passes w.test.now) c.args.stage.now.left in
    let h = child_by w.g.now test c.args.place c.args.node.now in
    record {
      asker = c.next_state.ensures.asker;
      still = laws.later_asks _ _ _ c.loop-action.invariant.still c.next_state.ensures.still;
      found = elim c.match-next_state.branch [
        | in-Some+in_ok-push v ↦
            let pushed : c.match-next_state.found.items ≡ c.loop-action.found.items ++ v.of.result ∷ [] = search rules in
            collect_some h all_actions c.loop-action.action-index _ v.of.result _ _ _ c.loop-action-test.true c.loop-action.invariant.found
            (child-some w.g.now test c.args.place c.args.node.now v.of.result _ v.in-Some.state v.seconds.result (sym c.next_state.ensures.value ∙ v.in-Some.is) v.seconds.ensures.value v.of.ensures) pushed
        | in_default v ↦ rw v.found-is (collect_none h all_actions c.loop-action.action-index _ _ _ c.loop-action-test.true c.loop-action.invariant.found
            (child-none w.g.now test c.args.place c.args.node.now _ (sym c.next_state.ensures.value ∙ v.in_default.is)))
      ];
    }
