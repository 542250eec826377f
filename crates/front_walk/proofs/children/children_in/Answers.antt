use Rattle.std.proofs.Common.{◌≡◌, ◌∙◌, ◌<◌, ◌++◌, length, arith, ap}
use Rattle.front_walk.specs.Nodes.{children_by, goes_and_passes, nodes_upto}
use Rattle.pareto_front.specs.declared.node.Node.{Node}
use Rattle.front_walk.proofs.Collected.{spread_more}
use Rattle.front_walk.proofs.children.children_in.Goals as goal

pub loop-place-preserved : goal.loop-place-preserved
loop-place-preserved g c =
    let laws = g.met.T.StateTest g.world.𝓛 g.world.𝓜 g.world.𝓡 ((λ s x. x), (λ x. x), (λ x. x), λ x. x) in
    let w = c.args.stage.now.walk.now in
    let test = goes_and_passes w.g.now (g.T.StateTest.passes w.test.now) c.args.stage.now.left in
    let nodes = c.args.stage.now.nodes.now in
    let inside : c.loop-place.place < length nodes = omega arith in
    let same : c.node-node.result ≡ c.index-stage-place.result = grind (arith, c.node-node.ensures, c.index-stage-place.is) in
    record {
      asker = c.push_children.ensures.asker;
      still = laws.later_asks _ _ _ c.loop-place.invariant.still c.push_children.ensures.still;
      found = spread_more w.g.now test nodes c.loop-place.place c.index-stage-place.result (nodes_upto w.g.now test nodes c.args.from) c.loop-place.found.items c.push_children.new.found.items inside c.index-stage-place.is c.loop-place.invariant.found
          (c.in_ok-push_children.ensures.found ∙ ap (λ (x : Node). c.loop-place.found.items ++ children_by w.g.now test c.loop-place.place x) same);
    }
