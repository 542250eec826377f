use Rattle.std.proofs.Common.{◌≡◌, ◌∙◌, sym, refl, ◌<◌, [], ◌++◌, length, arith, ap}
use Rattle.pareto_front.specs.declared.node.Node.{Node}
use Rattle.prefix_fronts.specs.Prefix.{finishes}
use Rattle.front_walk.specs.Nodes.{children_by}
use Rattle.front_walk.proofs.Collected.{spread_more, nodes_upto-all, nodes_upto-none}
use Rattle.front_walk.proofs.endings.endings.Goals as goal

pub loop-place-init : goal.loop-place-init
loop-place-init g c =
    let w = c.args.walk.now in
    c.new-found.ensures.items ∙ sym (nodes_upto-none w.g.now (finishes w.g.now w.target) c.args.nodes.now 0 refl)

pub loop-place-preserved : goal.loop-place-preserved
loop-place-preserved g c =
    let w = c.args.walk.now in
    let inside : c.loop-place.place < length c.args.nodes.now = omega arith in
    let same : c.node.result ≡ c.index-nodes-place.result = grind (arith, c.node.ensures, c.index-nodes-place.is) in
    spread_more w.g.now (finishes w.g.now w.target) c.args.nodes.now c.loop-place.place c.index-nodes-place.result [] c.loop-place.found.items c.push_endings.new.found.items inside c.index-nodes-place.is c.loop-place.invariant
    (c.in_ok-push_endings.ensures ∙ ap (λ (x : Node). c.loop-place.found.items ++ children_by w.g.now (finishes w.g.now w.target) c.loop-place.place x) same)

pub returns : goal.returns
returns g c =
    let w = c.args.walk.now in
    c.loop-place.invariant ∙ nodes_upto-all w.g.now (finishes w.g.now w.target) c.args.nodes.now c.loop-place.place (omega arith)
