use Rattle.std.proofs.Common.{◌≡◌, ◌∙◌, ℕ, ◌+◌, ◌-◌, ◌<◌, ◌≤◌, List, [], ◌∷◌, ◌++◌, length, arith, ap, map}
use Rattle.pareto_front.specs.declared.node.Node.{Node}
use Rattle.pareto_front.specs.Covers.{uncovered}
use Rattle.front_walk.specs.Nodes.{goes_and_passes, link_of, nodes_by}
use Rattle.front_walk.proofs.Joined.{stills-later}
use Rattle.front_walk.proofs.Leading.{walk-nodes}
use Rattle.front_walk.proofs.Stacks.{links-start, links-next, level-start, level-next}
use Rattle.front_walk.proofs.levels.levels_below.Goals as goal

pub loop-k-init : goal.loop-k-init
loop-k-init g c =
    let w = c.args.walk.now in
    let passes = g.T.StateTest.passes w.test.now in
    let size : c.len.result ≡ length c.in_ok-last.last.items = omega (arith, c.len.ensures, c.in_ok-last.last.ok.0) in
    record {
      askers = c.in_ok-last.ensures.askers;
      still = c.in_ok-last.ensures.still;
      links = λ kept. links-start w.g.now w.from.now passes c.args.n c.new-links.result.items c.new-links.ensures.items;
      level = level-start w.g.now w.from.now passes c.args.n c.in_ok-last.last.items c.push.new.self.items c.len.result c.in_ok-last.ensures.nodes size
          (c.in_ok-push.ensures.items ∙ ap (λ (l : List ℕ). l ++ c.len.result ∷ []) c.new-sizes.ensures.items);
    }

pub next_level-requires-clause-nodes : goal.next_level-requires-clause-nodes
next_level-requires-clause-nodes g c κs within =
    let laws = g.met.T.StateTest g.world.𝓛 g.world.𝓜 g.world.𝓡 ((λ s x. x), (λ x. x), (λ x. x), λ x. x) in
    let w = c.args.walk.now in
    let below : c.loop-k.k - 1 < c.args.n = omega (arith, c.loop-k-test.true) in
    walk-nodes (g.T.StateTest.craft w.test.now) w.g.now w.from.now w.target (g.T.StateTest.passes w.test.now) (g.T.StateTest.allows w.test.now) c.args.n (c.loop-k.k - 1) _ w.craft
    (laws.goes_on_allowed w.test.now) w.open w.limits w.allowed below (c.deref.ensures.value ∙ c.loop-k.invariant.level.nodes_are)

pub loop-k-preserved : goal.loop-k-preserved
loop-k-preserved g c =
    let laws = g.met.T.StateTest g.world.𝓛 g.world.𝓜 g.world.𝓡 ((λ s x. x), (λ x. x), (λ x. x), λ x. x) in
    let w = c.args.walk.now in
    let passes = g.T.StateTest.passes w.test.now in
    let k = c.loop-k.k in
    let some : 1 ≤ k = omega arith in
    let down : k + 1 - 1 ≡ k = omega arith in
    let size : c.len-in-loop-k.result ≡ length c.in_ok-next.next.items = omega (arith, c.len-in-loop-k.ensures, c.in_ok-next.next.ok.0) in
    record {
      askers = c.in_ok-next.ensures.askers;
      still = stills-later _ laws.later_asks _ _ _ c.loop-k.invariant.still c.in_ok-next.ensures.still;
      links = λ kept. rw down (links-next w.g.now w.from.now passes c.args.n k c.loop-k.links.items c.push-in-loop-k.new.self.items c.loop-k.last.items c.in_ok-ways_of.field-0 some
          (c.loop-k.invariant.links kept) c.loop-k.invariant.level.nodes_are (c.in_ok-ways_of.ensures kept ∙ ap (map link_of) c.deref-in-loop-k.ensures.value) c.in_ok-push-2.ensures.items);
      level = rw down (level-next w.g.now w.from.now passes c.args.n k c.loop-k.last.items c.in_ok-next.next.items c.loop-k.sizes.items c.push-in-loop-k-2.new.self.items c.len-in-loop-k.result some
          c.loop-k.invariant.level
          (c.in_ok-next.ensures.kept ∙ ap (λ (l : List Node). uncovered (nodes_by w.g.now (goes_and_passes w.g.now passes (c.args.n - k)) l)) c.deref.ensures.value)
          size c.in_ok-push-3.ensures.items);
    }

pub returns-in_err-next-clause-still : goal.returns-in_err-next-clause-still
returns-in_err-next-clause-still g c =
    let laws = g.met.T.StateTest g.world.𝓛 g.world.𝓜 g.world.𝓡 ((λ s x. x), (λ x. x), (λ x. x), λ x. x) in
    stills-later _ laws.later_asks _ _ _ c.loop-k.invariant.still c.in_err-next.ensures.still

pub returns-in_err-ways_of-clause-still : goal.returns-in_err-ways_of-clause-still
returns-in_err-ways_of-clause-still g c =
    let laws = g.met.T.StateTest g.world.𝓛 g.world.𝓜 g.world.𝓡 ((λ s x. x), (λ x. x), (λ x. x), λ x. x) in
    stills-later _ laws.later_asks _ _ _ c.loop-k.invariant.still c.in_ok-next.ensures.still

pub returns-in_err-push-2-clause-still : goal.returns-in_err-push-2-clause-still
returns-in_err-push-2-clause-still g c =
    let laws = g.met.T.StateTest g.world.𝓛 g.world.𝓜 g.world.𝓡 ((λ s x. x), (λ x. x), (λ x. x), λ x. x) in
    stills-later _ laws.later_asks _ _ _ c.loop-k.invariant.still c.in_ok-next.ensures.still

pub returns-in_err-push-3-clause-still : goal.returns-in_err-push-3-clause-still
returns-in_err-push-3-clause-still g c =
    let laws = g.met.T.StateTest g.world.𝓛 g.world.𝓜 g.world.𝓡 ((λ s x. x), (λ x. x), (λ x. x), λ x. x) in
    stills-later _ laws.later_asks _ _ _ c.loop-k.invariant.still c.in_ok-next.ensures.still
