use Rattle.std.proofs.Common.{◌∙◌, sym, ◌-◌, ◌<◌, length, arith, ap, subst, map}
use Rattle.prefix_fronts.specs.Prefix.{finishes}
use Rattle.front_walk.specs.declared.links.Link.{Link}
use Rattle.front_walk.specs.Nodes.{Climbs, actions_to, link_of, nodes_at, nodes_by}
use Rattle.front_walk.proofs.Found.{Ends, found-none, found-climb, found-soonest, sizes-last, sizes-whole}
use Rattle.front_walk.proofs.Leading.{walk-nodes}
use Rattle.front_walk.proofs.Stacks.{items_of, links-count, links-at, links-next}
use Rattle.front_walk.proofs.last_step.Goals as goal

pub endings-requires-clause-nodes : goal.endings-requires-clause-nodes
endings-requires-clause-nodes g c κs within =
    let laws = g.met.T.StateTest g.world.𝓛 g.world.𝓜 g.world.𝓡 ((λ s x. x), (λ x. x), (λ x. x), λ x. x) in
    let w = c.args.walk.now in
    let below : c.args.n - 1 < c.args.n = omega (arith, c.requires.some) in
    walk-nodes (g.T.StateTest.craft w.test.now) w.g.now w.from.now w.target (g.T.StateTest.passes w.test.now) (g.T.StateTest.allows w.test.now) c.args.n (c.args.n - 1) _ w.craft
    (laws.goes_on_allowed w.test.now) w.open w.limits w.allowed below (c.deref.ensures.value ∙ c.requires.level.nodes_are)

pub returns-in-None-clause-best : goal.returns-in-None-clause-best
returns-in-None-clause-best g c =
    let w = c.args.walk.now in
    let n = c.args.n in
    let last = c.deref.ensures.value ∙ c.requires.level.nodes_are in
    found-none w.g.now w.from.now w.target (g.T.StateTest.passes w.test.now) n (n - 1) c.deref-2.result.now
    (record { is_open = w.open; limits = w.limits; one = omega (arith, c.requires.some); are = c.deref-2.ensures.value ∙ c.in_ok-ends.ensures ∙ ap (nodes_by w.g.now (finishes w.g.now w.target)) last })
    (sym c.soonest.ensures ∙ c.in-None.is)

pub climb-requires-clause-inside : goal.climb-requires-clause-inside
climb-requires-clause-inside g c =
    let w = c.args.walk.now in
    let n = c.args.n in
    let passes = g.T.StateTest.passes w.test.now in
    let ways = links-next w.g.now w.from.now passes n n c.args.levels.links.items c.push.new.self.items c.args.levels.last.items c.in_ok-links_of-in-Some.field-0 c.requires.some
    c.requires.links c.requires.level.nodes_are (c.in_ok-links_of-in-Some.ensures ∙ ap (map link_of) c.deref-in-Some.ensures.value) c.in_ok-push-in-Some.ensures.items in
    let count = links-count c.push.new.self.items (λ j. map link_of (nodes_at w.g.now w.from.now passes n j)) n ways in
    omega (arith, count, ap length c.deref-in-Some-2.ensures.value)

pub climb-requires-clause-climbs : goal.climb-requires-clause-climbs
climb-requires-clause-climbs g c =
    let w = c.args.walk.now in
    let n = c.args.n in
    let passes = g.T.StateTest.passes w.test.now in
    let last = c.deref.ensures.value ∙ c.requires.level.nodes_are in
    let ways = links-next w.g.now w.from.now passes n n c.args.levels.links.items c.push.new.self.items c.args.levels.last.items c.in_ok-links_of-in-Some.field-0 c.requires.some
    c.requires.links c.requires.level.nodes_are (c.in_ok-links_of-in-Some.ensures ∙ ap (map link_of) c.deref-in-Some.ensures.value) c.in_ok-push-in-Some.ensures.items in
    let stack = ap items_of c.deref-in-Some-2.ensures.value ∙ ways in
    let led = found-climb w.g.now w.from.now w.target passes n (n - 1) c.deref-2.result.now c.in-Some.end (items_of c.deref-in-Some-2.result.now)
    (record { is_open = w.open; limits = w.limits; one = omega (arith, c.requires.some); are = c.deref-2.ensures.value ∙ c.in_ok-ends.ensures ∙ ap (nodes_by w.g.now (finishes w.g.now w.target)) last })
    (sym c.soonest.ensures ∙ c.in-Some.is) (links-at c.deref-in-Some-2.result.now (λ j. map link_of (nodes_at w.g.now w.from.now passes n j)) n stack) in
    subst (λ (l : Link). Climbs (items_of c.deref-in-Some-2.result.now) n l) (sym c.link_of.ensures) led.climbs

pub returns-clause-best : goal.returns-clause-best
returns-clause-best g c =
    let w = c.args.walk.now in
    let n = c.args.n in
    let passes = g.T.StateTest.passes w.test.now in
    let last = c.deref.ensures.value ∙ c.requires.level.nodes_are in
    let ways = links-next w.g.now w.from.now passes n n c.args.levels.links.items c.push.new.self.items c.args.levels.last.items c.in_ok-links_of-in-Some.field-0 c.requires.some
    c.requires.links c.requires.level.nodes_are (c.in_ok-links_of-in-Some.ensures ∙ ap (map link_of) c.deref-in-Some.ensures.value) c.in_ok-push-in-Some.ensures.items in
    let stack = ap items_of c.deref-in-Some-2.ensures.value ∙ ways in
    let ends : Ends w.g.now w.from.now w.target passes n (n - 1) c.deref-2.result.now = record { is_open = w.open; limits = w.limits; one = omega (arith, c.requires.some); are = c.deref-2.ensures.value ∙ c.in_ok-ends.ensures ∙ ap (nodes_by w.g.now (finishes w.g.now w.target)) last } in
    let some = sym c.soonest.ensures ∙ c.in-Some.is in
    let led = found-climb w.g.now w.from.now w.target passes n (n - 1) c.deref-2.result.now c.in-Some.end (items_of c.deref-in-Some-2.result.now) ends some
    (links-at c.deref-in-Some-2.result.now (λ j. map link_of (nodes_at w.g.now w.from.now passes n j)) n stack) in
    found-soonest w.g.now w.from.now w.target passes n (n - 1) c.deref-2.result.now c.in-Some.end _ ends some
    (c.in_ok-actions-in-Some.ensures ∙ ap (actions_to (items_of c.deref-in-Some-2.result.now) n) c.link_of.ensures ∙ led.actions_is)

pub returns-clause-sizes : goal.returns-clause-sizes
returns-clause-sizes g c =
    let w = c.args.walk.now in
    let passes = g.T.StateTest.passes w.test.now in
    sizes-whole w.g.now w.from.now w.target passes c.args.n c.args.levels.sizes.items w.open w.limits
    (sizes-last w.g.now w.from.now passes c.args.n c.args.levels.sizes.items c.requires.some c.requires.level.sizes_are)
