use Rattle.std.proofs.Common.{◌∙◌, sym}
use Rattle.front_walk.specs.Nodes.{goes_and_passes}
use Rattle.front_walk.proofs.Joined.{stills-same}
use Rattle.front_walk.proofs.Stacks.{nothing_next}
use Rattle.front_walk.proofs.levels.next_level.Goals as goal

pub returns-then-is_empty-clause-kept : goal.returns-then-is_empty-clause-kept
returns-then-is_empty-clause-kept g c =
    let w = c.args.walk.now in
    c.new.ensures.items ∙ sym (nothing_next w.g.now (goes_and_passes w.g.now (g.T.StateTest.passes w.test.now) c.args.left) c.args.nodes.now (sym c.is_empty.ensures ∙ c.if-is_empty.true))

pub returns-then-is_empty-clause-still : goal.returns-then-is_empty-clause-still
returns-then-is_empty-clause-still g c =
    let laws = g.met.T.StateTest g.world.𝓛 g.world.𝓜 g.world.𝓡 ((λ s x. x), (λ x. x), (λ x. x), λ x. x) in
    stills-same _ laws.same_asks c.args.crew.now.workers
