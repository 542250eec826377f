use Rattle.front_walk.proofs.Found.{sizes-last, sizes-whole}
use Rattle.front_walk.proofs.sizes.Goals as goal

pub returns-clause-sizes : goal.returns-clause-sizes
returns-clause-sizes g c =
    let w = c.args.walk.now in
    let passes = g.T.StateTest.passes w.test.now in
    sizes-whole w.g.now w.from.now w.target passes c.args.n c.in_ok-sizes.field-0.sizes.items w.open w.limits
    (sizes-last w.g.now w.from.now passes c.args.n c.in_ok-sizes.field-0.sizes.items c.requires.some c.in_ok-sizes.ensures.level.sizes_are)
