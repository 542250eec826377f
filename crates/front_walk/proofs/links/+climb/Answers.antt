use Rattle.std.proofs.Common.{arith}
use Rattle.front_walk.proofs.Stacks.{climb-step}
use Rattle.front_walk.proofs.links.+climb.Goals as goal

pub returns : goal.returns
returns t c =
    climb-step c.args.levels.now c.args.k c.args.link.now c.at.result c.index-levels-k.result c.in_ok-actions.actions.items c.push.new.self.items (omega arith) c.requires.inside c.index-levels-k.is
    (c.at.ensures c.args.link.now) c.in_ok-actions.ensures c.in_ok-push.ensures.items
