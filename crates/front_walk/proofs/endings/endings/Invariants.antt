use Rattle.std.proofs.Common.{◌≡◌}
use Rattle.prefix_fronts.specs.Prefix.{finishes}
use Rattle.front_walk.specs.Nodes.{nodes_upto}
use Rattle.front_walk.proofs.endings.endings.Given as goal

abbrev pub invariant-loop-place : goal.invariant-loop-place
invariant-loop-place g l =
    l.found.items ≡ nodes_upto l.walk.g.now (finishes l.walk.g.now l.walk.target) l.nodes l.place
