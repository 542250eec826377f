use Rattle.std.proofs.Common.{◌≡◌, drop}
use Rattle.front_walk.specs.Nodes.{soonest_from}
use Rattle.front_walk.proofs.endings.soonest.Given as goal

abbrev pub invariant-loop-node : goal.invariant-loop-node
invariant-loop-node l = soonest_from l.best (drop l.node-index l.rest) ≡ soonest_from l.initial.best l.rest
