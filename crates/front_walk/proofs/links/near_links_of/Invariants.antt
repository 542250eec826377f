use Rattle.std.proofs.Common.{◌≡◌, map, take}
use Rattle.front_walk.specs.Nodes.{link_of}
use Rattle.front_walk.proofs.links.near_links_of.Given as goal

abbrev pub invariant-loop-node : goal.invariant-loop-node
invariant-loop-node l = l.links.items ≡ map link_of (take l.node-index l.level)
