use Rattle.std.proofs.Common.{◌-◌, IsTrue, map}
use Rattle.front_walk.specs.Asking.{AllMayAsk, AllStillAsk}
use Rattle.front_walk.specs.Nodes.{AreLinks, IsLevel, links_in}
use Rattle.front_walk.proofs.levels.levels_below.Given as goal

abbrev pub invariant-loop-k : goal.invariant-loop-k
invariant-loop-k g l =
    let w = l.walk in
    record {
      askers : AllMayAsk (g.T.StateTest.may_ask w.test.now) l.crew.workers;
      still : AllStillAsk g.T.StateTest.still_asks l.fn.crew.workers l.crew.workers;
      links : IsTrue l.keeps_ways → AreLinks w.g.now w.from.now (g.T.StateTest.passes w.test.now) l.n (l.k - 1) (map links_in l.links.items);
      level : IsLevel w.g.now w.from.now (g.T.StateTest.passes w.test.now) l.n (l.k - 1) l.last.items l.sizes.items;
    }
