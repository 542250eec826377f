use Rattle.std.proofs.Common.{◌≡◌, ◌++◌}
use Rattle.front_walk.specs.Nodes.{goes_and_passes, nodes_upto}
use Rattle.front_walk.proofs.children.children_in.Given as goal

abbrev pub invariant-loop-place : goal.invariant-loop-place
invariant-loop-place g l =
    let w = l.stage.walk.now in
    let test = goes_and_passes w.g.now (g.T.StateTest.passes w.test.now) l.stage.left in
    record {
      asker : g.T.StateTest.may_ask w.test.now l.asker;
      still : g.T.StateTest.still_asks l.fn.asker l.asker;
      found : nodes_upto w.g.now test l.stage.nodes.now l.from ++ l.found.items ≡ nodes_upto w.g.now test l.stage.nodes.now l.place;
    }
