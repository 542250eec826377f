-- The children of the nodes so far are pruned.
use Rattle.std.proofs.Common.{◌≡◌, ◌≤◌, ◌-◌, length}
use Rattle.pareto_front.specs.Covers.{uncovered}
use Rattle.front_walk.specs.Asking.{AllMayAsk, AllStillAsk}
use Rattle.front_walk.specs.Nodes.{goes_and_passes, nodes_upto}
use Rattle.front_walk.proofs.expanding.expand_by.Given as goal

abbrev pub invariant-loop-from : goal.invariant-loop-from
invariant-loop-from g l =
    let w = l.stage.walk.now in
    let test = goes_and_passes w.g.now (g.T.StateTest.passes w.test.now) l.stage.left in
    record {
      askers : AllMayAsk (g.T.StateTest.may_ask w.test.now) l.crew.workers;
      still : AllStillAsk g.T.StateTest.still_asks l.fn.crew.workers l.crew.workers;
      inside : l.from ≤ length l.stage.nodes.now;
      kept : l.kept.items ≡ uncovered (nodes_upto w.g.now test l.stage.nodes.now l.from);
    }

abbrev pub decreases-loop-from : goal.decreases-loop-from
decreases-loop-from g l = length l.stage.nodes.now - l.from
