-- The range holds the least base quality that is enough, and the calls that are left suffice.
use Rattle.std.proofs.Common.{◌-◌, ◌≤◌}
use Rattle.stat_sweep.proofs.Halves.{IsRange, SufficesAfter, IsRoomAfter}
use Rattle.stat_sweep.proofs.halving.halve.Given as goal

abbrev pub invariant-loop-range : goal.invariant-loop-range
invariant-loop-range g l = record {
  range : IsRange l.g l.range;
  calls : SufficesAfter (g.V.Solver.calls l.solver) (l.range.high - l.range.low);
  room : IsRoomAfter (g.V.Solver.calls l.solver) l.room;
  few : l.room ≤ 4096;
  ready : g.V.Solver.ready l.solver;
}

abbrev pub decreases-loop-range : goal.decreases-loop-range
decreases-loop-range g l = l.range.high - l.range.low
