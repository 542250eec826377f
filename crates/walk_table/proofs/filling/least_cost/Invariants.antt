use Rattle.std.proofs.Common.{ℕ, ◌<◌, ◌≤◌}
use Rattle.walk_table.specs.Graph.{edge_at}
use Rattle.walk_table.proofs.filling.least_cost.Given as goal

abbrev pub invariant-loop-k : goal.invariant-loop-k
invariant-loop-k l = record {
  low : 1 ≤ l.least;
  high : l.least ≤ l.most;
  each : (k : ℕ) → k < l.k → l.least ≤ (edge_at l.graph k).cost;
}
