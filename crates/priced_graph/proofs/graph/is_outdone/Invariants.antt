use Rattle.std.proofs.Common.{ℕ, ◌≡◌, ◌≤◌, ◌<◌, false}
use Rattle.walk_table.specs.Graph.{edge_at}
use Rattle.priced_graph.specs.Graphs.{outdoes}
use Rattle.priced_graph.proofs.graph.is_outdone.Given as goal

abbrev pub invariant-loop-place : goal.invariant-loop-place
invariant-loop-place l = (k : ℕ) → l.from ≤ k → k < l.place → outdoes (edge_at l.graph k) l.edge ≡ false
