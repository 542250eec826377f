use Rattle.std.proofs.Common.{◌≡◌, ◌≤◌, ◌+◌, ◌-◌}
use Rattle.walk_table.proofs.filling.fill_all.Given as goal

abbrev pub invariant-loop-alloc : goal.invariant-loop-alloc
invariant-loop-alloc g l = record {
  within : l.filled.budgets ≤ l.top + 1;
  graph : l.filled.graph ≡ l.fn.filled.graph;
  needs : l.filled.needs ≡ l.fn.filled.needs;
}

abbrev pub decreases-loop-alloc : goal.decreases-loop-alloc
decreases-loop-alloc g l = l.top + 1 - l.filled.budgets
