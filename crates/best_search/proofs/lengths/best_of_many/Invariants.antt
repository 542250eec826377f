use Rattle.std.proofs.Common.{◌+◌, ◌-◌, ◌≡◌, ◌≤◌, length}
use Rattle.best_search.specs.Looking.{TakesAtLeast}
use Rattle.best_search.proofs.lengths.best_of_many.Given as goal

abbrev pub invariant-loop-low : goal.invariant-loop-low
invariant-loop-low g l = record {
  some : 1 ≤ l.low;
  low : TakesAtLeast l.goal.g.now l.goal.from.now l.goal.target l.low;
  as_many : length l.crew.workers ≡ length l.fn.crew.workers;
}

abbrev pub decreases-loop-low : goal.decreases-loop-low
decreases-loop-low g l = 280 + 1 - l.low
