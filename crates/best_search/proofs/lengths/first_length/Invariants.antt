use Rattle.std.proofs.Common.{◌+◌, ◌-◌, ◌≤◌}
use Rattle.best_search.specs.Looking.{TakesAtLeast}
use Rattle.best_search.proofs.lengths.first_length.Given as goal

abbrev pub invariant-loop-n : goal.invariant-loop-n
invariant-loop-n l = record {
  some : 1 ≤ l.n;
  few : l.n ≤ l.coarse.steps + 1;
  low : TakesAtLeast l.goal.g.now l.goal.from.now l.goal.target l.n;
}

abbrev pub decreases-loop-n : goal.decreases-loop-n
decreases-loop-n l = l.coarse.steps + 1 - l.n
