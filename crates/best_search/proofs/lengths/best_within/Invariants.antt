use Rattle.std.proofs.Common.{◌≡◌, length}
use Rattle.best_search.specs.Looking.{TakesAtLeast}
use Rattle.best_search.proofs.lengths.best_within.Given as goal

abbrev pub invariant-loop-n : goal.invariant-loop-n
invariant-loop-n g l = record {
  low : TakesAtLeast l.aim.goal.g.now l.aim.goal.from.now l.aim.goal.target l.n;
  as_many : length l.crew.workers ≡ length l.fn.crew.workers;
}
