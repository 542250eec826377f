use Rattle.std.proofs.Common.{◌≡◌, length}
use Rattle.best_search.proofs.seekers.Given as goal

abbrev pub invariant-loop-place : goal.invariant-loop-place
invariant-loop-place l = length l.all.items ≡ l._place
