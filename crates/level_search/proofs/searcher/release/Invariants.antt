use Rattle.std.proofs.Common.{◌≡◌, map}
use Rattle.level_search.proofs.searcher.release.Given as goal

abbrev pub invariant-loop-walker : goal.invariant-loop-walker
invariant-loop-walker l = l.searchers.items ≡ map (λ w. w.asker) l.yielded
