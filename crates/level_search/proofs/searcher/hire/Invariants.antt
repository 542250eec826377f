use Rattle.std.proofs.Common.{◌≡◌, map}
use Rattle.level_search.proofs.searcher.hire.Given as goal

abbrev pub invariant-loop-searcher : goal.invariant-loop-searcher
invariant-loop-searcher l = map (λ w. w.asker) l.walkers.items ≡ l.yielded
