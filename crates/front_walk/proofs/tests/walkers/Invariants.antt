use Rattle.std.proofs.Common.{◌≡◌, length}
use Rattle.front_walk.proofs.tests.walkers.Given as goal

abbrev pub invariant-loop-turn : goal.invariant-loop-turn
invariant-loop-turn l = length l.all.items ≡ l._turn
