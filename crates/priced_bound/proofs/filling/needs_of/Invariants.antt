use Rattle.priced_bound.proofs.Needs.{AreNeedsTo}
use Rattle.priced_bound.proofs.filling.needs_of.Given as goal

abbrev pub invariant-loop-points : goal.invariant-loop-points
invariant-loop-points l = AreNeedsTo l.r l.points l.needs.items
