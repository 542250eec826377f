use Rattle.std.proofs.Common.{◌-◌}
use Rattle.priced_bound.specs.declared.choices.TheConstants.{MOST_EFFICIENCY}
use Rattle.priced_bound.proofs.Counting.{NoneAbove}
use Rattle.priced_bound.proofs.choices.divisor.Given as goal

abbrev pub invariant-loop-past : goal.invariant-loop-past
invariant-loop-past l = NoneAbove l.g (MOST_EFFICIENCY - l.past)
