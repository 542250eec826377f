use Rattle.std.proofs.Common.{length, ◌-◌}
use Rattle.front_check.proofs.ActionWords.{Left}
use Rattle.front_check.proofs.naming.list_actions.Given as goal

abbrev pub invariant-loop-from : goal.invariant-loop-from
invariant-loop-from l = Left l.line l.actions.items l.from

abbrev pub decreases-loop-from : goal.decreases-loop-from
decreases-loop-from l = length l.line - l.from
