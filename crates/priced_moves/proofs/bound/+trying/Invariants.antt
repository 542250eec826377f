use Rattle.std.proofs.Common.{◌≡◌, ◌≤◌, ◌+◌, ◌*◌, take, IfSome}
use Rattle.action_table.specs.Table.{all_actions}
use Rattle.priced_moves.proofs.Trying.{led}
use Rattle.priced_moves.proofs.bound.+trying.Given as goal

abbrev pub decreases-best : goal.decreases-best
decreases-best l = 2 * l.budget + 1

abbrev pub decreases-lead : goal.decreases-lead
decreases-lead l = 2 * l.budget

abbrev pub invariant-best-loop-action : goal.invariant-best-loop-action
invariant-best-loop-action l =
    (l.most ≡ led l.terms.prices l.terms.settings l.terms.units l.budget l.x (take l.action-index all_actions))
    × IfSome l.most (λ n. n ≤ 100000 * l.budget)
