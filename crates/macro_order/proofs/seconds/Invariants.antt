use Rattle.std.proofs.Common.{◌≡◌, ◌≤◌, ◌+◌, ◌*◌, drop}
use Rattle.macro_order.specs.Order.{seconds_of}
use Rattle.macro_order.proofs.seconds.Given as goal

abbrev pub invariant-loop-action : goal.invariant-loop-action
invariant-loop-action l = record {
  sum : l.total + seconds_of (drop l.action-index l.actions) ≡ seconds_of l.actions;
  small : l.total ≤ 3 * l.action-index;
}
