use Rattle.std.proofs.Common.{◌≡◌, drop}
use Rattle.macro_order.specs.Order.{precedes}
use Rattle.macro_order.proofs.is_before.Given as goal

abbrev pub invariant-loop-place : goal.invariant-loop-place
invariant-loop-place l = precedes (drop l.place l.first) (drop l.place l.second) ≡ precedes l.first l.second
