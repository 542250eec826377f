use Rattle.std.proofs.Common.{arith}
use Rattle.front_check.proofs.RowByRow.{kept-step}
use Rattle.front_check.proofs.ahead.push_kept.Goals as goal

pub loop-place-preserved : goal.loop-place-preserved
loop-place-preserved c =
    kept-step c.args.g.now c.args.p.now c.args.actions.now c.args.row.now c.loop-place.place _ _ c.loop-place.next.items _ _ c.loop-place-test.true (omega (arith, c.loop-place-test.true, c.requires.each)) c.in_ok-push_child.ensures c.loop-place.invariant
