use Rattle.std.proofs.Common.{ℕ, List, ◌+◌, sym, subst}
use Rattle.priced_bound.proofs.Needs.{AreNeedsTo, need-more}
use Rattle.priced_bound.proofs.filling.needs_of.Goals as goal

pub loop-points-preserved : goal.loop-points-preserved
loop-points-preserved c =
    let r = c.args.r.now in
    let points = c.loop-points.points in
    subst (λ (l : List ℕ). AreNeedsTo r (points + 1) l) (sym c.in_ok-push.ensures.items)
    (need-more r points c.need_after.result c.loop-points.needs.items c.need_after.ensures.value c.loop-points.invariant)
