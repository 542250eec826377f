use Rattle.std.proofs.Common.{◌∙◌, ap}
use Rattle.priced_moves.specs.FirstMoves.{at_need}
use Rattle.priced_moves.specs.Moves.{SeenFields, seen_of}
use Rattle.priced_bound.specs.Bounds.{BoundFields}
use Rattle.priced_bound.specs.Reckoned.{ReckoningFields}
use Rattle.priced_bound.proofs.Needs.{need-as-seen}
use Rattle.priced_bound.proofs.bound.PricedBound.seen.Goals as goal

pub returns : goal.returns
returns c =
    let s = c.args.s.now in
    ap (λ (y : SeenFields). at_need y c.need.result) c.result.view_is
    ∙ need-as-seen c.args.self.now.by.g c.args.self.now.by.units s c.seen.result c.need.result
    (c.seen.ensures
    ∙ ap (λ (r : ReckoningFields). seen_of r.g r.units s) c.r.view_is
    ∙ ap (λ (b : BoundFields). seen_of b.by.g b.by.units s) c.self.view_is)
    c.need.ensures
