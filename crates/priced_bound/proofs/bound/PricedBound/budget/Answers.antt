use Rattle.std.proofs.Common.{ℕ, ◌/◌, ◌∙◌, ap}
use Rattle.priced_moves.specs.Prices.{worth_of}
use Rattle.priced_bound.specs.Bounds.{BoundFields}
use Rattle.priced_bound.specs.Reckoned.{ReckoningFields}
use Rattle.priced_bound.proofs.Needs.{worth-parts}
use Rattle.priced_bound.proofs.bound.PricedBound.budget.Goals as goal

pub returns : goal.returns
returns c =
    let s = c.args.s.now in
    let p = c.r.inside.prices in
    c.coins.ensures
    ∙ ap (λ (n : ℕ). n / p.coin) c.worth.ensures
    ∙ worth-parts p s c.args.left
    ∙ ap (λ (r : ReckoningFields). worth_of r.prices s c.args.left) c.r.view_is
    ∙ ap (λ (b : BoundFields). worth_of b.by.prices s c.args.left) c.self.view_is
