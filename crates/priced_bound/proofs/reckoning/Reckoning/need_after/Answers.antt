use Rattle.std.proofs.Common.{ℕ, ◌-◌, ◌∙◌, ap}
use Rattle.priced_moves.specs.Moves.{progress_units}
use Rattle.priced_bound.specs.Reckoned.{ReckoningFields}
use Rattle.priced_bound.proofs.Needs.{left_std}
use Rattle.priced_bound.proofs.reckoning.Reckoning.need_after.Goals as goal

pub returns-clause-value : goal.returns-clause-value
returns-clause-value c =
    let i = c.self.inside in
    c.div_ceil.ensures
    ∙ left_std i.units (c.points.result - c.args.points) c.self.invariant.units.progress
    ∙ ap (λ (n : ℕ). progress_units i.units (n - c.args.points)) c.points.ensures.value
    ∙ ap (λ (r : ReckoningFields). progress_units r.units (c.args.self.now.g.progress - c.args.points)) c.self.view_is
