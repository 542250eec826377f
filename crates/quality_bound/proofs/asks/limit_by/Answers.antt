use Rattle.std.proofs.Common.{ap, ◌∙◌}
use Rattle.relaxed_moves.specs.Budget.{potential_of}
use Rattle.quality_bound.specs.declared.truth.QualityTruth.{QualityTruth}
use Rattle.quality_bound.proofs.Limited.{limit-is}
use Rattle.quality_bound.proofs.asks.limit_by.Goals as goal

pub returns-clause-value : goal.returns-clause-value
returns-clause-value c =
    limit-is c.args.shared.now.truth.g c.args.shared.now.truth.grain c.args.s.now c.potential_by-means.result c.limit_within.result
    (c.potential_by-means.ensures.value ∙ ap (λ (u : QualityTruth). potential_of u.g c.args.s.now) c.truth-truth.ensures) c.limit_within.ensures.value
