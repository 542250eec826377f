use Rattle.std.proofs.Common.{ap, ◌∙◌}
use Rattle.relaxed_moves.specs.Places.{state_at}
use Rattle.quality_bound.specs.declared.truth.QualityTruth.{QualityTruth}
use Rattle.quality_bound.specs.Truths.{quality_rules}
use Rattle.quality_bound.proofs.Seeing.{sees-column}
use Rattle.quality_bound.proofs.fills.fill_column.Goals as goal

pub returns-clause-seen : goal.returns-clause-seen
returns-clause-seen c =
    let truth = c.args.shared.now.truth in
    sees-column (quality_rules truth.g truth.grain) c.args.beta c.args.effects c.of_index-x.result.1 c.fill_column.new.seat.view c.requires.effects
    (c.of_index-x.ensures.state_value ∙ ap (λ (u : QualityTruth). state_at u.grain c.args.effects) c.truth-truth.ensures) c.fill_column.ensures.seen
