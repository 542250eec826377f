use Rattle.std.proofs.Common.{arith, ◌≤◌, ap, ◌∙◌}
use Rattle.craft_settings.specs.Rules.{cap_of}
use Rattle.relaxed_moves.specs.declared.places.TheConstants.{MOST_MOVES}
use Rattle.step_bound.specs.declared.truth.StepTruth.{StepTruth}
use Rattle.step_bound.proofs.Limited.{within-is, within-more}
use Rattle.step_bound.proofs.asks.within_by.Goals as goal

pub returns-then-j-gt-MOST_MOVES-clause-value : goal.returns-then-j-gt-MOST_MOVES-clause-value
returns-then-j-gt-MOST_MOVES-clause-value c =
    within-more c.args.shared.now.truth.g c.args.shared.now.truth.grain c.args.s.now c.args.j c.cap.result c.if-j-gt-MOST_MOVES.true
    (c.cap.ensures ∙ ap (λ (u : StepTruth). cap_of u.g) c.truth.ensures)

pub returns-clause-value : goal.returns-clause-value
returns-clause-value c =
    let low : c.args.j ≤ MOST_MOVES = omega (arith, c.if-j-gt-MOST_MOVES.false) in
    within-is c.args.shared.now.truth.g c.args.shared.now.truth.grain c.args.s.now c.args.j c.limit_within.result low c.limit_within.ensures.value
