use Rattle.std.proofs.Common.{◌≡◌, ◌∙◌, ℕ, ◌≤◌, Some, ap, arith}
use Rattle.quality_pass.proofs.Qualities.{at_most-greatest}
use Rattle.quality_pass.proofs.offer_one.Goals as goal

pub returns-clause-floor : goal.returns-clause-floor
returns-clause-floor c =
    let q = c.offer.ensures.floor.0 in
    let high : q ≤ c.args.quality = at_most-greatest c.args.shared.now.truth.g q c.args.quality c.offer.ensures.floor.2 c.requires.quality.1 in
    let same : q ≡ c.args.quality = omega (arith, high, c.offer.ensures.floor.3) in
    c.offer.ensures.floor.1 ∙ ap (λ (n : ℕ). Some n) same
