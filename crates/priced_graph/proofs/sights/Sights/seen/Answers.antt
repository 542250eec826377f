use Rattle.std.proofs.Common.{subst, sym, ap, ℕ, ◌∙◌}
use Rattle.priced_moves.specs.Moves.{SeenFields}
use Rattle.priced_graph.specs.Sights.{IsSight, number_of, seen_at}
use Rattle.priced_graph.proofs.Digits.{sight-seen, number-seen, seen-sight}
use Rattle.priced_graph.proofs.sights.Sights.seen.Goals as goal

pub returns-clause-sight : goal.returns-clause-sight
returns-clause-sight c = subst (λ (x : SeenFields). IsSight c.args.self.now x) (sym c.parts.ensures.value) (sight-seen c.args.self.now c.args.number c.parts.ensures.are c.requires)

pub returns-clause-back : goal.returns-clause-back
returns-clause-back c = ap (λ (x : SeenFields). number_of c.args.self.now x) c.parts.ensures.value ∙ number-seen c.args.self.now c.args.number c.parts.ensures.are

pub returns-clause-only : goal.returns-clause-only
returns-clause-only c x sight same =
    sym (seen-sight c.args.self.now x sight) ∙ ap (λ (n : ℕ). seen_at c.args.self.now n) same ∙ sym c.parts.ensures.value
