use Rattle.std.proofs.Common.{subst, sym, ℕ, ◌≡◌, ◌<◌}
use Rattle.priced_moves.specs.FirstMoves.{at_need, without_combo}
use Rattle.priced_graph.specs.Sights.{node_count, seen_at}
use Rattle.priced_graph.proofs.Digits.{number-below, seen-number}
use Rattle.priced_graph.proofs.sights.Sights.number.Goals as goal

pub returns-clause-below : goal.returns-clause-below
returns-clause-below c = subst (λ (n : ℕ). n < node_count c.args.self.now) (sym c.place.ensures.value) (number-below c.args.self.now c.args.x.now c.requires)

pub returns-clause-seen : goal.returns-clause-seen
returns-clause-seen c =
    subst (λ (n : ℕ). seen_at c.args.self.now n ≡ at_need (without_combo c.args.x.now) 0) (sym c.place.ensures.value) (seen-number c.args.self.now c.args.x.now c.requires)
