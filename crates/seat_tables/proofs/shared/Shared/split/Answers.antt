use Rattle.std.proofs.Common.{rules, arith, sym, ap, ◌∙◌}
use Rattle.seat_tables.proofs.Keeps.{may-part, may-split, key-is}
use Rattle.seat_tables.proofs.shared.Shared.split.Goals as goal

pub load-requires : goal.load-requires
load-requires g c = (search rules, omega (arith, c.self.invariant.1), may-part g.T.Truth.size g.T.Truth.entry g.T.Truth.reached c.self.inside.table.shared.key _ _ _ (key-is c.self.inside.table.shared.key c.self.inside.truth c.args.self.now.truth c.seat.inside.token.me.0.truth c.args.seat.now.view.truth c.self.invariant.0 (ap (λ b. b.truth) c.self.view_is) (ap (λ s. s.view.truth) c.seat.view_is) c.requires.1) (ap (λ s. s.view.joined) c.seat.view_is ∙ c.requires.2))

pub split_seat-token-requires : goal.split_seat-token-requires
split_seat-token-requires g c = (
  c.load.ensures.0 ∙ ap (λ s. s.id) c.seat.view_is ∙ c.requires.0 ∙ sym (ap (λ b. b.id) c.self.view_is),
  omega (arith, c.self.invariant.1),
  may-split g.T.Truth.size g.T.Truth.entry g.T.Truth.reached c.self.inside.table.shared.key _ _ (ap (λ v. v.joined) c.load.ensures.2.1.0 ∙ (ap (λ s. s.view.joined) c.seat.view_is ∙ c.requires.2)),
)
