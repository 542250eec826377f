use Rattle.std.proofs.Common.{arith, sym, ap, ◌∙◌}
use Rattle.seat_tables.proofs.Keeps.{may-part, may-join, key-is}
use Rattle.seat_tables.proofs.Stills.{still-longer, still-taken}
use Rattle.seat_tables.proofs.shared.Shared.join.Goals as goal

pub join_seat-requires : goal.join_seat-requires
join_seat-requires g c = (
  ap (λ s. s.id) c.into.view_is ∙ c.requires.into.0 ∙ sym (ap (λ b. b.id) c.self.view_is),
  ap (λ s. s.id) c.from.view_is ∙ c.requires.from.0 ∙ sym (ap (λ b. b.id) c.self.view_is),
  c.from.invariant,
  omega (arith, c.self.invariant.1),
  may-join g.T.Truth.size g.T.Truth.entry g.T.Truth.reached c.self.inside.table.shared.key _ _ _ _ (ap (λ s. s.view.joined) c.into.view_is ∙ c.requires.into.2) (ap (λ s. s.view.joined) c.from.view_is ∙ c.requires.from.2),
)

pub load-requires : goal.load-requires
load-requires g c = (
  c.join_seat.ensures.0 ∙ ap (λ s. s.id) c.into.view_is ∙ c.requires.into.0 ∙ sym (ap (λ b. b.id) c.self.view_is),
  omega (arith, c.self.invariant.1),
  may-part g.T.Truth.size g.T.Truth.entry g.T.Truth.reached c.self.inside.table.shared.key _ _ _
      (key-is c.self.inside.table.shared.key c.self.inside.truth c.args.self.now.truth c.join_seat.new.seat.me.0.truth c.args.into.now.view.truth c.self.invariant.0 (ap (λ b. b.truth) c.self.view_is) (ap (λ m. m.0.truth) c.join_seat.ensures.2 ∙ ap (λ s. s.view.truth) c.into.view_is) c.requires.into.1)
      (ap (λ m. m.0.joined) c.join_seat.ensures.2 ∙ (ap (λ s. s.view.joined) c.into.view_is ∙ c.requires.into.2)),
)

pub returns-clause-still : goal.returns-clause-still
returns-clause-still g c = let seen = ap (λ v. v.seen) c.load.ensures.2.1.0 ∙ ap (λ m. m.0.seen) c.join_seat.ensures.2 in (
  still-longer c.from.inside.token.me.0.seen _ _ _ (ap (λ s. s.view) c.into.view_is) seen,
  still-taken c.into.inside.token.me.0.seen _ _ _ (ap (λ s. s.view) c.from.view_is) seen,
)
