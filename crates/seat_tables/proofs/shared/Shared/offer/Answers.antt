use Rattle.std.proofs.Common.{rules, arith, ◌+◌, max, sym, ap, ◌∙◌, subst}
use Rattle.race_core.specs.Codes.{quality}
use Rattle.race_core.specs.Events.{offered}
use Rattle.seat_tables.specs.Seats.{AtLeast}
use Rattle.seat_tables.proofs.Keeps.{may-offer, key-is, mark-raised, raised-above, offered-mark}
use Rattle.seat_tables.proofs.Stills.{still-same}
use Rattle.seat_tables.proofs.shared.Shared.offer.Goals as goal

pub fetch_max-requires : goal.fetch_max-requires
fetch_max-requires g c = (
  search rules,
  omega (arith, c.self.invariant.1),
  may-offer g.T.Truth.size g.T.Truth.entry g.T.Truth.reached c.self.inside.table.shared.key _ _ _ (key-is c.self.inside.table.shared.key c.self.inside.truth c.args.self.now.truth c.seat.inside.token.me.0.truth c.args.seat.now.view.truth c.self.invariant.0 (ap (λ b. b.truth) c.self.view_is) (ap (λ s. s.view.truth) c.seat.view_is) c.requires.of.1) (ap (λ s. s.view.joined) c.seat.view_is ∙ c.requires.of.2) c.args.quality _ (ap (λ n. 1 + n) c.from-mark.ensures)
      (subst (λ t. g.T.Truth.reached t c.args.quality) (sym (c.self.invariant.0 ∙ ap (λ b. b.truth) c.self.view_is)) c.requires.reached),
)

pub returns-clause-of : goal.returns-clause-of
returns-clause-of g c = (
  c.fetch_max.ensures.0 ∙ ap (λ s. s.id) c.seat.view_is ∙ c.requires.of.0,
  ap (λ v. v.truth) c.fetch_max.ensures.2.1.0 ∙ ap (λ s. s.view.truth) c.seat.view_is ∙ c.requires.of.1,
  ap (λ v. v.joined) c.fetch_max.ensures.2.1.0 ∙ ap (λ s. s.view.joined) c.seat.view_is ∙ c.requires.of.2,
)

pub returns-clause-step : goal.returns-clause-step
returns-clause-step g c = let happened = c.fetch_max.ensures.2.1.0 ∙ ap (λ n. offered (1 + n) c.fetch_max.result c.seat.inside.token.me.0) c.from-mark.ensures ∙ ap (λ s. offered (1 + c.args.quality) c.fetch_max.result s.view) c.seat.view_is in
    record { found = c.fetch_max.result; happened = happened; counted = ap (λ v. v.steps) happened; noted = ap (λ v. v.last) happened }

pub returns-clause-mark : goal.returns-clause-mark
returns-clause-mark g c = let happened = c.fetch_max.ensures.2.1.0 ∙ ap (λ n. offered (1 + n) c.fetch_max.result c.seat.inside.token.me.0) c.from-mark.ensures in
    offered-mark g.T.Truth.size g.T.Truth.entry g.T.Truth.reached c.args.self.now.truth _ c.fetch_max.result c.args.quality
    (ap (λ v. v.joined) happened ∙ ap (λ s. s.view.joined) c.seat.view_is ∙ c.requires.of.2) (ap (λ v. v.floor) happened) (ap (λ v. v.last) happened)

pub returns-clause-floor : goal.returns-clause-floor
returns-clause-floor g c = let is = ap (λ s. s.view.truth) c.seat.view_is ∙ c.requires.of.1 in
    let raised = mark-raised (g.T.Truth.reached c.args.self.now.truth) (max c.fetch_max.result (1 + c.from-mark.result)) c.args.quality (omega (arith, c.from-mark.ensures)) (c.fetch_max.ensures.2.1.1 _ is).0 in
    (raised.0, ap (λ v. v.floor) c.fetch_max.ensures.2.1.0 ∙ raised.1, raised.2, raised.3)

pub returns-clause-kept : goal.returns-clause-kept
returns-clause-kept g c = let is = ap (λ s. s.view.truth) c.seat.view_is ∙ c.requires.of.1 in
    subst (λ f. AtLeast f c.args.seat.now.view.floor) (sym (ap (λ v. v.floor) c.fetch_max.ensures.2.1.0))
    (subst (λ s. AtLeast (quality (max c.fetch_max.result (1 + c.from-mark.result))) s.view.floor) c.seat.view_is (raised-above (g.T.Truth.reached c.args.self.now.truth) c.fetch_max.result (max c.fetch_max.result (1 + c.from-mark.result)) c.seat.inside.token.me.0.floor (omega arith) (c.fetch_max.ensures.2.1.1 _ is).1))

pub returns-clause-still : goal.returns-clause-still
returns-clause-still g c = still-same _ _ _ (ap (λ s. s.view) c.seat.view_is) (ap (λ v. v.seen) c.fetch_max.ensures.2.1.0)
