use Rattle.std.proofs.Common.{rules, arith, sym, ap, ◌∙◌, subst}
use Rattle.race_core.proofs.Kept.{mark-below}
use Rattle.race_core.specs.Codes.{quality}
use Rattle.race_core.specs.Events.{looked}
use Rattle.seat_tables.specs.Seats.{AtLeast}
use Rattle.seat_tables.proofs.Keeps.{may-look, key-is, mark-above, empty-mark, mark-is, mark-reached, floor-looked}
use Rattle.seat_tables.proofs.Stills.{still-same}
use Rattle.seat_tables.proofs.shared.Shared.see.Goals as goal

pub load-mark-requires : goal.load-mark-requires
load-mark-requires g c = (search rules, omega (arith, c.self.invariant.1), may-look g.T.Truth.size g.T.Truth.entry g.T.Truth.reached c.self.inside.table.shared.key _ _ _ (key-is c.self.inside.table.shared.key c.self.inside.truth c.args.self.now.truth c.seat.inside.token.me.0.truth c.args.seat.now.view.truth c.self.invariant.0 (ap (λ b. b.truth) c.self.view_is) (ap (λ s. s.view.truth) c.seat.view_is) c.requires.1) (ap (λ s. s.view.joined) c.seat.view_is ∙ c.requires.2))

pub quality_of_mark-requires : goal.quality_of_mark-requires
quality_of_mark-requires g c = let is = ap (λ s. s.view.truth) c.seat.view_is ∙ c.requires.1 in mark-below _ _ ((g.met.T.Truth g.world.𝓛 g.world.𝓜 g.world.𝓡 ((λ s x. x), (λ x. x), (λ x. x), λ x. x)).reached_fits c.args.self.now.truth) (c.load-mark.ensures.2.1.1 _ is).0

pub returns-clause-of : goal.returns-clause-of
returns-clause-of g c = (
  c.load-mark.ensures.0 ∙ ap (λ s. s.id) c.seat.view_is ∙ c.requires.0,
  ap (λ v. v.truth) c.load-mark.ensures.2.1.0 ∙ ap (λ s. s.view.truth) c.seat.view_is ∙ c.requires.1,
  ap (λ v. v.joined) c.load-mark.ensures.2.1.0 ∙ ap (λ s. s.view.joined) c.seat.view_is ∙ c.requires.2,
)

pub returns-clause-step : goal.returns-clause-step
returns-clause-step g c = let happened = c.load-mark.ensures.2.1.0 ∙ ap (λ s. looked c.load-mark.result s.view) c.seat.view_is in
    record { found = c.load-mark.result; happened = happened; counted = ap (λ v. v.steps) happened; noted = ap (λ v. v.last) happened }

pub returns-clause-empty : goal.returns-clause-empty
returns-clause-empty g c = empty-mark c.load-mark.result _ _ c.quality_of_mark.ensures (ap (λ v. v.last) c.load-mark.ensures.2.1.0)

pub returns-clause-word : goal.returns-clause-word
returns-clause-word g c = mark-is c.load-mark.result _ _ c.quality_of_mark.ensures (ap (λ v. v.last) c.load-mark.ensures.2.1.0)

pub returns-clause-reached : goal.returns-clause-reached
returns-clause-reached g c = let is = ap (λ s. s.view.truth) c.seat.view_is ∙ c.requires.1 in mark-reached (g.T.Truth.reached c.args.self.now.truth) c.load-mark.result _ c.quality_of_mark.ensures (c.load-mark.ensures.2.1.1 _ is).0

pub returns-clause-kept : goal.returns-clause-kept
returns-clause-kept g c = let is = ap (λ s. s.view.truth) c.seat.view_is ∙ c.requires.1 in
    rw c.quality_of_mark.ensures (subst (λ s. AtLeast (quality c.load-mark.result) s.view.floor) c.seat.view_is (mark-above (g.T.Truth.reached c.args.self.now.truth) _ _ (c.load-mark.ensures.2.1.1 _ is).1))

pub returns-clause-floor : goal.returns-clause-floor
returns-clause-floor g c = let is = ap (λ s. s.view.truth) c.seat.view_is ∙ c.requires.1 in ap (λ v. v.floor) c.load-mark.ensures.2.1.0 ∙ floor-looked (g.T.Truth.reached c.args.self.now.truth) c.load-mark.result c.seat.inside.token.me.0.floor (c.load-mark.ensures.2.1.1 _ is).1 ∙ sym c.quality_of_mark.ensures

pub returns-clause-still : goal.returns-clause-still
returns-clause-still g c = still-same _ _ _ (ap (λ s. s.view) c.seat.view_is) (ap (λ v. v.seen) c.load-mark.ensures.2.1.0)
