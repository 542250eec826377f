use Rattle.std.proofs.Common.{rules, arith, ◌<◌, [], ◌∷◌, sym, ap, ◌∙◌, subst, refl, Contains}
use Rattle.race_core.specs.Codes.{code}
use Rattle.race_core.specs.Events.{filled}
use Rattle.seat_tables.proofs.Keeps.{may-put, contains-last, key-is, seen-word}
use Rattle.seat_tables.proofs.Stills.{still-longer}
use Rattle.seat_tables.proofs.shared.Shared.put.Goals as goal

pub compare_exchange-requires : goal.compare_exchange-requires
compare_exchange-requires g c = let same = ap (λ b. b.truth) c.self.view_is in let lt : c.args.index < g.T.Truth.size c.self.inside.truth = subst (λ t. c.args.index < g.T.Truth.size t) (sym same) c.requires.inside in
    let at_key = subst (λ t. c.args.index < g.T.Truth.size t) (sym c.self.invariant.0) lt in (
      search rules,
      omega (arith, lt, c.self.invariant.1),
      may-put g.T.Truth.size g.T.Truth.entry g.T.Truth.reached c.self.inside.table.shared.key _ _ _ (key-is c.self.inside.table.shared.key c.self.inside.truth c.args.self.now.truth c.seat.inside.token.me.0.truth c.args.seat.now.view.truth c.self.invariant.0 (ap (λ b. b.truth) c.self.view_is) (ap (λ s. s.view.truth) c.seat.view_is) c.requires.of.1) (ap (λ s. s.view.joined) c.seat.view_is ∙ c.requires.of.2) c.args.index c.to_word-new.result at_key
          (c.to_word-new.ensures ∙ ap code c.requires.entry ∙ ap (λ t. code (g.T.Truth.entry t c.args.index)) (sym (c.self.invariant.0 ∙ ap (λ b. b.truth) c.self.view_is))),
    )

pub returns-clause-of : goal.returns-clause-of
returns-clause-of g c = (
  c.compare_exchange.ensures.0 ∙ ap (λ s. s.id) c.seat.view_is ∙ c.requires.of.0,
  ap (λ v. v.truth) (c.compare_exchange.ensures.2.1 c.args.index refl) ∙ ap (λ s. s.view.truth) c.seat.view_is ∙ c.requires.of.1,
  ap (λ v. v.joined) (c.compare_exchange.ensures.2.1 c.args.index refl) ∙ ap (λ s. s.view.joined) c.seat.view_is ∙ c.requires.of.2,
)

pub returns-clause-step : goal.returns-clause-step
returns-clause-step g c = let happened = (c.compare_exchange.ensures.2.1 c.args.index refl) ∙ ap (λ s. filled c.args.index c.compare_exchange.result s.view) c.seat.view_is in
    record { found = c.compare_exchange.result; happened = happened; counted = ap (λ v. v.steps) happened; noted = ap (λ v. v.last) happened }

pub returns-clause-word : goal.returns-clause-word
returns-clause-word g c = seen-word g.T.Truth.size g.T.Truth.entry g.T.Truth.reached c.args.self.now.truth _ c.args.index c.args.entry c.requires.inside
    (ap (λ v. v.joined) (c.compare_exchange.ensures.2.1 c.args.index refl) ∙ ap (λ s. s.view.joined) c.seat.view_is ∙ c.requires.of.2)
    (subst (λ v. Contains v.seen c.args.index) (sym (c.compare_exchange.ensures.2.1 c.args.index refl)) (contains-last c.seat.inside.token.me.0.seen c.args.index))
    c.requires.entry

pub returns-clause-seen : goal.returns-clause-seen
returns-clause-seen g c = subst (λ v. Contains v.seen c.args.index) (sym (c.compare_exchange.ensures.2.1 c.args.index refl)) (contains-last c.seat.inside.token.me.0.seen c.args.index)

pub returns-clause-still : goal.returns-clause-still
returns-clause-still g c = still-longer (c.args.index ∷ []) _ _ _ (ap (λ s. s.view) c.seat.view_is) (ap (λ v. v.seen) (c.compare_exchange.ensures.2.1 c.args.index refl))

pub returns-clause-floor : goal.returns-clause-floor
returns-clause-floor g c = ap (λ v. v.floor) (c.compare_exchange.ensures.2.1 c.args.index refl) ∙ ap (λ s. s.view.floor) c.seat.view_is
