use Rattle.std.proofs.Common.{rules, arith, ◌+◌, ◌<◌, sym, ap, ◌∙◌, subst, refl, Contains}
use Rattle.race_core.specs.Events.{found, loaded}
use Rattle.seat_tables.proofs.Keeps.{may-load, word-fits, answered, empty-word, word-is, answer-seen, key-is}
use Rattle.seat_tables.proofs.Stills.{still-longer}
use Rattle.seat_tables.proofs.shared.Shared.load.Goals as goal

pub load-word-requires : goal.load-word-requires
load-word-requires g c = let same = ap (λ b. b.truth) c.self.view_is in let lt : c.args.index < g.T.Truth.size c.self.inside.truth = subst (λ t. c.args.index < g.T.Truth.size t) (sym same) c.requires.inside in
    let at_key = subst (λ t. c.args.index < g.T.Truth.size t) (sym c.self.invariant.0) lt in
    (search rules, omega (arith, lt, c.self.invariant.1), may-load g.T.Truth.size g.T.Truth.entry g.T.Truth.reached c.self.inside.table.shared.key _ _ _ (key-is c.self.inside.table.shared.key c.self.inside.truth c.args.self.now.truth c.seat.inside.token.me.0.truth c.args.seat.now.view.truth c.self.invariant.0 (ap (λ b. b.truth) c.self.view_is) (ap (λ s. s.view.truth) c.seat.view_is) c.requires.of.1) (ap (λ s. s.view.joined) c.seat.view_is ∙ c.requires.of.2) c.args.index at_key)

pub from_word-requires : goal.from_word-requires
from_word-requires g c = let is = ap (λ s. s.view.truth) c.seat.view_is ∙ c.requires.of.1 in
    word-fits _ _ ((g.met.T.Truth g.world.𝓛 g.world.𝓜 g.world.𝓡 ((λ s x. x), (λ x. x), (λ x. x), λ x. x)).entry_fits c.args.self.now.truth c.args.index c.requires.inside) ((c.load-word.ensures.2.1 c.args.index refl).1 _ is)

pub returns-clause-of : goal.returns-clause-of
returns-clause-of g c = (
  c.load-word.ensures.0 ∙ ap (λ s. s.id) c.seat.view_is ∙ c.requires.of.0,
  ap (λ v. v.truth) (c.load-word.ensures.2.1 c.args.index refl).0 ∙ ap (λ s. s.view.truth) c.seat.view_is ∙ c.requires.of.1,
  ap (λ v. v.joined) (c.load-word.ensures.2.1 c.args.index refl).0 ∙ ap (λ s. s.view.joined) c.seat.view_is ∙ c.requires.of.2,
)

pub returns-clause-step : goal.returns-clause-step
returns-clause-step g c = let happened = (c.load-word.ensures.2.1 c.args.index refl).0 ∙ ap (λ s. loaded c.args.index c.load-word.result s.view) c.seat.view_is in
    record { found = c.load-word.result; happened = happened; counted = ap (λ v. v.steps) happened; noted = ap (λ v. v.last) happened }

pub returns-clause-empty : goal.returns-clause-empty
returns-clause-empty g c = empty-word c.from_word.result (c.args.index + 1) c.load-word.result _ c.from_word.ensures (ap (λ v. v.last) (c.load-word.ensures.2.1 c.args.index refl).0)

pub returns-clause-word : goal.returns-clause-word
returns-clause-word g c = word-is c.from_word.result (c.args.index + 1) c.load-word.result _ c.from_word.ensures (ap (λ v. v.last) (c.load-word.ensures.2.1 c.args.index refl).0)

pub returns-clause-seen : goal.returns-clause-seen
returns-clause-seen g c = let is = ap (λ s. s.view.truth) c.seat.view_is ∙ c.requires.of.1 in
    answer-seen _ _ c.args.index c.load-word.result c.seat.inside.token.me.0 c.load-word.new.seat.me.0 (c.load-word.ensures.2.1 c.args.index refl).0 c.from_word.ensures ((c.load-word.ensures.2.1 c.args.index refl).1 _ is)

pub returns-clause-kept : goal.returns-clause-kept
returns-clause-kept g c = λ has. answered c.from_word.result c.load-word.result c.from_word.ensures ((c.load-word.ensures.2.1 c.args.index refl).2 (subst (λ s. Contains s.view.seen c.args.index) (sym c.seat.view_is) has))

pub returns-clause-still : goal.returns-clause-still
returns-clause-still g c = still-longer (found c.args.index c.load-word.result) _ _ _ (ap (λ s. s.view) c.seat.view_is) (ap (λ v. v.seen) (c.load-word.ensures.2.1 c.args.index refl).0)

pub returns-clause-floor : goal.returns-clause-floor
returns-clause-floor g c = ap (λ v. v.floor) (c.load-word.ensures.2.1 c.args.index refl).0 ∙ ap (λ s. s.view.floor) c.seat.view_is
