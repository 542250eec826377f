use Rattle.std.proofs.Common.{rules, ◌≡◌, ℕ, true, false, refl, ap, sym, ◌∙◌, ◌-◌, subst}
use Rattle.relaxed_moves.specs.Columns.{at_bucket}
use Rattle.relaxed_moves.specs.Moves.{RelaxedFields, AreRelaxed}
use Rattle.table_bound.specs.Columns.{LeadsDown}
use Rattle.table_bound.proofs.Moving.{turn_none, turn_some, raised}
use Rattle.table_bound.proofs.turns.turn_by.Goals as goal

pub returns-then-not-is_move-clause-turn : goal.returns-then-not-is_move-clause-turn
returns-then-not-is_move-clause-turn g c =
    let no : c.is_move.result ≡ false = search rules in
    turn_none (g.T.Bound.rules c.args.truth.now) c.args.column.now.budget c.args.column.now.x c.args.action c.settings-g.result.now c.args.column.now.x.bucket c.args.column.now.x c.is_move.result
    c.settings-g.ensures refl c.is_move.ensures.value no

pub returns-clause-turn : goal.returns-clause-turn
returns-clause-turn g c =
    let truth = c.args.truth.now in
    let r = g.T.Bound.rules truth in
    let x = c.args.column.now.x in
    let budget = c.args.column.now.budget in
    let laws = g.met.T.Bound g.world.𝓛 g.world.𝓜 g.world.𝓡 ((λ s x. x), (λ x. x), (λ x. x), λ x. x) in
    let yes : c.is_move.result ≡ true = search rules in
    let gain = c.move_gain.result in
    let down = c.grain-grain.result - c.next.inside.bucket in
    let next = c.move_on_by-next.result in
    let rest : budget - c.price-price.result ≡ c.column_of.result.budget = sym c.column_of.ensures.budget in
    subst (λ (y : RelaxedFields). LeadsDown r budget x c.args.action c.column_of.result.budget gain down y) (sym c.column_of.ensures.x)
    (raised r budget x c.args.action c.column_of.result.budget gain down next
    (subst (λ (n : ℕ). LeadsDown r budget x c.args.action n gain down next) rest
    (turn_some r budget x c.args.action c.settings-g.result.now c.grain-grain.result x c.is_move.result
    c.price-price.result gain next c.next.inside.bucket (laws.rules_hold truth) (subst AreRelaxed c.next.view_is c.next.invariant)
    c.settings-g.ensures c.grain-grain.ensures.value
    (ap (λ (n : ℕ). at_bucket x n) (c.requires.column.top ∙ sym c.grain-grain.ensures.value)) c.is_move.ensures.value yes
    c.price-price.ensures.value
    c.price-price.ensures.low c.if-column-price.false
    c.move_gain.ensures.value c.move_gain.ensures.range c.move_on_by-next.ensures.value (ap (λ y. y.bucket) c.next.view_is))))
