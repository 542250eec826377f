use Rattle.std.proofs.Common.{ℕ, ◌≡◌, ◌<◌, ◌-◌, false, get_or, sym, subst, arith, min}
use Rattle.walk_table.specs.Tables.{TableFields}
use Rattle.walk_table.specs.Tops.{word_of, IsTop}
use Rattle.walk_table.specs.Walks.{is_able, IsMostWorth}
use Rattle.walk_table.proofs.Attained.{none_able, most_worth}
use Rattle.walk_table.proofs.table.WalkTable.at.Goals as goal
use Rattle.walk_table.proofs.table.WalkTable.at.Goals.{After-column}

top : (c : After-column) → IsTop (word_of c.self.inside.filled.graph c.args.budget c.args.node c.args.need) (get_or c.column.result.now c.args.need 0)
top c =
    let need : c.args.need < c.self.inside.filled.needs = subst (λ (t : TableFields). c.args.need < t.needs) (sym c.self.view_is) c.requires.need in
    c.column.ensures.right.at c.args.need (omega (arith, c.column.ensures.long))

pub returns-then-word-eq0 : goal.returns-then-word-eq0
returns-then-word-eq0 c walk =
    let g = c.self.inside.filled.graph in
    subst (λ (t : TableFields). is_able t.graph c.args.budget c.args.node c.args.need walk ≡ false) c.self.view_is
    (none_able g c.args.budget c.args.node c.args.need (subst (λ (v : ℕ). IsTop (word_of g c.args.budget c.args.node c.args.need) v) c.if-word-eq0.true (top (goal.at.returns-then-word-eq0 c).After-column)) walk)

pub returns-else-word-eq0 : goal.returns-else-word-eq0
returns-else-word-eq0 c =
    let i = c.self.inside in
    let least : c.min.result ≡ min i.most (get_or c.column.result.now c.args.need 0 - 1) = omega (arith, c.min.ensures) in
    subst (λ (t : TableFields). IsMostWorth t.graph t.most c.args.budget c.args.node c.args.need c.min.result) c.self.view_is
    (most_worth i.filled.graph i.most c.args.budget c.args.node c.args.need (get_or c.column.result.now c.args.need 0) c.min.result c.column.ensures.graph c.self.invariant.cut
    (top (goal.at.returns-else-word-eq0 c).After-column) c.if-word-eq0.false least)
