use Rattle.std.proofs.Common.{ℕ, List, ◌≡◌, ◌∙◌, get_or, subst}
use Rattle.priced_moves.specs.Moves.{SeenFields}
use Rattle.priced_graph.specs.Numbers.{AreNumbers, number_or_none}
use Rattle.priced_graph.specs.Sights.{SightsFields, IsNumber, all_sights}
use Rattle.priced_graph.proofs.Listed.{found-at, found-none, found-some}
use Rattle.priced_graph.proofs.numbers.SightNumbers.find.Goals as goal

found : (c d : SightsFields) (x : SeenFields) (numbers : List ℕ) (k n : ℕ) → d ≡ c → AreNumbers d numbers → IsNumber all_sights x k → n ≡ get_or numbers k n → n ≡ number_or_none c x
found c d x numbers k n same are number is =
    is ∙ found-at c x numbers k n (subst (λ (e : SightsFields). AreNumbers e numbers) same are) number

pub returns-then-number : goal.returns-then-number
returns-then-number c =
    let i = c.self.inside in
    found-none c.args.self.now c.args.x.now c.index-number.result.now (subst (λ (e : SightsFields). AreNumbers e i.numbers.items) c.self.view_is c.self.invariant).few
    (found c.args.self.now i.sights c.args.x.now i.numbers.items c.number_in_all.result c.index-number.result.now c.self.view_is c.self.invariant c.number_in_all.ensures c.index-number.ensures)
    c.if-number.true

pub returns-else-number : goal.returns-else-number
returns-else-number c =
    let i = c.self.inside in
    found-some c.args.self.now c.args.x.now c.index-number.result.now
    (found c.args.self.now i.sights c.args.x.now i.numbers.items c.number_in_all.result c.index-number.result.now c.self.view_is c.self.invariant c.number_in_all.ensures c.index-number.ensures)
    c.if-number.false
