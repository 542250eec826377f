use Rattle.std.proofs.Common.{false, ◌≡◌, ◌≤◌, ◌∙◌, sym, subst, arith}
use Rattle.priced_graph.specs.Sights.{SightsFields, IsNumber, is_seen_in, sights_of}
use Rattle.priced_bound.specs.Bounds.{BoundFields}
use Rattle.priced_bound.specs.Reckoned.{AreReckoned}
use Rattle.priced_bound.proofs.Told.{place-of, untold-sight}
use Rattle.priced_bound.proofs.bound.PricedBound.place.Goals as goal

pub returns-in-Some : goal.returns-in-Some
returns-in-Some c =
    let s = c.args.s.now in
    let x = c.seen-seen.result in
    place-of c.args.self.now s c.args.left (record { budget = c.budget-budget.result; node = c.in-Some.node; seen = x })
    (subst (λ (b : BoundFields). AreReckoned b.by) c.self.view_is c.self.invariant.reckoned)
    c.budget-budget.ensures
    c.seen-seen.ensures
    (sym c.is_first.ensures ∙ c.if-is_first.false)
    (omega arith)
    (subst (λ (b : BoundFields). c.budget-budget.result ≤ b.top) c.self.view_is c.if-budget-self.false)
    (subst (λ (b : BoundFields). IsNumber (sights_of b.by.g) x c.in-Some.node) c.self.view_is
    (subst (λ (d : SightsFields). IsNumber d x c.in-Some.node) c.self.invariant.sights c.in-Some.ensures))

pub returns-in-None : goal.returns-in-None
returns-in-None c =
    let x = c.seen-seen.result in
    untold-sight c.args.self.now c.args.s.now c.args.left x c.seen-seen.ensures
    (subst (λ (b : BoundFields). is_seen_in (sights_of b.by.g) x ≡ false) c.self.view_is
    (subst (λ (d : SightsFields). is_seen_in d x ≡ false) c.self.invariant.sights c.in-None.ensures))
