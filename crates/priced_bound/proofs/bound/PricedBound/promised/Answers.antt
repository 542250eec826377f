use Rattle.std.proofs.Common.{ℕ, Option, Some, ◌∙◌, ◌+◌, ◌*◌, min, ap, sym}
use Rattle.priced_bound.specs.Bounds.{BoundFields, promise_of}
use Rattle.priced_bound.specs.declared.reckoning.TheConstants.{MOST_PROMISE}
use Rattle.priced_bound.proofs.bound.PricedBound.promised.Goals as goal

pub returns-in-Some : goal.returns-in-Some
returns-in-Some c =
    let b = c.args.self.now in
    let s = c.args.s.now in
    ap (λ (n : ℕ). Some n) (c.raised.ensures ∙ ap (λ (h : BoundFields). min MOST_PROMISE (s.quality + h.by.units.quality * c.in-Some.gain)) c.self.view_is)
    ∙ ap (λ (o : Option ℕ). promise_of b.by s o) (sym c.in-Some.is ∙ c.gain.ensures)

pub returns-in-None : goal.returns-in-None
returns-in-None c =
    let b = c.args.self.now in
    ap (λ (o : Option ℕ). promise_of b.by c.args.s.now o) (sym c.in-None.is ∙ c.gain.ensures)
