use Rattle.std.proofs.Common.{ℕ, Option, Some, ◌∙◌, min, ap, sym, subst}
use Rattle.std.specs.Option.{option_map}
use Rattle.craft_settings.specs.Rules.{cap_of}
use Rattle.priced_bound.specs.Bounds.{BoundFields}
use Rattle.priced_bound.specs.Reckoned.{AreReckoned}
use Rattle.priced_bound.proofs.Told.{limit-promise}
use Rattle.priced_bound.proofs.bound.PricedBound.limit.Goals as goal

pub returns-in-Some : goal.returns-in-Some
returns-in-Some c =
    let b = c.args.self.now in
    let are : AreReckoned b.by = subst (λ (h : BoundFields). AreReckoned h.by) c.self.view_is c.self.invariant.reckoned in
    ap (λ (n : ℕ). Some n) (c.cut.ensures ∙ ap (λ (h : BoundFields). min (cap_of h.by.g) c.in-Some.most) c.self.view_is)
    ∙ ap (λ (o : Option ℕ). option_map (λ n. min (cap_of b.by.g) n) o) (sym c.in-Some.is ∙ c.promise.ensures)
    ∙ sym (limit-promise b c.args.s.now c.args.left are)

pub returns-in-None : goal.returns-in-None
returns-in-None c =
    let b = c.args.self.now in
    let are : AreReckoned b.by = subst (λ (h : BoundFields). AreReckoned h.by) c.self.view_is c.self.invariant.reckoned in
    ap (λ (o : Option ℕ). option_map (λ n. min (cap_of b.by.g) n) o) (sym c.in-None.is ∙ c.promise.ensures)
    ∙ sym (limit-promise b c.args.s.now c.args.left are)
