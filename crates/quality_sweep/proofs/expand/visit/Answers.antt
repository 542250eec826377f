use Rattle.std.proofs.Common.{◌≡◌, ◌∙◌, sym, ℕ, ap, subst, true, false, Option, Some, List}
use Rattle.step_rules.specs.Legality.{is_complete, is_over}
use Rattle.step_rules.specs.Macro.{counted}
use Rattle.quality_sweep.specs.declared.candidate.Candidate.{Candidate}
use Rattle.quality_sweep.specs.Ahead.{IsOpen, NoBetter, is_above}
use Rattle.quality_sweep.specs.Sweeping.{Visits}
use Rattle.quality_sweep.proofs.Exploring.{visits_better, visits_worse, visits_dead, visits_found}
use Rattle.quality_sweep.proofs.expand.visit.Goals as goal

pub returns-then-is_above : goal.returns-then-is_above
returns-then-is_above g c =
    let full : is_complete c.args.outlook.now.g.now c.args.child.now ≡ true = cc in
    let above : is_above (counted c.args.outlook.now.g.now c.args.child.now) c.args.best ≡ true =
    ap (λ (q : ℕ). is_above q c.args.best) (sym c.counted-quality.ensures) ∙ sym c.is_above.ensures ∙ c.if-is_above.true
    in
    subst (λ (q : ℕ). Visits c.args.outlook.now.g.now (g.C.Ceiling.allows c.args.outlook.now.ceiling.now) c.args.outlook.now.from.now c.args.child.now c.args.found.now.items c.args.found.now.items c.args.best (Some q)) (sym c.counted-quality.ensures)
    (visits_better c.args.outlook.now.g.now (g.C.Ceiling.allows c.args.outlook.now.ceiling.now) c.args.outlook.now.from.now c.args.child.now c.args.found.now.items c.args.best c.requires.child.reachable full above)

pub returns-then-is_complete : goal.returns-then-is_complete
returns-then-is_complete g c =
    let full : is_complete c.args.outlook.now.g.now c.args.child.now ≡ true = cc in
    let cut : is_above (counted c.args.outlook.now.g.now c.args.child.now) c.args.best ≡ false =
    ap (λ (q : ℕ). is_above q c.args.best) (sym c.counted-quality.ensures) ∙ sym c.is_above.ensures ∙ c.if-is_above.false
    in
    visits_worse c.args.outlook.now.g.now (g.C.Ceiling.allows c.args.outlook.now.ceiling.now) c.args.outlook.now.from.now c.args.child.now c.args.found.now.items c.args.best full cut

pub returns-then-is_final : goal.returns-then-is_final
returns-then-is_final g c =
    let over : is_over c.args.outlook.now.g.now c.args.child.now ≡ true = cc in
    let part : is_complete c.args.outlook.now.g.now c.args.child.now ≡ false = cc in
    visits_dead c.args.outlook.now.g.now (g.C.Ceiling.allows c.args.outlook.now.ceiling.now) c.args.outlook.now.from.now c.args.child.now c.args.found.now.items c.args.best over part

pub returns : goal.returns
returns g c =
    let live : is_over c.args.outlook.now.g.now c.args.child.now ≡ false = cc in
    let here : IsOpen c.args.outlook.now.g.now c.args.child.now = record { within = c.requires.child.within; live = live } in
    let none : NoBetter c.args.outlook.now.g.now c.args.child.now (Some c.in-Some.limit) =
    subst (λ (o : Option ℕ). NoBetter c.args.outlook.now.g.now c.args.child.now o) (sym c.in-Some.ensures)
    (c.requires.looks.ceiling.most c.args.child.now here (c.requires.child.allowed here) c.requires.child.later)
    in
    subst (λ (l : List Candidate). Visits c.args.outlook.now.g.now (g.C.Ceiling.allows c.args.outlook.now.ceiling.now) c.args.outlook.now.from.now c.args.child.now c.args.found.now.items l c.args.best c.args.best) (sym c.in_ok-push.ensures.items)
    (visits_found c.args.outlook.now.g.now (g.C.Ceiling.allows c.args.outlook.now.ceiling.now) c.args.outlook.now.from.now c.args.child.now c.in-Some.limit c.rank.result c.args.found.now.items c.args.best c.requires.child live none)
