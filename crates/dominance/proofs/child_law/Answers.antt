use Rattle.craft_state.specs.NotLess.{IsNotLess}
use Rattle.step_rules.specs.Step.{step_of}
use Rattle.dominance.proofs.Children.{also_live, is_legal-not_less, IsNotLess-step}
use Rattle.dominance.proofs.Finishing.{finishes-not_less}
use Rattle.dominance.proofs.child_law.Goals as goal

pub step-requires-clause-legal : goal.step-requires-clause-legal
step-requires-clause-legal c = is_legal-not_less _ _ _ _ c.requires.not_less c.requires.legal

pub returns-clause-legal : goal.returns-clause-legal
returns-clause-legal c = is_legal-not_less _ _ _ _ c.requires.not_less c.requires.legal

pub returns-clause-live : goal.returns-clause-live
returns-clause-live c = rw (c.step.ensures.value, c.step-2.ensures.value) (λ live.
    let g = c.args.g.now in
    let a = step_of g c.args.a.now c.args.action in
    let b = step_of g c.args.b.now c.args.action in
    let next : IsNotLess a b = IsNotLess-step _ _ _ _ c.requires.not_less live in
    (also_live g a b next live, next))

pub returns-clause-complete : goal.returns-clause-complete
returns-clause-complete c = rw (c.step.ensures.value, c.step-2.ensures.value) (λ full.
    let finished = finishes-not_less _ _ _ _ c.requires.not_less full in
    (finished.complete, finished.quality))
