use Rattle.std.proofs.Common.{◌≡◌, ◌∙◌, sym, true, ap, subst, rules}
use Rattle.craft_state.specs.Craft.{StateFields}
use Rattle.step_rules.specs.Legality.{is_legal}
use Rattle.admissible.proofs.Reached.{first-step}
use Rattle.quality_sweep.specs.Ahead.{IsOpen}
use Rattle.quality_sweep.specs.Sweeping.{Visits}
use Rattle.quality_sweep.proofs.Exploring.{acts_child, child_of}
use Rattle.quality_sweep.proofs.expand.act.Goals as goal

pub visit-requires-clause-child : goal.visit-requires-clause-child
visit-requires-clause-child g c κs within =
    let legal : is_legal c.args.outlook.now.g.now c.args.parent.now.state c.args.action ≡ true = search rules in
    record {
      reachable = child_of c.args.outlook.now.g.now (g.C.Ceiling.allows c.args.outlook.now.ceiling.now) c.args.outlook.now.from.now c.args.parent.now.state c.step-child.result c.args.action c.requires.waits.reachable legal c.step-child.ensures.value;
      within = c.step-child.ensures.within;
      later = ap (λ (s : StateFields). s.effects.first) c.step-child.ensures.value ∙ first-step c.args.outlook.now.g.now c.args.parent.now.state c.args.action;
      allowed = λ here.
          subst (g.C.Ceiling.allows c.args.outlook.now.ceiling.now) (sym c.step-child.ensures.value)
          (c.requires.looks.ceiling.next c.args.parent.now.state c.args.action c.requires.waits.open_state c.requires.waits.allowed legal (subst (IsOpen c.args.outlook.now.g.now) c.step-child.ensures.value here));
    }

pub returns : goal.returns
returns g c =
    let legal : is_legal c.args.outlook.now.g.now c.args.parent.now.state c.args.action ≡ true = search rules in
    acts_child c.args.outlook.now.g.now (g.C.Ceiling.allows c.args.outlook.now.ceiling.now) c.args.outlook.now.from.now c.args.parent.now.state c.args.action c.args.found.now.items c.visit.new.found.items c.args.best c.in_ok-after.after legal
    (subst (λ (s : StateFields). Visits c.args.outlook.now.g.now (g.C.Ceiling.allows c.args.outlook.now.ceiling.now) c.args.outlook.now.from.now s c.args.found.now.items c.visit.new.found.items c.args.best c.in_ok-after.after)
    c.step-child.ensures.value c.in_ok-after.ensures)
