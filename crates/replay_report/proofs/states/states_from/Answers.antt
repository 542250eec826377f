use Rattle.std.proofs.Common.{◌≡◌, ◌<◌, ◌+◌, ◌∷◌, ◌∙◌, [], List, Some, refl, ap, subst, sym, arith, length, length-append, rules, take}
use Rattle.craft_state.specs.Craft.{StateFields}
use Rattle.step_rules.specs.Run.{run_of}
use Rattle.step_rules.proofs.Runs.{run_of-take}
use Rattle.replay_report.proofs.Along.{AreStatesTo, first_state, states_more}
use Rattle.replay_report.proofs.Turns.{next_of_run}
use Rattle.replay_report.proofs.states.states_from.Goals as goal

pub step-state-requires-clause-legal : goal.step-state-requires-clause-legal
step-state-requires-clause-legal c =
    next_of_run c.args.g.now c.args.from.now c.loop-action.state c.args.actions.now c.loop-action.action-index _ c.loop-action-test.true c.requires.legal c.loop-action.invariant.ran

pub loop-action-init : goal.loop-action-init
loop-action-init c =
    let items : c.push.new.self.items ≡ c.args.from.now ∷ [] = search rules in
    record {
      within = c.requires.within;
      ran = refl;
      as_many = ap length items;
      each = first_state c.args.g.now c.args.from.now c.args.actions.now c.push.new.self.items items;
    }

pub loop-action-preserved : goal.loop-action-preserved
loop-action-preserved c =
    let g = c.args.g.now in
    let from = c.args.from.now in
    let actions = c.args.actions.now in
    let place = c.loop-action.action-index in
    let inside : place < length actions = omega (arith, c.loop-action-test.true) in
    let legal = next_of_run g from c.loop-action.state actions place _ inside c.requires.legal c.loop-action.invariant.ran in
    let ran : run_of g from (take (place + 1) actions) ≡ Some c.step-state.result = rw c.step-state.ensures.value (run_of-take _ _ _ _ _ _ inside c.loop-action.invariant.ran legal) in
    let items = c.in_ok-push-2.ensures.items in
    record {
      within = c.step-state.ensures.within;
      ran = ran;
      as_many = ap length items ∙ length-append c.loop-action.states.items (c.step-state.result ∷ []) ∙ ap (λ n. n + 1) c.loop-action.invariant.as_many;
      each = subst (λ (s : List StateFields). AreStatesTo g from actions (place + 1) s) (sym items)
          (states_more g from actions place c.loop-action.states.items c.step-state.result c.loop-action.invariant.as_many c.loop-action.invariant.each ran);
    }
