use Rattle.std.proofs.Common.{◌≡◌, ℕ, ◌+◌, ◌-◌, ◌<◌, ◌≤◌, Some, length, take, arith, subst}
use Rattle.step_rules.specs.Legality.{start_of}
use Rattle.step_rules.specs.Run.{run_of}
use Rattle.step_rules.proofs.Runs.{length-macro, next_legal}
use Rattle.admissible.proofs.Reached.{potential-reached}
use Rattle.level_search.proofs.Crafts.{aim-settings}
use Rattle.level_search.specs.Laws.{later_searches}
use Rattle.level_search.proofs.Ways.{next_ran, seen_more}
use Rattle.level_search.proofs.ask_way.Goals as goal

pub step-state-requires-clause-legal : goal.step-state-requires-clause-legal
step-state-requires-clause-legal c =
    let inside : c.loop-k.k - 1 < length c.args.actions.now = omega (arith, c.loop-k-test.true) in
    next_legal c.args.aim.now.g.now c.loop-k.state c.args.actions.now (c.loop-k.k - 1) _ inside c.requires.complete c.loop-k.invariant.ran

pub overflow_cast-actions : goal.overflow_cast-actions
overflow_cast-actions c = omega (arith, length-macro c.args.aim.now.g.now c.requires.complete.last c.args.actions.now (aim-settings c.args.aim.now) c.requires.complete.ran)

pub ask-requires-clause-potential : goal.ask-requires-clause-potential
ask-requires-clause-potential c =
    let g = c.args.aim.now.g.now in
    let some : 1 ≤ c.loop-k.k = omega arith in
    let ran = next_ran g c.loop-k.state c.step-state.result c.args.actions.now c.loop-k.k _ some c.loop-k-test.true c.requires.complete c.loop-k.invariant.ran c.step-state.ensures.value in
    potential-reached g c.step-state.result (take c.loop-k.k c.args.actions.now) (aim-settings c.args.aim.now) ran

pub loop-k-preserved : goal.loop-k-preserved
loop-k-preserved c =
    let g = c.args.aim.now.g.now in
    let actions = c.args.actions.now in
    let k = c.loop-k.k in
    let some : 1 ≤ k = omega arith in
    let down : k ≡ k + 1 - 1 = omega arith in
    let ran = next_ran g c.loop-k.state c.step-state.result actions k _ some c.loop-k-test.true c.requires.complete c.loop-k.invariant.ran c.step-state.ensures.value in
    record {
      within = c.step-state.ensures.within;
      ran = subst (λ (j : ℕ). run_of g (start_of g) (take j actions) ≡ Some c.step-state.result) down ran;
      of = c.ask.ensures.of;
      still = later_searches _ _ _ c.loop-k.invariant.still c.ask.ensures.still;
      seen = seen_more g c.args.aim.now.grain actions k c.step-state.result c.loop-k.searcher c.ask.new.searcher ran c.ask.ensures.still c.ask.ensures.seen c.loop-k.invariant.seen;
    }
