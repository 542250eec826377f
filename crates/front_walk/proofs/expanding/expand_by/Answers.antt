use Rattle.std.proofs.Common.{◌∙◌, sym, arith, ap, refl}
use Rattle.pareto_front.specs.Covers.{uncovered}
use Rattle.front_walk.specs.Nodes.{goes_and_passes}
use Rattle.front_walk.proofs.Collected.{nodes_upto-none, nodes_upto-all}
use Rattle.front_walk.proofs.Joined.{stills-same, stills-later}
use Rattle.front_walk.proofs.Turns.{uncovered-none}
use Rattle.front_walk.proofs.expanding.expand_by.Goals as goal

pub loop-from-init : goal.loop-from-init
loop-from-init g c =
    let laws = g.met.T.StateTest g.world.𝓛 g.world.𝓜 g.world.𝓡 ((λ s x. x), (λ x. x), (λ x. x), λ x. x) in
    let w = c.args.stage.now.walk.now in
    let test = goes_and_passes w.g.now (g.T.StateTest.passes w.test.now) c.args.stage.now.left in
    record {
      askers = c.requires.askers;
      still = stills-same _ laws.same_asks c.args.crew.now.workers;
      inside = omega arith;
      kept = c.new-kept.ensures.items ∙ sym (ap uncovered (nodes_upto-none w.g.now test c.args.stage.now.nodes.now 0 refl) ∙ uncovered-none);
    }

pub loop-from-preserved : goal.loop-from-preserved
loop-from-preserved g c =
    let laws = g.met.T.StateTest g.world.𝓛 g.world.𝓜 g.world.𝓡 ((λ s x. x), (λ x. x), (λ x. x), λ x. x) in
    record {
      askers = c.in_ok-kept.ensures.askers;
      still = stills-later _ laws.later_asks _ _ _ c.loop-from.invariant.still c.in_ok-kept.ensures.still;
      inside = omega (arith, c.min.ensures, c.loop-from.invariant.inside);
      kept = c.in_ok-kept.ensures.kept;
    }

pub returns-clause-kept : goal.returns-clause-kept
returns-clause-kept g c =
    let w = c.args.stage.now.walk.now in
    let test = goes_and_passes w.g.now (g.T.StateTest.passes w.test.now) c.args.stage.now.left in
    c.loop-from.invariant.kept ∙ ap uncovered (nodes_upto-all w.g.now test c.args.stage.now.nodes.now c.loop-from.from c.loop-from-test.false)

pub returns-in_err-kept-clause-still : goal.returns-in_err-kept-clause-still
returns-in_err-kept-clause-still g c =
    let laws = g.met.T.StateTest g.world.𝓛 g.world.𝓜 g.world.𝓡 ((λ s x. x), (λ x. x), (λ x. x), λ x. x) in
    stills-later _ laws.later_asks _ _ _ c.loop-from.invariant.still c.in_err-kept.ensures.still
