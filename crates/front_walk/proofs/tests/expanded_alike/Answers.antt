use Rattle.std.proofs.Common.{◌∙◌, ◌-◌, true, arith, refl}
use Rattle.front_walk.specs.Passing.{lets}
use Rattle.front_walk.proofs.Leading.{walk-nodes}
use Rattle.front_walk.proofs.Passing.{lets_limits}
use Rattle.front_walk.proofs.tests.expanded_alike.Goals as goal

pub invariant_of-stage : goal.invariant_of-stage
invariant_of-stage g c =
    let test = c.args.test.now in
    record {
      all = walk-nodes test.settings test.settings c.in-Some.from 0 (lets test.settings test.all) (λ _. true) c.args.n (c.args.n - 1) c.deref.result.now refl (λ s action within allowed goes. refl)
          (record { within = c.in-Some.ensures.within; live = c.in-Some.ensures.live }) (lets_limits test.settings test.all 0) refl (omega (arith, c.requires.some))
          (c.deref.ensures.value ∙ c.in_ok-levels.ensures.level.nodes_are);
    }
