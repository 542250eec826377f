use Rattle.std.proofs.Common.{◌∙◌, sym}
use Rattle.stat_sweep.proofs.Small.{best_of_three}
use Rattle.stat_sweep.proofs.tests.is_best.Goals as goal
use Rattle.plain_lemmas.proofs.Tests.{not_true}

pub returns : goal.returns
returns c = λ free.
    best_of_three c.args.g.now c.args.actions.now c.in-Some.own c.requires.level c.requires.durability c.requires.progress (sym c.in-Some.ensures)
    (λ b scored. c.is_beaten-by_once.ensures b scored ∙ c.if-by_once.false)
    (λ b scored. c.is_beaten-by_twice.ensures b scored ∙ c.if-by_twice.false)
    (λ b scored. c.is_beaten-by_touched.ensures b scored ∙ not_true _ free)
