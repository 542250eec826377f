use Rattle.std.proofs.Common.{◌*◌, ◌∙◌}
use Rattle.action_table.proofs.Names.{number_at}
use Rattle.priced_moves.proofs.Trying.{led-tried, led-all, some-by}
use Rattle.priced_moves.proofs.bound.+trying.Goals as goal

pub best-loop-action-preserved : goal.best-loop-action-preserved
best-loop-action-preserved t c =
    let n = c.loop-action.action-index in (
      led-tried c.args.terms.now.prices c.args.terms.now.settings c.args.terms.now.units c.args.budget c.args.x.now _ n c.loop-action.most _ _
          (number_at n _ c.loop-action-test.true) c.loop-action.invariant.0 c.lead.ensures.value c.greater-most.ensures,
      some-by (100000 * c.args.budget) c.loop-action.most _ _ c.greater-most.ensures c.loop-action.invariant.1 c.lead.ensures.high,
    )

pub best-returns-clause-value : goal.best-returns-clause-value
best-returns-clause-value t c =
    c.loop-action.invariant.0
    ∙ led-all c.args.terms.now.prices c.args.terms.now.settings c.args.terms.now.units c.args.budget c.args.x.now c.loop-action.action-index c.loop-action-test.false c.requires.fair
