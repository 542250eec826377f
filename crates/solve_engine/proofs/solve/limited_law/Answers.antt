use Rattle.solve_engine.proofs.Limited.{are_limited}
use Rattle.solve_engine.proofs.solve.limited_law.Goals as goal

pub returns-clause-limited : goal.returns-clause-limited
returns-clause-limited c =
    are_limited c.args.g.now c.args.grain c.args.actions.now c.start-first.ensures.within.settings c.requires.grain c.requires.complete
    c.start_law.ensures.reached c.start_law.ensures.later c.macro_law.ensures.limit
