use Rattle.prefix_fronts.proofs.Members.{start-open, run-open}
use Rattle.prefix_fronts.proofs.open_law.Goals as goal

pub returns-clause-start : goal.returns-clause-start
returns-clause-start c = start-open

pub returns-clause-after : goal.returns-clause-after
returns-clause-after c = run-open
