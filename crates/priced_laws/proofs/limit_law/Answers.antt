use Rattle.priced_laws.proofs.Limits.{limit-step, limit-last}
use Rattle.priced_laws.proofs.limit_law.Goals as goal

pub returns-clause-step : goal.returns-clause-step
returns-clause-step c = limit-step

pub returns-clause-last : goal.returns-clause-last
returns-clause-last c = limit-last
