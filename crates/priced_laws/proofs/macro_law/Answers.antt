use Rattle.priced_laws.proofs.Reached.{limit-along, limit-run}
use Rattle.priced_laws.proofs.macro_law.Goals as goal

pub returns-clause-along : goal.returns-clause-along
returns-clause-along c = limit-along

pub returns-clause-within : goal.returns-clause-within
returns-clause-within c = limit-run
