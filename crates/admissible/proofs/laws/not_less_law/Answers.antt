use Rattle.admissible.proofs.Reached.{potential-not_less, limit-not_less, within-not_less}
use Rattle.admissible.proofs.laws.not_less_law.Goals as goal

pub returns-clause-potential : goal.returns-clause-potential
returns-clause-potential c = potential-not_less

pub returns-clause-limit : goal.returns-clause-limit
returns-clause-limit c = limit-not_less

pub returns-clause-within : goal.returns-clause-within
returns-clause-within c = within-not_less
