use Rattle.priced_laws.proofs.Limits.{limit-not_less}
use Rattle.priced_laws.proofs.Reached.{worth-steps, limit-steps}
use Rattle.priced_laws.proofs.order_law.Goals as goal

pub returns-clause-worth : goal.returns-clause-worth
returns-clause-worth c = λ p g s i j fair more. worth-steps p s i j fair.coin more

pub returns-clause-steps : goal.returns-clause-steps
returns-clause-steps c = limit-steps

pub returns-clause-not_less : goal.returns-clause-not_less
returns-clause-not_less c = limit-not_less
