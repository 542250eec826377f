use Rattle.priced_bound.proofs.Told.{bound-step, bound-last, bound-order}
use Rattle.priced_bound.proofs.laws.limit_law.Goals as goal

pub returns-clause-step : goal.returns-clause-step
returns-clause-step c = λ b s action left are step some. bound-step b s action left are step some

pub returns-clause-last : goal.returns-clause-last
returns-clause-last c = λ b s action left are step some. bound-last b s action left are step some

pub returns-clause-order : goal.returns-clause-order
returns-clause-order c = λ b s t left are within less. bound-order b s t left are within less
