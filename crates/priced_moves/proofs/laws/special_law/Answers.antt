use Rattle.priced_moves.proofs.Special.{price-steps, worth-steps, AreFair-budget, price-budget, worth-budget}
use Rattle.priced_moves.proofs.laws.special_law.Goals as goal

pub returns-clause-step_price : goal.returns-clause-step_price
returns-clause-step_price c = price-steps

pub returns-clause-step_worth : goal.returns-clause-step_worth
returns-clause-step_worth c = worth-steps

pub returns-clause-budget_fair : goal.returns-clause-budget_fair
returns-clause-budget_fair c = AreFair-budget

pub returns-clause-budget_price : goal.returns-clause-budget_price
returns-clause-budget_price c = price-budget

pub returns-clause-budget_worth : goal.returns-clause-budget_worth
returns-clause-budget_worth c = worth-budget
