use Rattle.relaxed_moves.specs.Budget.{cost_of}
use Rattle.relaxed_moves.specs.Optimum.{one}
use Rattle.relaxed_moves.proofs.Costs.{ArePriced-cost, ArePriced-one}
use Rattle.relaxed_moves.proofs.Reading.{IsGreatestGain-best_plan}
use Rattle.relaxed_moves.proofs.laws.optimum_law.Goals as goal

pub returns-clause-opt : goal.returns-clause-opt
returns-clause-opt c = λ g grain budget x settings. IsGreatestGain-best_plan (cost_of g) g grain budget x (ArePriced-cost g settings)

pub returns-clause-reach : goal.returns-clause-reach
returns-clause-reach c = λ g grain moves x. IsGreatestGain-best_plan one g grain moves x (ArePriced-one g)
