use Rattle.std.proofs.Common.{arith}
use Rattle.relaxed_moves.specs.Budget.{cost_of}
use Rattle.relaxed_moves.specs.Optimum.{one}
use Rattle.relaxed_moves.proofs.Costs.{ArePriced-cost, ArePriced-one, unit_positive}
use Rattle.relaxed_moves.proofs.Order.{best_plan-no_better}
use Rattle.relaxed_moves.proofs.laws.no_better_law.Goals as goal

pub returns-clause-opt : goal.returns-clause-opt
returns-clause-opt c = λ g grain budget x y settings low bounds worse.
    best_plan-no_better (cost_of g) g grain budget budget x y (ArePriced-cost g settings) (unit_positive g grain settings low) (omega arith) worse bounds

pub returns-clause-reach : goal.returns-clause-reach
returns-clause-reach c = λ g grain moves x y settings low bounds worse.
    best_plan-no_better one g grain moves moves x y (ArePriced-one g) (unit_positive g grain settings low) (omega arith) worse bounds
