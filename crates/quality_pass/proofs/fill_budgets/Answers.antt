use Rattle.std.proofs.Common.{arith}
use Rattle.quality_pass.proofs.Seats.{seats_still-trans, budgets-more}
use Rattle.quality_pass.proofs.fill_budgets.Goals as goal

pub loop-budget-preserved : goal.loop-budget-preserved
loop-budget-preserved g c = record {
  of = c.fill_budget.ensures.of;
  still = seats_still-trans c.args.seats.now c.loop-budget.seats c.fill_budget.new.seats (omega arith) c.loop-budget.invariant.still c.fill_budget.ensures.still;
  filled = budgets-more c.args.shared.now.truth.grain c.loop-budget.budget c.loop-budget.seats c.fill_budget.new.seats (omega arith) c.fill_budget.ensures.still c.loop-budget.invariant.filled c.fill_budget.ensures.seen;
}
