-- The budgets so far are filled.
use Rattle.std.proofs.Common.{ℕ, ◌<◌, All}
use Rattle.seat_tables.specs.Seats.{IsOf}
use Rattle.quality_pass.specs.Answer.{AllStillSee, AllSeeBudget}
use Rattle.quality_pass.proofs.fill_budgets.Given as goal

abbrev pub invariant-loop-budget : goal.invariant-loop-budget
invariant-loop-budget g l = record {
  of : All (IsOf l.shared) l.seats;
  still : AllStillSee l.fn.seats l.seats;
  filled : (b : ℕ) → b < l.budget → AllSeeBudget l.shared.truth.grain b l.seats;
}
