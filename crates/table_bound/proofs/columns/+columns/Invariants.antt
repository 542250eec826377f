-- A fill leads to a next one only with a budget that is less by the least price: so they nest no deeper than the budget has
-- room for least prices, and one more. In each bucket, the row has the greatest gain of the plans whose first move was tried.
use Rattle.std.proofs.Common.{◌+◌, ◌*◌, ◌/◌}
use Rattle.seat_tables.specs.Seats.{IsOf, StillSees}
use Rattle.table_bound.specs.Columns.{Leads}
use Rattle.table_bound.proofs.columns.+columns.Given as goal

abbrev pub decreases-fill_by : goal.decreases-fill_by
decreases-fill_by g l = l.column.now.budget / (g.T.Bound.rules l.filler.now.shared.now.truth).least * 3

abbrev pub decreases-fill : goal.decreases-fill
decreases-fill g l = l.column.now.budget / (g.T.Bound.rules l.filler.now.shared.now.truth).least * 3 + 1

abbrev pub decreases-lowered : goal.decreases-lowered
decreases-lowered g l = l.column.now.budget / (g.T.Bound.rules l.filler.now.shared.now.truth).least * 3 + 2

abbrev pub invariant-fill_by-loop-action : goal.invariant-fill_by-loop-action
invariant-fill_by-loop-action g l = record {
  of : IsOf l.filler.shared.now l.seat;
  still : StillSees l.fn.seat.view l.seat.view;
  leads : Leads (g.T.Bound.rules l.filler.shared.now.truth) l.column.budget l.column.x l.action-index l.row;
}
