-- The buckets so far were put.
use Rattle.seat_tables.specs.Seats.{IsOf, StillSees}
use Rattle.table_bound.specs.Columns.{SeesBuckets}
use Rattle.table_bound.proofs.columns.put_column.Given as goal

abbrev pub invariant-loop-bucket : goal.invariant-loop-bucket
invariant-loop-bucket g l = record {
  of : IsOf l.shared l.seat;
  still : StillSees l.fn.seat.view l.seat.view;
  seen : SeesBuckets l.bucket (g.T.Bound.rules l.shared.truth) l.column.budget l.column.x l.seat.view;
}
