-- The buckets so far were read.
use Rattle.std.proofs.Common.{ℕ, ◌<◌, ◌≡◌, ◌+◌, slice_index}
use Rattle.seat_tables.specs.Seats.{IsOf, StillSees}
use Rattle.relaxed_moves.specs.Columns.{coded, at_bucket}
use Rattle.table_bound.specs.Bounds.{optimum}
use Rattle.table_bound.proofs.columns.read_from.Given as goal

abbrev pub invariant-loop-bucket : goal.invariant-loop-bucket
invariant-loop-bucket g l = record {
  of : IsOf l.shared l.seat;
  still : StillSees l.fn.seat.view l.seat.view;
  row : (b : ℕ) → b < l.bucket → slice_index l.row (b + l.down) ≡ coded (optimum (g.T.Bound.rules l.shared.truth) l.column.budget (at_bucket l.column.x b));
}
