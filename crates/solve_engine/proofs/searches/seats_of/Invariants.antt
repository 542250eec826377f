use Rattle.std.proofs.Common.{◌≡◌, ◌+◌, All, length}
use Rattle.seat_tables.specs.Seats.{IsOf}
use Rattle.solve_engine.proofs.searches.seats_of.Given as goal

abbrev pub invariant-loop-worker : goal.invariant-loop-worker
invariant-loop-worker l = record {
  first : IsOf l.table l.first;
  seats : All (IsOf l.table) l.seats.items;
  as_many : length l.seats.items + 1 ≡ l._worker;
}
