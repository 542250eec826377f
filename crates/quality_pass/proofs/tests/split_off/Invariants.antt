-- So many seats were split off.
use Rattle.std.proofs.Common.{◌≡◌, ◌+◌, All, length}
use Rattle.seat_tables.specs.Seats.{IsOf}
use Rattle.quality_pass.proofs.tests.split_off.Given as goal

abbrev pub invariant-loop-seat : goal.invariant-loop-seat
invariant-loop-seat l = record {
  first : IsOf l.table l.first;
  of : All (IsOf l.table) l.seats.items;
  count : length l.seats.items + 1 ≡ l._seat;
}
