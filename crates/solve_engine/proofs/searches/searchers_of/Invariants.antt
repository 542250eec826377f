use Rattle.std.proofs.Common.{◌≡◌, All, length}
use Rattle.seat_tables.specs.Seats.{IsOf}
use Rattle.level_search.specs.Searching.{IsSearcherOf}
use Rattle.solve_engine.proofs.searches.searchers_of.Given as goal

abbrev pub invariant-loop-seat : goal.invariant-loop-seat
invariant-loop-seat l = record {
  first : IsOf l.steps l.first;
  searchers : All (IsSearcherOf l.table l.steps) l.searchers.items;
  as_many : length l.searchers.items ≡ length l.yielded;
}
