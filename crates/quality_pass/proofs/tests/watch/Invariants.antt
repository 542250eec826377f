use Rattle.seat_tables.specs.Seats.{IsOf}
use Rattle.quality_pass.proofs.tests.watch.Given as goal

abbrev pub invariant-loop-turn : goal.invariant-loop-turn
invariant-loop-turn l = IsOf l.table l.seat
