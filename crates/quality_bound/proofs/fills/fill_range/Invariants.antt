-- The columns so far were filled.
use Rattle.seat_tables.specs.Seats.{IsOf, StillSees}
use Rattle.quality_bound.specs.Seen.{SeesEffects}
use Rattle.quality_bound.proofs.fills.fill_range.Given as goal

abbrev pub invariant-loop-effects : goal.invariant-loop-effects
invariant-loop-effects l = record {
  of : IsOf l.shared l.seat;
  still : StillSees l.fn.seat.view l.seat.view;
  seen : SeesEffects l.shared.truth.grain l.beta l.from l.effects l.seat.view;
}
