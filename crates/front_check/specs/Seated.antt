-- Tables of the bounds of one craft, with a seat at each.
use Rattle.std.specs.Prelude.{◌≡◌}
use Rattle.relaxed_moves.specs.Scales.{IsScale}
use Rattle.relaxed_moves.specs.declared.scales.Scale.{Scale}
use Rattle.seat_tables.specs.Seats.{SharedFields, SeatFields, IsOf}
use Rattle.quality_bound.specs.declared.truth.QualityTruth.{QualityTruth}
use Rattle.step_bound.specs.declared.truth.StepTruth.{StepTruth}

-- each seat is one of its table, and both tables and the scale are of one craft and grain
pub record AreSeated (quality : SharedFields QualityTruth) (quality_seat : SeatFields QualityTruth)
    (steps : SharedFields StepTruth) (steps_seat : SeatFields StepTruth) (scale : Scale) : Type 0 where
  pub quality_of : IsOf quality quality_seat
  pub steps_of : IsOf steps steps_seat
  pub craft : steps.truth.g ≡ quality.truth.g
  pub grain : steps.truth.grain ≡ quality.truth.grain
  pub scaled : IsScale quality.truth.g quality.truth.grain scale
