-- Which places of a budget a seat has seen.
use Rattle.std.specs.Prelude.{ℕ, ◌≡◌, ◌≤◌, ◌<◌, ◌%◌, Contains}
use Rattle.race_core.specs.declared.view.View.{View}
use Rattle.relaxed_moves.specs.Places.{first_at}
use Rattle.relaxed_moves.specs.declared.places.TheConstants.{BUCKET_STATES}

-- each place of the budget whose effects number, which is the place modulo the states of a bucket, is from one bound on and below another
pub record SeesEffects {T : Type 0} (grain budget from to : ℕ) (view : View T) : Type 0 where
  pub seen : (place : ℕ) → first_at grain place ≡ budget → from ≤ place % BUCKET_STATES → place % BUCKET_STATES < to →
      Contains view.seen place
