-- Where a table tells of a state.
use Rattle.std.specs.Prelude.{ℕ, true, ◌≡◌, ◌≤◌}
use Rattle.craft_state.specs.Craft.{StateFields}
use Rattle.priced_moves.specs.Moves.{seen_of}
use Rattle.priced_moves.specs.Prices.{worth_of}
use Rattle.priced_graph.specs.Sights.{IsNumber, sights_of}
use Rattle.priced_bound.specs.Bounds.{BoundFields, is_told}
use Rattle.priced_bound.specs.Reckoned.{need_of}
use Rattle.priced_bound.specs.declared.bound.Place.{Place}

-- the table has the place: the budget, the number of what is seen, and the need
pub record IsInTable (b : BoundFields) (place : Place) : Type 0 where
  pub paid : place.budget ≤ b.top
  pub number : IsNumber (sights_of b.by.g) place.seen place.node
  pub need : place.seen.need ≤ need_of b.by

-- the table tells of the state at this place
pub record IsPlace (b : BoundFields) (s : StateFields) (left : ℕ) (place : Place) : Type 0 where
  pub told : is_told b s left ≡ true
  pub budget : place.budget ≡ worth_of b.by.prices s left
  pub seen : place.seen ≡ seen_of b.by.g b.by.units s
  pub has : IsInTable b place
