-- How a core keeps what its seats know.
use Rattle.std.specs.Prelude.{ℕ, ◌+◌, List, map, false, Option, Some, None}
use Rattle.race_core.specs.declared.view.View.{View}
use Rattle.race_core.specs.Events.{gone}

-- what is seen of a seat's state
pub record SeatStateFields : Type 0 where
  pub seen : List ℕ
  pub floor : Option ℕ
  pub steps : ℕ
  pub last : Option (ℕ × ℕ)

module _ {T : Type 0} where
  abbrev pub seat_view : T → SeatStateFields → View T
  seat_view t k = record { truth = Some t; seen = k.seen; floor = k.floor; joined = false; steps = k.steps; last = k.last }

  -- a seat that was joined away has no state
  abbrev pub view_of : T → Option SeatStateFields → View T
  view_of t None = gone
  view_of t (Some k) = seat_view t k

  abbrev pub views_of : T → List (Option SeatStateFields) → List (View T)
  views_of t ks = map (view_of t) ks

-- one more step, at a place, where this word was found
abbrev pub noting : ℕ → ℕ → SeatStateFields → SeatStateFields
noting place word k = record k { steps = k.steps + 1; last = Some (place, word) }
