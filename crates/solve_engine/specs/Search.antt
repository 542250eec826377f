-- What a search has found.
use Rattle.std.specs.Prelude.{ℕ, ◌≡◌, length}
use Rattle.craft_settings.specs.Ranges.{SettingsFields}
use Rattle.macro_order.specs.Order.{IsBest}
use Rattle.level_search.specs.Answer.{HasQuality}
use Rattle.level_search.specs.Reaching.{front_sizes}
use Rattle.seat_tables.specs.Seats.{IsOf}
use Rattle.solve_engine.specs.declared.searches.Found.{Found}

-- the best macro and the sizes of its fronts, and a seat at the craft's table
pub record IsFound (g : SettingsFields) (grain : ℕ) (f : Found) : Type 0 where
  pub best : IsBest g f.actions.items
  pub quality : ℕ
  pub has : HasQuality g f.actions.items quality
  pub counts : f.counts.items ≡ front_sizes g grain quality (length f.actions.items)
  pub of : IsOf f.table f.seat
  pub craft : f.table.truth.g ≡ g
  pub grain_is : f.table.truth.grain ≡ grain
