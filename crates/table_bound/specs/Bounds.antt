-- What the words of a table of bounds say.
use Rattle.std.specs.Prelude.{ℕ, ◌+◌, ◌≤◌, Option, Some, None}
use Rattle.action_table.specs.declared.action.Action.{Action}
use Rattle.craft_settings.specs.Ranges.{SettingsFields, AreSettings, IsFromTo}
use Rattle.race_core.specs.declared.entry.Entry.{Entry}
use Rattle.race_core.specs.declared.entry.Entry.TheVariants.{NoList, Best}
use Rattle.relaxed_moves.specs.Moves.{RelaxedFields}
use Rattle.relaxed_moves.specs.Optimum.{ArePriced, best_plan}
use Rattle.relaxed_moves.specs.Places.{place_count, first_at, state_at}
use Rattle.relaxed_moves.specs.declared.places.TheConstants.{MOST_BUDGET}

-- the craft, the grain of its buckets, the price of each move, a number that no price is below, and the greatest budget of the table
pub record BoundRules : Type 0 where
  pub g : SettingsFields
  pub grain : ℕ
  pub price : Action → ℕ
  pub least : ℕ
  pub most : ℕ

-- the ranges that the rules of a bound keep
pub record AreBoundRules (r : BoundRules) : Type 0 where
  pub settings : AreSettings r.g
  pub grain : IsFromTo 1 64 r.grain
  pub priced : ArePriced r.price r.g
  pub positive : 1 ≤ r.least
  pub most : r.most ≤ MOST_BUDGET

-- the entry that says an optimum
abbrev pub entry_by : Option ℕ → Entry
entry_by None = NoList
entry_by (Some most) = Best most

-- the greatest gain over all plans within the budget
abbrev pub optimum : BoundRules → ℕ → RelaxedFields → Option ℕ
optimum r budget x = best_plan r.price r.g r.grain budget x

-- the number of places, for each budget up to the greatest
abbrev pub size_by : BoundRules → ℕ
size_by r = place_count r.grain (r.most + 1)

-- the entry of a place says the optimum of the budget and the relaxed state that it stands for
abbrev pub entry_at : BoundRules → ℕ → Entry
entry_at r place = entry_by (optimum r (first_at r.grain place) (state_at r.grain place))
