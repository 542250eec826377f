-- What a search for the best macro looks for, and how far it has come.
use Rattle.std.specs.Prelude.{ℕ, List, ◌++◌, Option, ◌≡◌, ◌≢◌, ◌≤◌, Bool, ◌-◌, ◌||◌, nat_le, length, All}
use Rattle.std.specs.List.{list_any}
use Rattle.action_table.specs.Table.{all_actions}
use Rattle.craft_state.specs.Craft.{StateFields}
use Rattle.craft_settings.specs.Ranges.{SettingsFields}
use Rattle.prefix_fronts.specs.Prefix.{Test, IsReachedFrom}
use Rattle.front_walk.specs.Nodes.{goes_and_passes}
use Rattle.priced_bound.specs.Bounds.{BoundFields, promise_in, all_pass}
use Rattle.priced_bound.specs.Reckoned.{AreReckoned}
use Rattle.priced_bound.specs.declared.reckoning.TheConstants.{MOST_LEFT}
use Rattle.quality_sweep.specs.Ahead.{IsGreatestQualityFrom}
use Rattle.best_search.specs.declared.ceiling.Highest.{Highest}

-- a table of the craft, by prices and units that serve
pub record IsTable (g : SettingsFields) (b : BoundFields) : Type 0 where
  pub craft : b.by.g ≡ g
  pub reckoned : AreReckoned b.by

-- a table of the craft by which steps are free
pub record IsFreeTable (g : SettingsFields) (b : BoundFields) : Type 0 where
  pub table : IsTable g b
  pub free : b.by.prices.step ≡ 0

-- what a table promises of a state with the most steps left
abbrev pub free_promise : BoundFields → StateFields → Option ℕ
free_promise b s = promise_in b s MOST_LEFT

-- the greatest quality from a state on, none where no list completes the craft from there, and tables of the craft
pub record IsHighest (g : SettingsFields) (from : StateFields) (highest : Highest) : Type 0 where
  pub greatest : IsGreatestQualityFrom g from highest.quality
  pub tables : All (IsTable g) highest.filled.items

-- a state passes the tests of these tables, and of those
abbrev pub test_of : (target : ℕ) → (these those : List BoundFields) → Test
test_of target these those = all_pass (these ++ those) target

-- each list that completes the craft from a state with this quality has at least n actions
abbrev pub TakesAtLeast : SettingsFields → StateFields → (target n : ℕ) → Type 0
TakesAtLeast g from target n = (reached : IsReachedFrom g from target) → n ≤ length reached.actions

-- none of them has n actions
abbrev pub TakesOther : SettingsFields → StateFields → (target n : ℕ) → Type 0
TakesOther g from target n = (reached : IsReachedFrom g from target) → length reached.actions ≢ n

-- a test lets some list of n actions through: one action may do, or after one of the actions the state passes
abbrev pub lets_through : SettingsFields → StateFields → Test → ℕ → Bool
lets_through g from passes n = nat_le n 1 || list_any (goes_and_passes g passes (n - 1) from) all_actions
